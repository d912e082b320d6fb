-- Lines with their line feeds, compared with texts.
use Rattle.std.proofs.Common.{◌≡◌, ℕ, ◌++◌, ◌==◌, ◌&&◌, Bool, true, false, List, [], ◌∷◌, bytes_eq, refl, ap, ◌∙◌}
use Rattle.std.proofs.Math.Bool.{and-true, and-false}
use Rattle.claim_checks.specs.Lines.{is_line_of}

-- one byte more in front
one_more : (e p q r : Bool) → p ≡ q && r → (e && p) ≡ (e && q) && r
one_more true p q r same = same
one_more false p q r same = refl

-- lists with a last byte each, by what stands before
pub last_same : (xs ys : List ℕ) (a b : ℕ) → bytes_eq (xs ++ a ∷ []) (ys ++ b ∷ []) ≡ bytes_eq xs ys && (a == b)
last_same [] [] a b = and-true (a == b)
last_same [] (y ∷ []) a b = and-false (a == y)
last_same [] (y ∷ z ∷ ys) a b = and-false (a == y)
last_same (x ∷ []) [] a b = and-false (x == b)
last_same (x ∷ z ∷ xs) [] a b = and-false (x == b)
last_same (x ∷ xs) (y ∷ ys) a b = one_more (x == y) (bytes_eq (xs ++ a ∷ []) (ys ++ b ∷ [])) (bytes_eq xs ys) (a == b) (last_same xs ys a b)

-- a line by its last byte and what stands before
pub by_last : (line before text : List ℕ) (last : ℕ) (is_feed : Bool) → line ≡ before ++ last ∷ [] → (last == 10) ≡ is_feed → is_line_of line text ≡ bytes_eq before text && is_feed
by_last line before text last is_feed is feed =
    ap (λ (l : List ℕ). is_line_of l text) is ∙ last_same before text last 10 ∙ ap (λ (b : Bool). bytes_eq before text && b) feed
