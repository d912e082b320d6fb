-- The lines of a group are those of its items.
use Rattle.std.proofs.Common.{◌≡◌, ◌++◌, Bool, true, false, ◌&&◌, List, refl, ap, sym, ◌∙◌, append_assoc}

-- tests one after another
pub and3 : (a b c : Bool) → (a && (b && c)) ≡ (a && b && c)
and3 true b c = refl
and3 false b c = refl

pub and4 : (a b c d : Bool) → (a && (b && (c && d))) ≡ (a && b && c && d)
and4 true b c d = and3 b c d
and4 false b c d = refl

and5 : (a b c d e : Bool) → (a && (b && (c && (d && e)))) ≡ (a && b && c && d && e)
and5 true b c d e = and4 b c d e
and5 false b c d e = refl

pub and6 : (a b c d e f : Bool) → (a && (b && (c && (d && (e && f))))) ≡ (a && b && c && d && e && f)
and6 true b c d e f = and5 b c d e f
and6 false b c d e f = refl

-- lists one after another
pub nest3 : {A : Type 0} (a b c : List A) → a ++ (b ++ c) ≡ a ++ b ++ c
nest3 a b c = sym (append_assoc a b c)

pub nest4 : {A : Type 0} (a b c d : List A) → a ++ (b ++ (c ++ d)) ≡ a ++ b ++ c ++ d
nest4 a b c d = nest3 a b (c ++ d) ∙ nest3 (a ++ b) c d

-- four lists after one
pub after4 : {A : Type 0} (x a b c d : List A) → x ++ (a ++ b ++ c ++ d) ≡ x ++ a ++ b ++ c ++ d
after4 x a b c d =
    nest3 x (a ++ b ++ c) d
    ∙ ap (λ t. t ++ d) (nest3 x (a ++ b) c)
    ∙ ap (λ t. t ++ c ++ d) (nest3 x a b)
