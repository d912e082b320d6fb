-- The bytes that a sink took of lines.
use Rattle.std.proofs.Common.{◌≡◌, inl, inr, ℕ, suc, List, [], ◌∷◌, ◌++◌, Option, Some, None, take, refl, ap, sym, ◌∙◌, arith}
use Rattle.std.proofs.lemmas.List.{append-nil, take-append-le}
use Rattle.std.specs.Io.KnownBytes.{append_known}
use Rattle.byte_lines.proofs.LawLemmas.{append_known-more}
use Rattle.text_model.specs.Runs.{text_of_lines}
use Rattle.text_model.specs.Words.{Text, line_of}
use Rattle.report.specs.Sinks.{IsCut}
use Rattle.report.specs.Taking.{with_lines, IsFront}

-- no more bytes
nothing_more : (t : Option (List ℕ)) → append_known t [] ≡ t
nothing_more None = refl
nothing_more (Some xs) = ap Some (append-nil xs)

-- the first bytes of none
none_of : (xs : List ℕ) → take 0 xs ≡ []
none_of [] = refl
none_of (x ∷ xs) = refl

-- all of the first bytes and some of the others are first bytes
past : (xs ys : List ℕ) (k : ℕ) → (m : ℕ) × (take m (xs ++ ys) ≡ xs ++ take k ys)
past [] ys k = (k, refl)
past (x ∷ xs) ys k = let r = past xs ys k in (suc r.0, ap (λ (l : List ℕ). x ∷ l) r.1)

-- no byte was taken
none_taken : (t t' : Option (List ℕ)) (bytes : List ℕ) → t' ≡ t → t' ≡ append_known t (take 0 bytes)
none_taken t t' bytes same = same ∙ sym (nothing_more t) ∙ ap (λ (xs : List ℕ). append_known t xs) (sym (none_of bytes))

-- all lines are their bytes
pub all_bytes : (n : ℕ) (t : Option (List ℕ)) (lines : List (List Text)) → with_lines append_known n t lines ≡ append_known t (text_of_lines n lines)
all_bytes n t [] = sym (nothing_more t)
all_bytes n t (words ∷ lines) = all_bytes n (append_known t (line_of n words)) lines ∙ append_known-more t (line_of n words) (text_of_lines n lines)

-- a front of lines is a front of their bytes
pub first_bytes : (n : ℕ) (t t' : Option (List ℕ)) (lines : List (List Text)) → IsFront append_known IsCut n t lines t' → (k : ℕ) × (t' ≡ append_known t (take k (text_of_lines n lines)))
first_bytes n t t' [] same = (0, none_taken t t' (text_of_lines n []) same)
first_bytes n t t' (words ∷ lines) (inl same) = (0, none_taken t t' (text_of_lines n (words ∷ lines)) same)
first_bytes n t t' (words ∷ lines) (inr (inl (k, below, is))) =
    (k, is ∙ ap (λ (xs : List ℕ). append_known t xs) (sym (take-append-le k (line_of n words) (text_of_lines n lines) (omega (arith, below)))))
first_bytes n t t' (words ∷ lines) (inr (inr more)) =
    let r = first_bytes n (append_known t (line_of n words)) t' lines more in
    let p = past (line_of n words) (text_of_lines n lines) r.0 in
    (p.0, r.1 ∙ append_known-more t (line_of n words) (take r.0 (text_of_lines n lines)) ∙ ap (λ (xs : List ℕ). append_known t xs) (sym p.1))
