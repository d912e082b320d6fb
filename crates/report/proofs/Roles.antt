-- The counts and needs of the roles, some after others.
use Rattle.std.proofs.Common.{◌≡◌, ℕ, List, [], ◌∷◌, ◌++◌, codes, flat_map, zip, length, slice_index_or, ap, sym, ◌∙◌, append_assoc, refl, arith}
use Rattle.std.proofs.lemmas.Grind.{flat_map-append}
use Rattle.text_model.specs.of_gov_actions.declared.tally.Need.{Need}
use Rattle.text_model.specs.EpochLines.{role_texts, role_words}
use Rattle.text_model.specs.Words.{Text, spaced}

-- a list of three is its items
three : {A : Type 0} (xs : List A) (a b d : A) → length xs ≡ 3 → xs ≡ slice_index_or xs 0 a ∷ slice_index_or xs 1 b ∷ slice_index_or xs 2 d ∷ []
three [] a b d e = absurd (omega (arith, e))
three (x ∷ []) a b d e = absurd (omega (arith, e))
three (x ∷ y ∷ []) a b d e = absurd (omega (arith, e))
three (x ∷ y ∷ z ∷ []) a b d e = refl
three (x ∷ y ∷ z ∷ w ∷ ws) a b d e = absurd (omega (arith, e))

-- words that are added after others
joined : (old : Text) (a b : List Text) → (old ++ spaced a) ++ spaced b ≡ old ++ spaced (a ++ b)
joined old a b = append_assoc old (spaced a) (spaced b) ∙ ap (λ (t : Text). old ++ t) (sym (flat_map-append (λ (word : Text). 32 ∷ word) a b))

-- words that are added in three parts
in_parts : (old first second new : Text) (a b d : List Text) → first ≡ old ++ spaced a → second ≡ first ++ spaced b → new ≡ second ++ spaced d → new ≡ old ++ spaced (a ++ b ++ d)
in_parts old first second new a b d is then last =
    last
    ∙ ap (λ (t : Text). t ++ spaced d) (then ∙ ap (λ (t : Text). t ++ spaced b) is ∙ joined old a b)
    ∙ joined old (a ++ b) d

-- the words of all roles
of_roles : List (ℕ × ℕ) → List Need → List Text
of_roles counts needs = flat_map (λ (x : Text × ((ℕ × ℕ) × Need)). role_words (x.0, x.1.0, x.1.1)) (zip role_texts (zip counts needs))

-- the words of all roles, added role by role
pub role_by_role : (old first second new : Text) (counts : List (ℕ × ℕ)) (needs : List Need) (a b d : Need) → length counts ≡ 3 → length needs ≡ 3
    → first ≡ old ++ spaced (role_words (codes "committee", slice_index_or counts 0 (0, 0), slice_index_or needs 0 a))
    → second ≡ first ++ spaced (role_words (codes "drep", slice_index_or counts 1 (0, 0), slice_index_or needs 1 b))
    → new ≡ second ++ spaced (role_words (codes "pool", slice_index_or counts 2 (0, 0), slice_index_or needs 2 d))
    → new ≡ old ++ spaced (flat_map (λ (x : Text × ((ℕ × ℕ) × Need)). role_words (x.0, x.1.0, x.1.1)) (zip role_texts (zip counts needs)))
unfolding of_roles
role_by_role old first second new counts needs a b d counted needed is then last =
    let zero : ℕ × ℕ = (0, 0) in
    in_parts old first second new
    (role_words (codes "committee", slice_index_or counts 0 zero, slice_index_or needs 0 a))
    (role_words (codes "drep", slice_index_or counts 1 zero, slice_index_or needs 1 b))
    (role_words (codes "pool", slice_index_or counts 2 zero, slice_index_or needs 2 d)) is then last
    ∙ ap (λ (words : List Text). old ++ spaced words) (sym (
    ap (λ (l : List (ℕ × ℕ)). of_roles l needs) (three counts zero zero zero counted)
    ∙ ap (λ (l : List Need). of_roles (slice_index_or counts 0 zero ∷ slice_index_or counts 1 zero ∷ slice_index_or counts 2 zero ∷ []) l) (three needs a b d needed)))
