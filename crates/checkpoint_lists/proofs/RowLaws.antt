-- The lines of a group are those of its items.
use Rattle.std.proofs.Common.{◌≡◌, ◌++◌, Bool, true, false, ◌&&◌, List, [], ◌∷◌, flat_map, map, refl, ap, sym, ◌∙◌, append_assoc}
use Rattle.std.proofs.lemmas.List.Concat.{flat_map_single}
use Rattle.text_model.specs.Words.{Text}
use Rattle.line_parts.specs.Parts.{both_have, words_of_both}
use Rattle.checkpoint_lists.specs.Rows.{are_rows, rows_of}

-- items, each with those behind it
pub rows_same : {A B : Type 0} (line : A → List Text) (inner : B → List Text) (xs : List (A × List B))
    → flat_map (words_of_both (λ x. line x ∷ []) (flat_map (λ y. inner y ∷ []))) xs ≡ flat_map (rows_of line inner) xs
rows_same line inner [] = refl
rows_same line inner (x ∷ xs) =
    ap (λ (t : List (List Text)). (line x.0 ∷ t) ++ flat_map (words_of_both (λ x. line x ∷ []) (flat_map (λ y. inner y ∷ []))) xs) (flat_map_single inner x.1)
    ∙ ap (λ (t : List (List Text)). rows_of line inner x ++ t) (rows_same line inner xs)

-- tests one after another
and3 : (a b c : Bool) → (a && (b && c)) ≡ (a && b && c)
and3 true b c = refl
and3 false b c = refl

pub and4 : (a b c d : Bool) → (a && (b && (c && d))) ≡ (a && b && c && d)
and4 true b c d = and3 b c d
and4 false b c d = refl

pub and5 : (a b c d e : Bool) → (a && (b && (c && (d && e)))) ≡ (a && b && c && d && e)
and5 true b c d e = and4 b c d e
and5 false b c d e = refl

pub and6 : (a b c d e f : Bool) → (a && (b && (c && (d && (e && f))))) ≡ (a && b && c && d && e && f)
and6 true b c d e f = and5 b c d e f
and6 false b c d e f = refl

pub and7 : (a b c d e f g : Bool) → (a && (b && (c && (d && (e && (f && g)))))) ≡ (a && b && c && d && e && f && g)
and7 true b c d e f g = and6 b c d e f g
and7 false b c d e f g = refl

pub and_true : (a : Bool) → (a && true) ≡ a
and_true true = refl
and_true false = refl

-- tests in pairs
pub and_pairs : (a b c d e f g : Bool) → ((a && b) && ((c && d) && (e && (f && g)))) ≡ (a && b && c && d && e && f && g)
and_pairs true true true d e f g = and4 d e f g
and_pairs true true false d e f g = refl
and_pairs true false c d e f g = refl
and_pairs false b c d e f g = refl

-- lists one after another
nest3 : {A : Type 0} (a b c : List A) → a ++ (b ++ c) ≡ a ++ b ++ c
nest3 a b c = sym (append_assoc a b c)

pub nest4 : {A : Type 0} (a b c d : List A) → a ++ (b ++ (c ++ d)) ≡ a ++ b ++ c ++ d
nest4 a b c d = nest3 a b (c ++ d) ∙ nest3 (a ++ b) c d

pub nest5 : {A : Type 0} (a b c d e : List A) → a ++ (b ++ (c ++ (d ++ e))) ≡ a ++ b ++ c ++ d ++ e
nest5 a b c d e = nest4 a b c (d ++ e) ∙ nest3 (a ++ b ++ c) d e

-- lists in pairs
pub nest_pairs : {A : Type 0} (a b c d e f g : List A) → (a ++ b) ++ ((c ++ d) ++ (e ++ (f ++ g))) ≡ a ++ b ++ c ++ d ++ e ++ f ++ g
nest_pairs a b c d e f g =
    nest3 (a ++ b) (c ++ d) (e ++ (f ++ g))
    ∙ ap (λ t. t ++ (e ++ (f ++ g))) (nest3 (a ++ b) c d)
    ∙ nest4 (a ++ b ++ c ++ d) e f g
