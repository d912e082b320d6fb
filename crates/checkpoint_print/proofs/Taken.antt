-- Lists from which items are taken one after another.
use Rattle.std.proofs.Common.{add-one, ◌≡◌, ℕ, zero, suc, ◌+◌, List, [], ◌∷◌, Option, Some, None, drop, map, option_map, slice_get, refl, ap, sym, ◌∙◌}
use Rattle.std.specs.declared.cmp.Ordering.{Ordering}
use Rattle.view_map.specs.Walk.{entries_past}
use Rattle.checkpoint_print.specs.Sources.{given_then}

-- each of what is given and what is left
pub map_given : {A B : Type 0} (f : A → B) (r : Option A) (left : List A) → map f (given_then r left) ≡ given_then (option_map f r) (map f left)
map_given f None left = refl
map_given f (Some x) left = refl

-- ---- by index

there : {X : Type 0} (xs : List X) (i : ℕ) → drop i xs ≡ given_then (slice_get xs i) (drop (suc i) xs)
there [] zero = refl
there [] (suc i) = refl
there (x ∷ xs) zero = refl
there (x ∷ xs) (suc i) = there xs i

-- the items from an index on are the item there and those behind it
pub at_index : {X : Type 0} (xs : List X) (i : ℕ) → drop i xs ≡ given_then (slice_get xs i) (drop (i + 1) xs)
at_index {X} xs i = there xs i ∙ ap (λ (k : ℕ). given_then (slice_get xs i) (drop k xs)) (sym (add-one i))

-- the same of what is made of each
pub made_at : {X Y : Type 0} (f : X → Y) (xs : List X) (i : ℕ) (r : Option X) → r ≡ slice_get xs i → map f (drop i xs) ≡ given_then (option_map f r) (map f (drop (i + 1) xs))
made_at {X} {Y} f xs i r is =
    ap (map f) (at_index xs i ∙ ap (λ (o : Option X). given_then o (drop (i + 1) xs)) (sym is)) ∙ map_given f r (drop (i + 1) xs)

-- ---- by key

-- past no key come all entries
pub all_entries : {K X : Type 0} (cmp : K → K → Ordering) (es : List (K × X)) → entries_past cmp None es ≡ es
all_entries cmp [] = refl
all_entries {K} {X} cmp (e ∷ es) = ap (λ (l : List (K × X)). e ∷ l) (all_entries cmp es)
