-- Walks over a list by index: what is told so far, and the names that were seen.
use Rattle.std.proofs.Common.{◌≡◌, ℕ, ◌+◌, ◌<◌, List, [], ◌∷◌, Bool, true, false, not, drop, get_or, length, map, take, ap, sym, ◌∙◌}
use Rattle.std.specs.declared.cmp.Ordering.{Ordering}
use Rattle.std.specs.Cmp.{IsTotalOrder}
use Rattle.std.proofs.lemmas.List.{at_drop_more, map_more, take-map}
use Rattle.std.proofs.lemmas.List.Sums.{fold-append}
use Rattle.maps.proofs.Sets.{has_member-in_order}
use Rattle.maps.specs.Maps.{has_member, in_order, with_key}
use Rattle.genesis_problems.specs.declared.problem.GenesisProblem.{GenesisProblem}
use Rattle.genesis_problems.specs.Problems.{is_named_before, per_index_from, told_with}
use Rattle.genesis_problems.proofs.Telling.{Tests, told_both}

module _ {X Y : Type 0} (tests : ℕ → Y → Tests) (f : X → Y) where
  -- told with the tests of what is left from the index i on
  abbrev pub told_from : ℕ → List X → List GenesisProblem → List GenesisProblem
  told_from i xs told = told_with (per_index_from tests i (map f xs)) told

  -- told with the tests of the item at i, and then of the others
  pub told_next : (xs : List X) (i : ℕ) (d : X) (told now : List GenesisProblem) → i < length xs → now ≡ told_with (tests i (f (get_or xs i d))) told
      → told_from (i + 1) (drop (i + 1) xs) now ≡ told_from i (drop i xs) told
  told_next xs i d told now h e =
      ap (told_from (i + 1) (drop (i + 1) xs)) e
      ∙ told_both (tests i (f (get_or xs i d))) (per_index_from tests (i + 1) (map f (drop (i + 1) xs))) told
      ∙ sym (at_drop_more (λ (l : List X). told_from i l told) xs i d h)

module _ {A K : Type 0} {cmp order : K → K → Ordering} (same : cmp ≡ order) (name : A → K) (xs : List A) (i : ℕ) (x : A) (h : i < length xs) (at : x ≡ get_or xs i x) {k : K} (named : k ≡ name x) (keys : List K) (seen : keys ≡ in_order order (map name (take i xs))) where
  -- the names seen, with that of the item at i
  pub seen_next : (now : List K) → now ≡ with_key cmp k keys → now ≡ in_order order (map name (take (i + 1) xs))
  seen_next now put =
      put
      ∙ (λ j. with_key (same j) (named j) (seen j))
      ∙ (λ j. with_key order (name (at j)) (in_order order (map name (take i xs))))
      ∙ sym (fold-append (λ (s : List K) (q : K). with_key order q s) [] (map name (take i xs)) (name (get_or xs i x) ∷ []))
      ∙ ap (in_order order) (sym (map_more name xs i x h))

  -- whether its name was seen is whether it stands before
  pub seen_is : IsTotalOrder order → has_member cmp keys k ≡ is_named_before order (map name xs) i (name (get_or xs i x))
  seen_is o =
      (λ j. has_member (same j) (seen j) (named j))
      ∙ (λ j. has_member order (in_order order (map name (take i xs))) (name (at j)))
      ∙ has_member-in_order o (map name (take i xs)) (name (get_or xs i x))
      ∙ ap (λ (ks : List K). has_member order ks (name (get_or xs i x))) (sym (take-map name i xs))

-- an answer that is the opposite of a test, denied
pub denied : (a b : Bool) → b ≡ not a → not b ≡ a
denied true b e = ap not e
denied false b e = ap not e
