-- Names that are seen one after another, and the first that occurs twice.
use Rattle.std.proofs.Common.{◌≡◌, ℕ, ◌+◌, ◌<◌, List, [], ◌∷◌, Bool, true, false, not, map, length, get_or, drop, ap, sym, ◌∙◌, subst}
use Rattle.std.specs.declared.cmp.Ordering.{Ordering}
use Rattle.std.specs.Cmp.{IsTotalOrder}
use Rattle.std.proofs.lemmas.List.{at_drop_more}
use Rattle.maps.proofs.Fresh.{seen_or_repeats, seen_or_repeats-none, seen_or_repeats-seen, seen_or_repeats-more}
use Rattle.maps.proofs.Joined.{no_from_not, yes_from_not}
use Rattle.maps.specs.Maps.{has_member, with_key}
use Rattle.maps.specs.Words.{repeats}

-- the keys are put in by an order that is the stated one
module _ {K A : Type 0} {cmp order : K → K → Ordering} (same : cmp ≡ order) (name : A → K) where
  -- before the first
  pub seen_none : (seen : List K) (xs : List A) → seen ≡ [] → seen_or_repeats order seen (map name xs) ≡ repeats order (map name xs)
  seen_none seen xs e = ap (λ (ks : List K). seen_or_repeats order ks (map name xs)) e ∙ seen_or_repeats-none order (map name xs)

  module _ (seen : List K) (xs : List A) (i : ℕ) (x : A) (l : i < length xs) (at : x ≡ get_or xs i x) {k : K} (named : k ≡ name x) {is_new : Bool} (new : is_new ≡ not (has_member cmp seen k)) where
    -- what is left begins with the item x
    left_from : seen_or_repeats order seen (map name (drop i xs)) ≡ seen_or_repeats order seen (name x ∷ map name (drop (i + 1) xs))
    left_from =
        at_drop_more (λ (left : List A). seen_or_repeats order seen (map name left)) xs i x l
        ∙ ap (λ (y : A). seen_or_repeats order seen (name y ∷ map name (drop (i + 1) xs))) (sym at)

    is_new-by : is_new ≡ not (has_member order seen (name x))
    is_new-by = new ∙ λ j. not (has_member (same j) seen (named j))

    -- its name was seen
    pub seen_stop : is_new ≡ false → seen_or_repeats order seen (map name (drop i xs)) ≡ true
    seen_stop old = left_from ∙ seen_or_repeats-seen order seen (name x) (map name (drop (i + 1) xs)) (yes_from_not _ _ is_new-by old)

    -- its name was not, and is one of those that were seen now
    pub seen_step : IsTotalOrder cmp → is_new ≡ true → (now : List K) → now ≡ with_key cmp k seen
        → seen_or_repeats order now (map name (drop (i + 1) xs)) ≡ seen_or_repeats order seen (map name (drop i xs))
    seen_step o first now put =
        ap (λ (ks : List K). seen_or_repeats order ks (map name (drop (i + 1) xs))) (put ∙ λ j. with_key (same j) (named j) seen)
        ∙ sym (seen_or_repeats-more (subst (λ R. IsTotalOrder R) same o) seen (name x) (map name (drop (i + 1) xs)) (no_from_not _ _ is_new-by first))
        ∙ sym left_from
