-- The references of a list one after another, each with those before it.
use Rattle.std.proofs.Common.{◌≡◌, ℕ, ◌+◌, ◌<◌, List, [], ◌∷◌, ◌++◌, Bool, true, false, not, ◌||◌, cond, Option, Some, option_map, find, length, take, drop, get_or, refl, sym, ap, ◌∙◌, add-one, arith}
use Rattle.std.proofs.Math.Seq.{take-suc}
use Rattle.std.proofs.lemmas.Cmp.{eq_by_cmp_equiv}
use Rattle.std.proofs.lemmas.List.{at_drop_more, length-take-le}
use Rattle.std.specs.List.{list_any}
use Rattle.gov_ids.specs.declared.OutRef.{OutRef}
use Rattle.gov_ids.specs.Orders.{outref_cmp}
use Rattle.gov_ids.specs.Same.{same_outref}
use Rattle.gov_ids.proofs.Totals.{outref_total}
use Rattle.gov_ids.proofs.proofs_of_maps.Joined.{no_from_not, or_swap, yes_from_not}
use Rattle.gov_ids.proofs.proofs_of_maps.Sets.{has_member-with_key}
use Rattle.gov_ids.specs.of_maps.Maps.{has_member, with_key}
use Rattle.gov_ids.specs.of_maps.Words.{among, fronts_from}
use Rattle.out_refs.specs.Repeated.{is_among_front, place_of}

-- the first of these that is repeated, where front stands before them
abbrev pub first_repeated_after : List OutRef → List OutRef → Option ℕ
first_repeated_after front refs = option_map place_of (find is_among_front (fronts_from front refs))

at_first : (b : Bool) (front : List OutRef) (x : OutRef) (rest : List (List OutRef × OutRef)) → is_among_front (front, x) ≡ b
    → option_map place_of (find is_among_front ((front, x) ∷ rest)) ≡ cond b (Some (length front)) (option_map place_of (find is_among_front rest))
at_first true front x rest e = rw e refl
at_first false front x rest e = rw e refl

module _ (refs : List OutRef) (i : ℕ) (d : OutRef) (l : i < length refs) where
  -- the reference at the place i
  abbrev here : OutRef
  here = get_or refs i d

  -- those before the next place
  taken : take (i + 1) refs ≡ take i refs ++ here ∷ []
  taken = ap (λ (k : ℕ). take k refs) (add-one i) ∙ take-suc refs i d l

  -- it does not stand before
  pub not_before : among same_outref here (take i refs) ≡ false
      → first_repeated_after (take (i + 1) refs) (drop (i + 1) refs) ≡ first_repeated_after (take i refs) (drop i refs)
  not_before e =
      ap (λ (front : List OutRef). first_repeated_after front (drop (i + 1) refs)) taken
      ∙ sym (at_drop_more (first_repeated_after (take i refs)) refs i d l
      ∙ at_first false (take i refs) here (fronts_from (take i refs ++ here ∷ []) (drop (i + 1) refs)) e)

  -- it does
  pub before : among same_outref here (take i refs) ≡ true → Some i ≡ first_repeated_after (take i refs) (drop i refs)
  before e =
      ap (λ (n : ℕ). let o : Option ℕ = Some n in o) (sym (length-take-le i refs (omega arith)))
      ∙ sym (at_drop_more (first_repeated_after (take i refs)) refs i d l
      ∙ at_first true (take i refs) here (fronts_from (take i refs ++ here ∷ []) (drop (i + 1) refs)) e)

any_last : (p : OutRef → Bool) (front : List OutRef) (x : OutRef) → list_any p (front ++ x ∷ []) ≡ (p x || list_any p front)
any_last p [] x = refl
any_last p (y ∷ front) x = ap (λ (b : Bool). p y || b) (any_last p front x) ∙ or_swap (p y) (p x) (list_any p front)

-- a set has those that stand before
abbrev pub HasFront : List OutRef → List OutRef → Type 0
HasFront seen front = (k : OutRef) → has_member outref_cmp seen k ≡ among same_outref k front

module _ (refs : List OutRef) (i : ℕ) (d : OutRef) (l : i < length refs) (seen : List OutRef) (h : HasFront seen (take i refs)) (is_new : Bool)
    (new : is_new ≡ not (has_member outref_cmp seen (get_or refs i d))) where
  -- the reference at the place i was in the set
  pub seen_before : is_new ≡ false → Some i ≡ first_repeated_after (take i refs) (drop i refs)
  seen_before e = before refs i d l (sym (h (get_or refs i d)) ∙ yes_from_not _ is_new new e)

  -- it was not
  pub not_seen : is_new ≡ true → first_repeated_after (take (i + 1) refs) (drop (i + 1) refs) ≡ first_repeated_after (take i refs) (drop i refs)
  not_seen e = not_before refs i d l (sym (h (get_or refs i d)) ∙ no_from_not _ is_new new e)

  -- with it
  pub one_more : HasFront (with_key outref_cmp (get_or refs i d) seen) (take (i + 1) refs)
  one_more k =
      has_member-with_key outref_total (get_or refs i d) seen k
      ∙ (λ j. (eq_by_cmp_equiv outref_total).symm (get_or refs i d) k j || h k j)
      ∙ sym (ap (among same_outref k) (taken refs i d l) ∙ any_last (same_outref k) (take i refs) (get_or refs i d))
