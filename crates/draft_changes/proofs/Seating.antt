-- A member has a hot key if and only if it is found among what the members have.
use Rattle.std.proofs.Common.{◌≡◌, List, [], ◌∷◌, Bool, true, false, ◌&&◌, ◌||◌, cond, Option, Some, None, refl, ap, sym, ◌∙◌}
use Rattle.std.specs.declared.cmp.Ordering.{Ordering}
use Rattle.std.specs.Ordering.{eq_by_cmp}
use Rattle.std.specs.Cmp.{IsTotalOrder}
use Rattle.std.specs.List.{list_any}
use Rattle.std.specs.List.Sorted.{IsStrictlySortedBy}
use Rattle.maps.proofs.Joined.{and_false, or_pairs}
use Rattle.maps.proofs.Lookups.{none_below}
use Rattle.maps.proofs.Placed.{value_at_tied}
use Rattle.maps.specs.Maps.{IsMap, entries_where, value_at}
use Rattle.maps.specs.Words.{some_and}

distributed : (a b c : Bool) → ((a && b) || (c && b)) ≡ ((a || c) && b)
distributed true true c = refl
distributed true false c = and_false c
distributed false b c = refl

module _ {A : Type 0} where
  any_none : (xs : List A) → list_any (λ x. false) xs ≡ false
  any_none [] = refl
  any_none (x ∷ xs) = any_none xs

  any_either : (f g : A → Bool) (xs : List A) → list_any (λ x. f x || g x) xs ≡ (list_any f xs || list_any g xs)
  any_either f g [] = refl
  any_either f g (x ∷ xs) = ap (λ b. (f x || g x) || b) (any_either f g xs) ∙ or_pairs (f x) (g x) (list_any f xs) (list_any g xs)

  any_with : (f : A → Bool) (b : Bool) (xs : List A) → list_any (λ x. f x && b) xs ≡ (list_any f xs && b)
  any_with f b [] = refl
  any_with f b (x ∷ xs) = ap (λ r. (f x && b) || r) (any_with f b xs) ∙ distributed (f x) b (list_any f xs)

module _ {K X : Type 0} {cmp : K → K → Ordering} (o : IsTotalOrder cmp) (p : X → Bool) where
  or_false : (a : Bool) → a ≡ (a || false)
  or_false true = refl
  or_false false = refl

  -- what k has passes: the first entry is its own and passes, or what it has among the others does
  found_first : (k : K) (e : K × X) (es : List (K × X)) → value_at cmp es e.0 ≡ None
      → some_and p (value_at cmp (e ∷ es) k) ≡ ((eq_by_cmp cmp k e.0 && p e.1) || some_and p (value_at cmp es k))
  found_first k e es absent =
      elim (eq_by_cmp cmp k e.0) as (λ b. eq_by_cmp cmp k e.0 ≡ b
      → some_and p (cond b (Some e.1) (value_at cmp es k)) ≡ ((b && p e.1) || some_and p (value_at cmp es k))) [
        | true ↦ λ t. or_false (p e.1) ∙ ap (λ (v : Option X). p e.1 || some_and p v) (sym absent ∙ value_at_tied o k e.0 es t)
        | false ↦ λ t. refl
      ] refl

  -- none is left to pass
  pub any_of_none : (es : List (K × X)) → false ≡ list_any (λ (h : K × X). p h.1) (entries_where (λ k x. false) es)
  any_of_none [] = refl
  any_of_none (e ∷ es) = any_of_none es

  first_passes : (b : Bool) (e : K × X) (es : List (K × X)) → list_any (λ (h : K × X). p h.1) (cond b (e ∷ es) es) ≡ ((b && p e.1) || list_any (λ (h : K × X). p h.1) es)
  first_passes true e es = refl
  first_passes false e es = refl

  module _ {M : Type 0} (ms : List (K × M)) where
    abbrev is_among : K → Bool
    is_among k = list_any (λ (m : K × M). eq_by_cmp cmp m.0 k) ms

    -- an entry whose key is among these passes if and only if what one of these has passes
    pub any_among : (es : List (K × X)) → IsMap cmp es
        → list_any (λ (h : K × X). p h.1) (entries_where (λ k x. is_among k) es) ≡ list_any (λ (m : K × M). some_and p (value_at cmp es m.0)) ms
    unfolding IsStrictlySortedBy
    any_among [] h = sym (any_none ms)
    any_among (e ∷ es) h =
        let absent : value_at cmp es e.0 ≡ None = none_below cmp e.0 es h.0 in
        first_passes (is_among e.0) e (entries_where (λ k x. is_among k) es)
        ∙ ap (λ r. (is_among e.0 && p e.1) || r) (any_among es h.1)
        ∙ ap (λ r. r || list_any (λ (m : K × M). some_and p (value_at cmp es m.0)) ms) (sym (any_with (λ (m : K × M). eq_by_cmp cmp m.0 e.0) (p e.1) ms))
        ∙ sym (any_either (λ (m : K × M). eq_by_cmp cmp m.0 e.0 && p e.1) (λ (m : K × M). some_and p (value_at cmp es m.0)) ms)
        ∙ (λ i. list_any (λ (m : K × M). sym (found_first m.0 e es absent) i) ms)
