-- What the values of a map add up to after a change.
use Rattle.std.proofs.Common.{◌≡◌, ℕ, ◌+◌, List, [], ◌∷◌, true, false, cond, Option, Some, None, unwrap_or, refl, ap, sym, ◌∙◌, arith}
use Rattle.std.specs.declared.cmp.Ordering.{Ordering}
use Rattle.std.specs.declared.cmp.Ordering.TheVariants.{Less, Equal, Greater}
use Rattle.std.specs.Ordering.{is_eq, eq_by_cmp, match_ordering}
use Rattle.std.specs.Cmp.{IsTotalOrder}
use Rattle.std.specs.List.Sorted.{IsStrictlySortedBy}
use Rattle.std.specs.Map.{keys_of, values_of}
use Rattle.std.proofs.lemmas.List.Sums.{sum_by-cons}
use Rattle.std.proofs.lemmas.Map.Entries.{sum_by-insert_entry, sum_by-remove_entry}
use Rattle.maps.proofs.Lookups.{none_below}
use Rattle.maps.proofs.Placed.{changed_at_absent}
use Rattle.maps.proofs.Ties.{is_equal, all_tied}
use Rattle.maps.specs.Maps.{IsMap, value_at, with_value, without_key, changed_at, sum_values}
use Rattle.maps.specs.Words.{amount}

-- a number that is there, or 0, as an amount
pub as_amount : (o : Option ℕ) → unwrap_or o 0 ≡ amount (λ v. v) o
as_amount None = refl
as_amount (Some v) = refl

module _ {K X : Type 0} (f : X → ℕ) (cmp : K → K → Ordering) where
  sum_values-cons : (e : K × X) (es : List (K × X)) → sum_values f (e ∷ es) ≡ f e.1 + sum_values f es
  sum_values-cons e es = sum_by-cons f e.1 (values_of es)

  pub sum_values-with_value_absent : (k : K) (v : X) (es : List (K × X)) → value_at cmp es k ≡ None → sum_values f (with_value cmp k v es) ≡ sum_values f es + f v
  sum_values-with_value_absent k v [] m = omega (arith, sum_by-cons f v [])
  sum_values-with_value_absent k v (e ∷ es) m =
      elim (cmp k e.0) as (λ r. cond (is_eq r) (Some e.1) (value_at cmp es k) ≡ None → sum_values f (match_ordering r ((k, v) ∷ e ∷ es) ((e.0, v) ∷ es) (e ∷ with_value cmp k v es)) ≡ sum_values f (e ∷ es) + f v) [
        | Less ↦ λ m. omega (arith, sum_values-cons (k, v) (e ∷ es))
        | Equal ↦ λ m. cc
        | Greater ↦ λ m. omega (arith, sum_values-cons e (with_value cmp k v es), sum_values-cons e es, sum_values-with_value_absent k v es m)
      ] m

  pub sum_values-without_key : (k : K) (v : X) (es : List (K × X)) → value_at cmp es k ≡ Some v → sum_values f (without_key cmp k es) + f v ≡ sum_values f es
  sum_values-without_key k v es m = ap (λ (r : Option X). sum_values f (without_key cmp k es) + amount f r) (sym m) ∙ sum_by-remove_entry f (eq_by_cmp cmp k) es

  pub sum_values-with_value : IsTotalOrder cmp → (k : K) (v w : X) (es : List (K × X)) → IsMap cmp es → value_at cmp es k ≡ Some v → sum_values f (with_value cmp k w es) + f v ≡ sum_values f es + f w
  sum_values-with_value o k v w es h m = ap (λ (r : Option X). sum_values f (with_value cmp k w es) + amount f r) (sym m) ∙ sum_by-insert_entry f o es k w h

  pub sum_values-changed_at : IsTotalOrder cmp → (k : K) (g : X → X) (v : X) (es : List (K × X)) → IsMap cmp es → value_at cmp es k ≡ Some v → sum_values f (changed_at cmp k g es) + f v ≡ sum_values f es + f (g v)
  unfolding IsStrictlySortedBy
  sum_values-changed_at o k g v [] h m = cc
  sum_values-changed_at o k g v (e ∷ es) h m =
      elim (eq_by_cmp cmp k e.0) as (λ b. eq_by_cmp cmp k e.0 ≡ b → cond b (Some e.1) (value_at cmp es k) ≡ Some v → sum_values f ((e.0, cond b (g e.1) e.1) ∷ changed_at cmp k g es) + f v ≡ sum_values f (e ∷ es) + f (g v)) [
        | true ↦ λ t m.
            let same : e.1 ≡ v = cc in
            let rest : changed_at cmp k g es ≡ es = changed_at_absent cmp k g es (none_below cmp k es (all_tied o k e.0 (keys_of es) (is_equal _ t) h.0)) in
            omega (arith, sum_values-cons (e.0, g e.1) (changed_at cmp k g es), sum_values-cons e es, ap (λ (l : List (K × X)). sum_values f l) rest, ap f same, ap (λ x. f (g x)) same)
        | false ↦ λ t m. omega (arith, sum_values-cons e (changed_at cmp k g es), sum_values-cons e es, sum_values-changed_at o k g v es h.1 m)
      ] refl m
