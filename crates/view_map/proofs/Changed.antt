-- A value that is put at a key, or put back.
use Rattle.std.proofs.Common.{◌≡◌, List, [], ◌∷◌, true, false, cond, is_some, Option, Some, None, unwrap_or, refl, ap, sym, ◌∙◌}
use Rattle.std.specs.Prelude.{MatchOption}
use Rattle.std.specs.declared.cmp.Ordering.{Ordering}
use Rattle.std.specs.declared.cmp.Ordering.TheVariants.{Less, Equal, Greater}
use Rattle.std.specs.BTreeMap.{is_at}
use Rattle.std.specs.Cmp.{IsTotalOrder}
use Rattle.std.specs.List.Sorted.{IsStrictlySortedBy}
use Rattle.std.specs.Map.{keys_of, lookup_key, set_value}
use Rattle.std.specs.Ordering.{is_eq, match_ordering}
use Rattle.std.proofs.lemmas.Cmp.{eq_by_cmp_equiv}
use Rattle.maps.proofs.Lookups.{none_below}
use Rattle.maps.proofs.Ties.{all_above}
use Rattle.maps.specs.Maps.{IsMap, value_at, with_value, without_key}
use Rattle.view_map.specs.View.{key_in}
use Rattle.view_map.proofs.Entries.{without_key-with_value, no_entry}

-- a key without a value is not in the list
pub key_absent : {K X : Type 0} (cmp : K → K → Ordering) (es : List (K × X)) (k : K) → value_at cmp es k ≡ None → k ≡ key_in cmp es k
key_absent cmp [] k m = refl
key_absent {K} {X} cmp (e ∷ es) k m =
    elim (is_at (cmp k) e.0) as (λ b. cond b (Some e.1) (value_at cmp es k) ≡ None → k ≡ unwrap_or (cond b (Some e.0) (lookup_key (is_at (cmp k)) es)) k) [
      | true ↦ λ m. cc
      | false ↦ λ m. key_absent cmp es k m
    ] m

module _ {K X : Type 0} {cmp : K → K → Ordering} (o : IsTotalOrder cmp) where
  -- the value at a key, put there once more
  pub same_value : (k : K) (v : X) (es : List (K × X)) → IsMap cmp es → value_at cmp es k ≡ Some v → with_value cmp k v es ≡ es
  unfolding IsStrictlySortedBy
  same_value k v [] h m = cc
  same_value k v (e ∷ es) h m =
      elim (cmp k e.0) as (λ r. cmp k e.0 ≡ r → cond (is_eq r) (Some e.1) (value_at cmp es k) ≡ Some v → match_ordering r ((k, v) ∷ e ∷ es) ((e.0, v) ∷ es) (e ∷ with_value cmp k v es) ≡ e ∷ es) [
        | Less ↦ λ p m. let none : value_at cmp es k ≡ None = none_below cmp k es (all_above o k e.0 (keys_of es) p h.0) in cc
        | Equal ↦ λ p m. let is : v ≡ e.1 = cc in λ i. (e.0, is i) ∷ es
        | Greater ↦ λ p m. ap (λ (l : List (K × X)). e ∷ l) (same_value k v es h.1 m)
      ] refl m

  -- the old value of a key, written there instead of another
  written_back : (k : K) (v b : X) (es : List (K × X)) → IsMap cmp es → value_at cmp es k ≡ Some b → set_value (is_at (cmp k)) (with_value cmp k v es) b ≡ es
  unfolding IsStrictlySortedBy
  written_back k v b [] h m = cc
  written_back k v b (e ∷ es) h m =
      elim (cmp k e.0) as (λ r. cmp k e.0 ≡ r → cond (is_eq r) (Some e.1) (value_at cmp es k) ≡ Some b → set_value (is_at (cmp k)) (match_ordering r ((k, v) ∷ e ∷ es) ((e.0, v) ∷ es) (e ∷ with_value cmp k v es)) b ≡ e ∷ es) [
        | Less ↦ λ p m. let none : value_at cmp es k ≡ None = none_below cmp k es (all_above o k e.0 (keys_of es) p h.0) in cc
        | Equal ↦ λ p m.
            let is : b ≡ e.1 = cc in
            ap (λ r. cond (is_eq r) ((e.0, b) ∷ es) ((e.0, v) ∷ set_value (is_at (cmp k)) es b)) p ∙ (λ i. (e.0, is i) ∷ es)
        | Greater ↦ λ p m.
            ap (λ r. cond (is_eq r) ((e.0, b) ∷ with_value cmp k v es) (e ∷ set_value (is_at (cmp k)) (with_value cmp k v es) b)) p
            ∙ ap (λ (l : List (K × X)). e ∷ l) (written_back k v b es h.1 m)
      ] refl m

  -- the old value of a key, put back instead of another, leaves the list as it was
  pub restored : (k : K) (v : X) (before : Option X) (es with new : List (K × X)) → IsMap cmp es → with ≡ with_value cmp k v es → before ≡ value_at cmp es k
      → MatchOption before (new ≡ without_key cmp k with) (λ b. new ≡ set_value (is_at (cmp k)) with b) → new ≡ es
  restored k v None es with new h put is back =
      back ∙ ap (λ (es : List (K × X)). without_key cmp k es) put ∙ without_key-with_value o k k v es ((eq_by_cmp_equiv o).refl k) (no_entry cmp es k (ap (λ (x : Option X). is_some x) (sym is)))
  restored k v (Some b) es with new h put is back = back ∙ ap (λ (es : List (K × X)). set_value (is_at (cmp k)) es b) put ∙ written_back k v b es h (sym is)
