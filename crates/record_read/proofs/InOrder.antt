-- Entries with names of their own, put in order: they are no more, their values are the same, and no name stands twice.
use Rattle.std.proofs.Common.{◌≡◌, ℕ, suc, ◌+◌, ◌≤◌, Bool, true, not, ◌&&◌, List, [], ◌∷◌, length, refl, ap, arith}
use Rattle.std.specs.Prelude.{nat_le}
use Rattle.std.specs.declared.cmp.Ordering.{Ordering}
use Rattle.std.specs.declared.cmp.Ordering.TheVariants.{Less, Equal, Greater}
use Rattle.std.specs.Cmp.{IsTotalOrder}
use Rattle.std.specs.List.{list_all}
use Rattle.std.specs.List.Sorted.{IsStrictlySortedBy}
use Rattle.std.specs.Map.{keys_of}
use Rattle.std.specs.Ordering.{match_ordering}
use Rattle.std.proofs.lemmas.Bool.{and_parts}
use Rattle.std.proofs.lemmas.Bool.Decides.{nat_tests}
use Rattle.maps.proofs.Kept.{IsMap-with_values}
use Rattle.maps.proofs.Ordered.{no_repeats}
use Rattle.maps.specs.Maps.{with_value, with_values}
use Rattle.maps.specs.Words.{repeats}
use Rattle.record_read.proofs.Gives.{IsDistinctListOf, both}

module _ {K X : Type 0} (cmp : K → K → Ordering) where
  one_longer : (k : K) (v : X) (es : List (K × X)) → length (with_value cmp k v es) ≤ suc (length es)
  one_longer k v [] = omega arith
  one_longer k v (e ∷ es) =
      let later : length (with_value cmp k v es) ≤ suc (length es) = one_longer k v es in
      elim (cmp k e.0) as (λ r. length (match_ordering r ((k, v) ∷ e ∷ es) ((e.0, v) ∷ es) (e ∷ with_value cmp k v es)) ≤ suc (suc (length es))) [
        | Less ↦ omega arith
        | Equal ↦ omega arith
        | Greater ↦ omega (arith, later)
      ]

  no_longer : (new es : List (K × X)) → length (with_values cmp new es) ≤ length new + length es
  no_longer [] es = omega arith
  no_longer (e ∷ new) es =
      let rest : length (with_values cmp new (with_value cmp e.0 e.1 es)) ≤ length new + length (with_value cmp e.0 e.1 es) = no_longer new (with_value cmp e.0 e.1 es) in
      let one : length (with_value cmp e.0 e.1 es) ≤ suc (length es) = one_longer e.0 e.1 es in
      omega (arith, rest, one)

  module _ (p : X → Bool) where
    one_passes : (k : K) (v : X) (es : List (K × X)) → p v ≡ true → list_all (λ (e : K × X). p e.1) es ≡ true → list_all (λ (e : K × X). p e.1) (with_value cmp k v es) ≡ true
    one_passes k v [] h each = both h refl
    one_passes k v (e ∷ es) h each =
        let parts = and_parts (p e.1) (list_all (λ (d : K × X). p d.1) es) each in
        elim (cmp k e.0) as (λ r. list_all (λ (d : K × X). p d.1) (match_ordering r ((k, v) ∷ e ∷ es) ((e.0, v) ∷ es) (e ∷ with_value cmp k v es)) ≡ true) [
          | Less ↦ both h each
          | Equal ↦ both h parts.1
          | Greater ↦ both parts.0 (one_passes k v es h parts.1)
        ]

    all_pass : (new es : List (K × X)) → list_all (λ (e : K × X). p e.1) new ≡ true → list_all (λ (e : K × X). p e.1) es ≡ true → list_all (λ (e : K × X). p e.1) (with_values cmp new es) ≡ true
    all_pass [] es h each = each
    all_pass (e ∷ new) es h each =
        let parts = and_parts (p e.1) (list_all (λ (d : K × X). p d.1) new) h in
        all_pass new (with_value cmp e.0 e.1 es) parts.1 (one_passes e.0 e.1 es parts.0 each)

few_by : (m n limit : ℕ) → m ≤ n + 0 → nat_le n limit ≡ true → nat_le m limit ≡ true
few_by m n limit l h = grind (arith, nat_tests)

-- what the limits ask of such a list holds once it is in order
pub in_order-within : {K X : Type 0} {cmp : K → K → Ordering} → IsTotalOrder cmp → (limit : ℕ) (p : X → Bool) (es : List (K × X)) → IsDistinctListOf cmp (λ (e : K × X). e.0) limit (λ (e : K × X). p e.1) es
    → (nat_le (length (with_values cmp es [])) limit && not (repeats cmp (keys_of (with_values cmp es []))) && list_all (λ (e : K × X). p e.1) (with_values cmp es [])) ≡ true
unfolding IsStrictlySortedBy
in_order-within {cmp = cmp} o limit p es l =
    both (both (few_by (length (with_values cmp es [])) (length es) limit (no_longer cmp es []) l.few)
    (ap not (no_repeats cmp (keys_of (with_values cmp es [])) (IsMap-with_values o es [] tt))))
    (all_pass cmp p es [] l.each refl)
