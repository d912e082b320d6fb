-- What holds of each value that is put into a map and of each that was there holds of each that it has then.
use Rattle.std.proofs.Common.{◌≡◌, List, [], ◌∷◌, Bool, true, refl}
use Rattle.std.specs.declared.cmp.Ordering.{Ordering}
use Rattle.std.specs.declared.cmp.Ordering.TheVariants.{Less, Equal, Greater}
use Rattle.std.specs.Ordering.{match_ordering}
use Rattle.std.specs.List.{list_all}
use Rattle.std.proofs.lemmas.Bool.{and_from, and_parts}
use Rattle.gov_ids.specs.of_maps.Maps.{with_value, with_values}

module _ {K X : Type 0} (cmp : K → K → Ordering) (p : X → Bool) where
  all-with_value : (k : K) (v : X) (es : List (K × X)) → p v ≡ true → list_all (λ e. p e.1) es ≡ true → list_all (λ e. p e.1) (with_value cmp k v es) ≡ true
  all-with_value k v [] h g = and_from _ _ h refl
  all-with_value k v (e ∷ es) h g =
      let parts = and_parts (p e.1) (list_all (λ e. p e.1) es) g in
      elim (cmp k e.0) as (λ r. list_all (λ e. p e.1) (match_ordering r ((k, v) ∷ e ∷ es) ((e.0, v) ∷ es) (e ∷ with_value cmp k v es)) ≡ true) [
        | Less ↦ and_from _ _ h g
        | Equal ↦ and_from _ _ h parts.1
        | Greater ↦ and_from _ _ parts.0 (all-with_value k v es h parts.1)
      ]

  pub all-with_values : (new es : List (K × X)) → list_all (λ e. p e.1) new ≡ true → list_all (λ e. p e.1) es ≡ true → list_all (λ e. p e.1) (with_values cmp new es) ≡ true
  all-with_values [] es h g = g
  all-with_values (e ∷ new) es h g =
      let parts = and_parts (p e.1) (list_all (λ e. p e.1) new) h in
      all-with_values new (with_value cmp e.0 e.1 es) parts.1 (all-with_value e.0 e.1 es parts.0 g)
