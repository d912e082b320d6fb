-- Keys in order do not repeat.
use Rattle.std.proofs.Common.{◌≡◌, List, [], ◌∷◌, false, ◌||◌, refl, ap, ◌∙◌}
use Rattle.std.specs.declared.cmp.Ordering.{Ordering}
use Rattle.std.specs.declared.cmp.Ordering.TheVariants.{Less}
use Rattle.std.specs.List.{AllByRecursion, list_any}
use Rattle.std.specs.List.Sorted.{IsStrictlySortedBy}
use Rattle.std.specs.Ordering.{eq_by_cmp, is_eq}
use Rattle.maps.specs.Words.{repeats}

module _ {K : Type 0} (cmp : K → K → Ordering) where
  none_later : (k : K) (ks : List K) → AllByRecursion (λ q. cmp k q ≡ Less) ks → list_any (eq_by_cmp cmp k) ks ≡ false
  none_later k [] h = refl
  none_later k (q ∷ qs) h = ap (λ (o : Ordering). is_eq o || list_any (eq_by_cmp cmp k) qs) h.0 ∙ none_later k qs h.1

  pub no_repeats : (ks : List K) → IsStrictlySortedBy cmp ks → repeats cmp ks ≡ false
  unfolding IsStrictlySortedBy
  no_repeats [] h = refl
  no_repeats (k ∷ ks) h = ap (λ b. b || repeats cmp ks) (none_later k ks h.0) ∙ no_repeats ks h.1
