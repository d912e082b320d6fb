-- What a change of one amount does to the total; `before` is what stood at the key.
use Rattle.std.proofs.Common.{◌≡◌, ℕ, ◌+◌, List, Option, unwrap_or, ap, ◌∙◌}
use Rattle.std.specs.declared.cmp.Ordering.{Ordering}
use Rattle.std.specs.Ordering.{eq_by_cmp}
use Rattle.std.specs.Cmp.{IsTotalOrder}
use Rattle.std.proofs.lemmas.Map.Entries.{sum_by-insert_entry, sum_by-remove_entry}
use Rattle.maps.proofs.Sums.{as_amount}
use Rattle.maps.specs.Maps.{IsMap, value_at, with_value, without_key}
use Rattle.coin_frac.specs.Totals.{total_of}

module _ {K : Type 0} (cmp : K → K → Ordering) (k : K) (es : List (K × ℕ)) (before : Option ℕ) (is : before ≡ value_at cmp es k) where
  pub total_of-with_value : IsTotalOrder cmp → (v : ℕ) → IsMap cmp es → total_of (with_value cmp k v es) + unwrap_or before 0 ≡ total_of es + v
  total_of-with_value o v h = ap (λ (b : Option ℕ). total_of (with_value cmp k v es) + unwrap_or b 0) is ∙ ap (λ n. total_of (with_value cmp k v es) + n) (as_amount (value_at cmp es k)) ∙ sum_by-insert_entry (λ v. v) o es k v h

  pub total_of-without_key : total_of (without_key cmp k es) + unwrap_or before 0 ≡ total_of es
  total_of-without_key = ap (λ (b : Option ℕ). total_of (without_key cmp k es) + unwrap_or b 0) is ∙ ap (λ n. total_of (without_key cmp k es) + n) (as_amount (value_at cmp es k)) ∙ sum_by-remove_entry (λ v. v) (eq_by_cmp cmp k) es
