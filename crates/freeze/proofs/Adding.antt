-- More at a key of amounts.
use Rattle.std.proofs.Common.{◌≡◌, ℕ, ◌+◌, ◌≤◌, List, Bool, true, false, cond, Option, Some, None, unwrap_or, refl, ap, ◌∙◌, arith}
use Rattle.std.specs.declared.cmp.Ordering.{Ordering}
use Rattle.std.specs.Ordering.{eq_by_cmp}
use Rattle.std.specs.Cmp.{IsTotalOrder}
use Rattle.std.specs.FinMap.{IsAntisymmetric}
use Rattle.maps.proofs.Lookups.{value_at-with_value}
use Rattle.maps.proofs.Sums.{sum_values-with_value, sum_values-with_value_absent, sum_values-without_key}
use Rattle.maps.proofs.Ties.{same_key}
use Rattle.maps.specs.Maps.{IsMap, value_at, with_value}
use Rattle.coin_frac.specs.Totals.{total_of}

abbrev pub amount_at : {K : Type 0} → (K → K → Ordering) → List (K × ℕ) → K → ℕ
amount_at cmp es k = unwrap_or (value_at cmp es k) 0

within_by : {K : Type 0} (cmp : K → K → Ordering) (k : K) (es : List (K × ℕ)) (v : Option ℕ) → value_at cmp es k ≡ v → unwrap_or v 0 ≤ total_of es
within_by cmp k es None e = omega arith
within_by cmp k es (Some v) e = omega (arith, sum_values-without_key (λ (x : ℕ). x) cmp k v es e)

-- an amount is at most the sum of all
pub amount_within : {K : Type 0} (cmp : K → K → Ordering) (k : K) (es : List (K × ℕ)) → amount_at cmp es k ≤ total_of es
amount_within cmp k es = within_by cmp k es (value_at cmp es k) refl

total_by : {K : Type 0} (cmp : K → K → Ordering) → IsTotalOrder cmp → (k : K) (n : ℕ) (es : List (K × ℕ)) → IsMap cmp es → (v : Option ℕ) → value_at cmp es k ≡ v → total_of (with_value cmp k (unwrap_or v 0 + n) es) ≡ total_of es + n
total_by cmp o k n es h None e = omega (arith, sum_values-with_value_absent (λ (x : ℕ). x) cmp k (0 + n) es e)
total_by cmp o k n es h (Some v) e = omega (arith, sum_values-with_value (λ (x : ℕ). x) cmp o k v (v + n) es h e)

-- with n more at a key, the sum of all is n more
pub total_after : {K : Type 0} (cmp : K → K → Ordering) → IsTotalOrder cmp → (k : K) (n : ℕ) (es : List (K × ℕ)) → IsMap cmp es → total_of (with_value cmp k (amount_at cmp es k + n) es) ≡ total_of es + n
total_after cmp o k n es h = total_by cmp o k n es h (value_at cmp es k) refl

after_by : {K : Type 0} (cmp : K → K → Ordering) → IsAntisymmetric cmp → (k q : K) (n : ℕ) (es : List (K × ℕ)) (b : Bool) → eq_by_cmp cmp k q ≡ b → unwrap_or (cond b (Some (amount_at cmp es k + n)) (value_at cmp es q)) 0 ≡ amount_at cmp es q + cond b n 0
after_by {K} cmp exact k q n es true e = ap (λ (x : K). amount_at cmp es x + n) (same_key exact k q e)
after_by cmp exact k q n es false e = omega arith

-- and each key has what it had, this one n more
pub amount_after : {K : Type 0} (cmp : K → K → Ordering) → IsTotalOrder cmp → IsAntisymmetric cmp → (k : K) (n : ℕ) (es : List (K × ℕ)) (q : K) → amount_at cmp (with_value cmp k (amount_at cmp es k + n) es) q ≡ amount_at cmp es q + cond (eq_by_cmp cmp k q) n 0
amount_after cmp o exact k n es q = ap (λ (x : Option ℕ). unwrap_or x 0) (value_at-with_value o k (amount_at cmp es k + n) es q) ∙ after_by cmp exact k q n es (eq_by_cmp cmp k q) refl
