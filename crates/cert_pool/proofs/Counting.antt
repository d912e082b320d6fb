-- How many pools have a key, before and after a change of the pools.
use Rattle.std.proofs.Common.{◌≡◌, ℕ, ◌+◌, List, [], ◌∷◌, Bool, true, false, cond, not, ◌&&◌, ◌||◌, filter, length, nat_lt, Some, refl, ap, sym, ◌∙◌, arith}
use Rattle.std.specs.declared.cmp.Ordering.TheVariants.{Less}
use Rattle.std.specs.List.{AllByRecursion, list_any}
use Rattle.std.specs.List.Sorted.{IsStrictlySortedBy}
use Rattle.std.specs.Map.{keys_of, values_of}
use Rattle.std.specs.Ordering.{is_eq}
use Rattle.std.proofs.lemmas.Bool.{lt-ltb}
use Rattle.std.proofs.lemmas.Cmp.{eq_by_cmp_equiv}
use Rattle.std.proofs.lemmas.List.Sums.{sum_by-cons}
use Rattle.std.proofs.lemmas.Map.Entries.{sum_by-insert_entry, sum_by-remove_entry}
use Rattle.gov_ids.specs.declared.PoolId.{PoolId}
use Rattle.gov_ids.specs.Orders.{pool_cmp}
use Rattle.gov_ids.specs.Same.{same_pool}
use Rattle.gov_ids.proofs.Totals.{pool_total}
use Rattle.book_records.specs.declared.pool.Pool.{Pool}
use Rattle.book_records.specs.Pools.{is_key_of_other, retires_at, retiring, turned, uses_key, with_retirement}
use Rattle.maps.proofs.Kept.{IsMap-changed_where}
use Rattle.maps.proofs.Ties.{all_tied, is_equal}
use Rattle.maps.specs.Maps.{IsMap, value_at, with_value, without_key, sum_values}
use Rattle.cert_pool.specs.Keys.{IsIndexed, count_in, count_in_option, count_of, count_of_others}
use Rattle.cert_pool.specs.Reaping.{left_of}

abbrev pub Pools : Type 0
Pools = List (PoolId × Pool)

-- something passes exactly where the count is above 0
any_counted : (test : PoolId × Pool → Bool) (pools : Pools) → list_any test pools ≡ nat_lt 0 (length (filter test pools))
any_counted test [] = refl
any_counted test (e ∷ pools) =
    elim (test e) as (λ b. (b || list_any test pools) ≡ nat_lt 0 (length (cond b (e ∷ filter test pools) (filter test pools)))) [
      | true ↦ sym (lt-ltb 0 _ (omega arith))
      | false ↦ any_counted test pools
    ]

pub other_is : (key : List ℕ) (p : PoolId) (pools : Pools) → is_key_of_other key p pools ≡ nat_lt 0 (count_of_others key p pools)
other_is key p pools = any_counted (λ e. not (same_pool e.0 p) && uses_key key e.1) pools

by_test : (b : Bool) (e : PoolId × Pool) (pools : Pools) → length (cond b (e ∷ pools) pools) ≡ cond b 1 0 + length pools
by_test true e pools = omega arith
by_test false e pools = omega arith

count-cons : (e : PoolId × Pool) (pools : Pools) (key : List ℕ) → count_of (e ∷ pools) key ≡ count_in key e.1 + count_of pools key
count-cons e pools key = by_test (uses_key key e.1) e (filter (λ (x : PoolId × Pool). uses_key key x.1) pools)

-- the count is a sum
summed : (pools : Pools) (key : List ℕ) → count_of pools key ≡ sum_values (count_in key) pools
summed [] key = refl
summed (e ∷ pools) key = omega (arith, count-cons e pools key, summed pools key, sum_by-cons (count_in key) e.1 (values_of pools))

pub count-with_value : (p : PoolId) (pool : Pool) (pools : Pools) (key : List ℕ) → IsMap pool_cmp pools
    → count_of (with_value pool_cmp p pool pools) key + count_in_option key (value_at pool_cmp pools p) ≡ count_of pools key + count_in key pool
count-with_value p pool pools key h =
    omega (arith, summed (with_value pool_cmp p pool pools) key, summed pools key, sum_by-insert_entry (count_in key) pool_total pools p pool h)

pub count-without_key : (p : PoolId) (pools : Pools) (key : List ℕ)
    → count_of (without_key pool_cmp p pools) key + count_in_option key (value_at pool_cmp pools p) ≡ count_of pools key
count-without_key p pools key =
    omega (arith, summed (without_key pool_cmp p pools) key, summed pools key, sum_by-remove_entry (count_in key) (same_pool p) pools)

-- a retirement changes no count
count-retiring : (p : PoolId) (epoch : ℕ) (pools : Pools) (key : List ℕ) → count_of (with_retirement p epoch pools) key ≡ count_of pools key
count-retiring p epoch [] key = refl
count-retiring p epoch (e ∷ pools) key =
    let same : count_in key (cond (same_pool p e.0) (retiring epoch e.1) e.1) ≡ count_in key e.1 =
    elim (same_pool p e.0) as (λ b. count_in key (cond b (retiring epoch e.1) e.1) ≡ count_in key e.1) [ true ↦ refl | false ↦ refl ] in
    omega (
      arith,
      same,
      count-cons (e.0, cond (same_pool p e.0) (retiring epoch e.1) e.1) (with_retirement p epoch pools) key,
      count-cons e pools key,
      count-retiring p epoch pools key,
    )

pub retired_indexed : (p : PoolId) (epoch : ℕ) (pools : Pools) (counts : List (List ℕ × ℕ)) → IsIndexed pools counts → IsIndexed (with_retirement p epoch pools) counts
retired_indexed p epoch pools counts h = record {
  in_order = IsMap-changed_where pool_cmp (λ q x. same_pool p q) (retiring epoch) pools h.in_order;
  counted = λ key. h.counted key ∙ sym (count-retiring p epoch pools key);
}

-- ---- the pools other than one

-- where it stands below all, they are all
all_others : (key : List ℕ) (p : PoolId) (pools : Pools) → AllByRecursion (λ q. pool_cmp p q ≡ Less) (keys_of pools) → count_of_others key p pools ≡ count_of pools key
all_others key p [] h = refl
all_others key p (e ∷ pools) h =
    let others = filter (λ (x : PoolId × Pool). not (same_pool x.0 p) && uses_key key x.1) pools in
    let other : same_pool e.0 p ≡ false = (eq_by_cmp_equiv pool_total).symm e.0 p ∙ ap is_eq h.0 in
    ap (λ b. length (cond (not b && uses_key key e.1) (e ∷ others) others)) other
    ∙ by_test (uses_key key e.1) e others
    ∙ ap (λ n. count_in key e.1 + n) (all_others key p pools h.1)
    ∙ sym (count-cons e pools key)

-- they and this one are all
pub counted_apart : (key : List ℕ) (p : PoolId) (pools : Pools) → IsMap pool_cmp pools
    → count_of pools key ≡ count_of_others key p pools + count_in_option key (value_at pool_cmp pools p)
unfolding IsStrictlySortedBy
counted_apart key p [] h = refl
counted_apart key p (e ∷ pools) h =
    let others = filter (λ (x : PoolId × Pool). not (same_pool x.0 p) && uses_key key x.1) pools in
    let here = count_in_option key (value_at pool_cmp (e ∷ pools) p) in
    elim (same_pool p e.0) as (λ b. same_pool p e.0 ≡ b
    → count_of (e ∷ pools) key ≡ length (cond (not b && uses_key key e.1) (e ∷ others) others) + count_in_option key (cond b (Some e.1) (value_at pool_cmp pools p))) [
      | true ↦ λ t. omega (arith, count-cons e pools key, all_others key p pools (all_tied pool_total p e.0 (keys_of pools) (is_equal _ t) h.0))
      | false ↦ λ t. omega (arith, count-cons e pools key, by_test (uses_key key e.1) e others, counted_apart key p pools h.1)
    ] refl
    ∙ ap (λ b. length (cond (not b && uses_key key e.1) (e ∷ others) others) + here) ((eq_by_cmp_equiv pool_total).symm p e.0)

-- ---- the pools that stay at a boundary

-- how many of a pool stay with the key, by the terms that take effect: one or none
abbrev pub count_staying : ℕ → List ℕ → Pool → ℕ
count_staying epoch key p = cond (retires_at epoch p) 0 (count_in key (turned p))

by_staying : (b : Bool) (e : PoolId × Pool) (pools : Pools) (key : List ℕ) → count_of (cond (not b) (e ∷ pools) pools) key ≡ cond b 0 (count_in key e.1) + count_of pools key
by_staying true e pools key = omega arith
by_staying false e pools key = count-cons e pools key

pub count-left : (epoch : ℕ) (pools : Pools) (key : List ℕ) → count_of (left_of epoch pools) key ≡ sum_values (count_staying epoch key) pools
count-left epoch [] key = refl
count-left epoch (e ∷ pools) key =
    omega (
      arith,
      by_staying (retires_at epoch e.1) (e.0, turned e.1) (left_of epoch pools) key,
      count-left epoch pools key,
      sum_by-cons (count_staying epoch key) e.1 (values_of pools),
    )
