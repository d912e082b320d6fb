-- What an entry that is put does to the sums over the entries.
use Rattle.std.proofs.Common.{◌≡◌, ℕ, ◌+◌, ◌-◌, ◌==◌, ◌≤◌, List, [], ◌∷◌, Bool, true, false, cond, is_none, is_some, ◌⊎◌, inl, inr, Option, Some, None, refl, ap, sym, arith}
use Rattle.std.specs.BTreeMap.{is_at}
use Rattle.std.specs.Map.{values_of}
use Rattle.std.specs.Option.{option_and_then}
use Rattle.std.proofs.lemmas.Bool.{eqb-true, and_parts}
use Rattle.std.proofs.lemmas.List.Sums.{sum_by-cons}
use Rattle.std.proofs.lemmas.Map.Entries.{sum_by-insert_entry, sum_by-remove_entry}
use Rattle.gov_ids.specs.declared.Credential.{Credential}
use Rattle.gov_ids.specs.declared.PoolId.{PoolId}
use Rattle.gov_ids.specs.Orders.{credential_cmp, pool_cmp}
use Rattle.gov_ids.specs.Same.{same_pool}
use Rattle.gov_ids.proofs.Totals.{credential_total, pool_total}
use Rattle.book_records.specs.declared.Entry.{Entry}
use Rattle.book_records.specs.declared.Registered.{Registered}
use Rattle.maps.proofs.Kept.{IsMap-with_value, IsMap-without_key}
use Rattle.maps.specs.Maps.{IsMap, value_at, with_value, without_key, sum_values}
use Rattle.maps.specs.Words.{amount, holds}
use Rattle.accounts.specs.Accounts.{is_nothing, with_entry}
use Rattle.stake_book.specs.Stakes.{whole_entry}
use Rattle.stake_book.specs.Delegators.{Counted, AreRecounted}
use Rattle.stake_book.specs.Summed.{Summed, HasBecome}
use Rattle.stake_book.specs.Sums.{IsRaised, balance_of, pool_of, weight_of, share_of, shared_by, weight_in, stake_in}
use Rattle.stake_book.proofs.Raised.{amount_there}

abbrev pub nothing : Entry
nothing = record { stake = 0; registered = None }

none_is : (o : Option Registered) → is_none o ≡ true → o ≡ None
none_is None h = refl
none_is (Some r) h = cc

pub nothing_is : (e : Entry) → is_nothing e ≡ true → e ≡ nothing
nothing_is e t =
    let parts = and_parts (e.stake == 0) (is_none e.registered) t in
    let stake : e.stake ≡ 0 = eqb-true e.stake 0 parts.0 in
    let registered : e.registered ≡ None = none_is e.registered parts.1 in
    λ i. record { stake = stake i; registered = registered i }

pub IsMap-with_entry : (c : Credential) (e : Entry) (entries : List (Credential × Entry)) → IsMap credential_cmp entries → IsMap credential_cmp (with_entry c e entries)
IsMap-with_entry c e entries h =
    elim (is_nothing e) as (λ b. IsMap credential_cmp (cond b (without_key credential_cmp c entries) (with_value credential_cmp c e entries))) [
      | true ↦ IsMap-without_key credential_cmp c entries h
      | false ↦ IsMap-with_value credential_total c e entries h
    ]

module _ (f : Entry → ℕ) (zero : f nothing ≡ 0) (c : Credential) (entries : List (Credential × Entry)) where
  before_is : amount f (value_at credential_cmp entries c) ≡ f (whole_entry entries c)
  before_is =
      elim (value_at credential_cmp entries c) as (λ (o : Option Entry). amount f o ≡ f (record { stake = amount (λ (e : Entry). e.stake) o; registered = option_and_then (λ (e : Entry). e.registered) o })) [
        | None ↦ sym zero
        | Some e ↦ refl
      ]

  pub before_within : f (whole_entry entries c) ≤ sum_values f entries
  before_within = omega (arith, before_is, sum_by-remove_entry f (is_at (credential_cmp c)) entries)

  pub entered_sum : (e : Entry) → IsMap credential_cmp entries → sum_values f (with_entry c e entries) + f (whole_entry entries c) ≡ sum_values f entries + f e
  entered_sum e h =
      elim (is_nothing e) as (λ b. is_nothing e ≡ b → sum_values f (cond b (without_key credential_cmp c entries) (with_value credential_cmp c e entries)) + f (whole_entry entries c) ≡ sum_values f entries + f e) [
        | true ↦ λ t. omega (arith, before_is, sum_by-remove_entry f (is_at (credential_cmp c)) entries, ap f (nothing_is e t), zero)
        | false ↦ λ t. omega (arith, before_is, sum_by-insert_entry f credential_total entries c e h)
      ] refl

  pub after_within : (e : Entry) → IsMap credential_cmp entries → f e ≤ sum_values f (with_entry c e entries)
  after_within e h = omega (arith, before_within, entered_sum e h)

sum_within : (f g : Entry → ℕ) → ((e : Entry) → f e ≤ g e) → (entries : List (Credential × Entry)) → sum_values f entries ≤ sum_values g entries
sum_within f g h [] = omega arith
sum_within f g h (e ∷ es) = omega (arith, h e.1, sum_within f g h es, sum_by-cons f e.1 (values_of es), sum_by-cons g e.1 (values_of es))

shared_at_most : (o : Option PoolId) (n : ℕ) → amount (λ _. n) o ≤ n
shared_at_most None n = omega arith
shared_at_most (Some p) n = omega arith

pub shared_within : (entries : List (Credential × Entry)) → sum_values shared_by entries ≤ weight_in entries
shared_within entries = sum_within shared_by weight_of (λ e. shared_at_most (pool_of e) (weight_of e)) entries

pub balances_within : (entries : List (Credential × Entry)) → sum_values balance_of entries ≤ weight_in entries
balances_within entries = sum_within balance_of weight_of (λ e. omega arith) entries

share_there : (e : Entry) (p : PoolId) → pool_of e ≡ Some p → share_of p e ≡ weight_of e
share_there e p is = amount_there pool_total p (weight_of e) (pool_of e) is

-- what stays is added and taken on neither side
stays : (b c : Bool) (m n left : ℕ) → left ≤ m → left ≤ n → (left ≡ 0) ⊎ (b ≡ c) → cond c (n - left) 0 + cond b m 0 ≡ cond b (m - left) 0 + cond c n 0
stays true true m n left l k w = omega (arith, l, k)
stays false false m n left l k w = refl
stays true false m n left l k (inl z) = omega (arith, z)
stays true false m n left l k (inr e) = cc
stays false true m n left l k (inl z) = omega (arith, z)
stays false true m n left l k (inr e) = cc

-- so it is for a test of what is equal
tested : {A : Type 0} {x y : A} (n : ℕ) (f : A → Bool) → (n ≡ 0) ⊎ (x ≡ y) → (n ≡ 0) ⊎ (f x ≡ f y)
tested n f (inl z) = inl z
tested n f (inr e) = inr (ap f e)

counted : (o : Option PoolId) (n : ℕ) → amount (λ _. n) o ≡ cond (is_some o) n 0
counted None n = refl
counted (Some p) n = refl

module _ (before after : Entry) (s : Summed) (up down : List (PoolId × ℕ)) where
  -- the share of one entry is added, then the other's taken, except what stays
  pub has_become : (left held : ℕ) (counts : Counted) → left ≤ weight_of before → left ≤ weight_of after → (left ≡ 0) ⊎ (pool_of before ≡ pool_of after)
      → IsRaised pool_cmp (pool_of after) (weight_of after - left) s.pools up → IsRaised pool_cmp (pool_of before) (weight_of before - left) down up
      → held + balance_of before ≡ s.balances + balance_of after → AreRecounted before after s.counts counts
      → HasBecome before after s (record { balances = held; pools = down; counts = counts })
  has_become left held counts m n same r l b k = record {
    balances = b;
    pools = λ p.
        omega (
          arith,
          r.each p,
          l.each p,
          stays (holds same_pool (pool_of before) p) (holds same_pool (pool_of after) p) (weight_of before) (weight_of after) left m n (tested left (λ o. holds same_pool o p) same),
        );
    total = omega (
      arith,
      r.total,
      l.total,
      counted (pool_of after) (weight_of after - left),
      counted (pool_of after) (weight_of after),
      counted (pool_of before) (weight_of before - left),
      counted (pool_of before) (weight_of before),
      stays (is_some (pool_of before)) (is_some (pool_of after)) (weight_of before) (weight_of after) left m n (tested left (λ o. is_some o) same),
    );
    counts = k;
  }

  -- an amount that was added and taken again leaves the sums
  pub undone : (pool : Option PoolId) (n : ℕ) (counts : Counted) → IsRaised pool_cmp pool n s.pools up → IsRaised pool_cmp pool n down up → AreRecounted before before s.counts counts
      → HasBecome before before s (record { balances = s.balances; pools = down; counts = counts })
  undone pool n counts r l k = record {
    balances = refl;
    pools = λ p. omega (arith, r.each p, l.each p);
    total = omega (arith, r.total, l.total);
    counts = k;
  }

  -- the share of the entry that was there can be taken
  pub before_enough : (pool : Option PoolId) (n : ℕ) (p : PoolId) → ((q : PoolId) → share_of q before ≤ stake_in s.pools q) → IsRaised pool_cmp pool n s.pools up → pool_of before ≡ Some p → weight_of before ≤ stake_in up p
  before_enough pool n p h r is = omega (arith, r.each p, h p, share_there before p is)
