-- How many accounts delegate to each pool and each DRep, after a change of one entry.
use Rattle.std.proofs.Common.{◌≡◌, ℕ, ◌+◌, ◌≤◌, List, [], ◌∷◌, Bool, true, false, cond, ◌||◌, is_some, Option, Some, None, unwrap_or, option_and_then, refl, ap, sym, ◌∙◌, arith}
use Rattle.std.specs.declared.cmp.Ordering.{Ordering}
use Rattle.std.specs.Cmp.{IsTotalOrder}
use Rattle.std.specs.List.{list_any}
use Rattle.std.specs.Map.{keys_of, values_of}
use Rattle.std.specs.Ordering.{eq_by_cmp}
use Rattle.std.proofs.lemmas.List.Sums.{sum_by-cons}
use Rattle.gov_ids.specs.declared.Credential.{Credential}
use Rattle.gov_ids.specs.declared.Drep.{Drep}
use Rattle.gov_ids.specs.declared.Drep.TheVariants as drep
use Rattle.gov_ids.specs.declared.PoolId.{PoolId}
use Rattle.gov_ids.specs.Orders.{credential_cmp, pool_cmp}
use Rattle.gov_ids.proofs.Totals.{credential_total, pool_total}
use Rattle.book_records.specs.declared.Entry.{Entry}
use Rattle.book_records.specs.declared.Registered.{Registered}
use Rattle.maps.proofs.Placed.{value_at_tied}
use Rattle.maps.specs.Maps.{value_at, has_key, has_member, entries_where, sum_values}
use Rattle.maps.specs.Words.{some_and}
use Rattle.accounts.specs.Accounts.{with_entry}
use Rattle.stake_book.specs.declared.leaving.Leaving.{Leaving}
use Rattle.stake_book.specs.declared.leaving.Leaving.TheVariants.{Pools, Dreps}
use Rattle.stake_book.specs.Delegators.{Counted, AreCounted, HasCounted, AreRecounted, credential_of, drep_of, joins_pool, joins_drep}
use Rattle.stake_book.specs.Ended.{is_cleared, cleared, change_of, delegating, have_any}
use Rattle.stake_book.specs.Stakes.{whole_entry}
use Rattle.stake_book.specs.Sums.{IsRaised, amount_at, amount_for, pool_of}
use Rattle.stake_book.proofs.Raised.{amount_there}
use Rattle.stake_book.proofs.Ended.{names_one, delegates_named}
use Rattle.stake_book.proofs.Entering.{IsMap-with_entry, before_within, entered_sum}

-- the delegation that begins and the one that ends make of the old one the new one
abbrev pub AreMoved : {K : Type 0} → (K → K → Ordering) → Option K → Option K → Option K → Option K → Type 0
AreMoved {K} cmp from to left joined = (k : K) → amount_for cmp 1 joined k + amount_for cmp 1 from k ≡ amount_for cmp 1 left k + amount_for cmp 1 to k

-- the same of what is equal
pub same_moved : {K : Type 0} (cmp : K → K → Ordering) (left joined : Option K) {from to was is : Option K} → from ≡ was → to ≡ is → AreMoved cmp from to left joined → AreMoved cmp was is left joined
same_moved cmp left joined {from} {to} {was} {is} e f h =
    λ k. (λ i. amount_for cmp 1 joined k + amount_for cmp 1 (sym e i) k) ∙ h k ∙ (λ i. amount_for cmp 1 left k + amount_for cmp 1 (f i) k)

module _ (pools : List (PoolId × ℕ)) (dreps : List (Credential × ℕ)) where
  -- a count that was raised and lowered again is what it was
  pub unpooled : (e : Entry) (pool : Option PoolId) (up down : List (PoolId × ℕ)) → IsRaised pool_cmp pool 1 pools up → IsRaised pool_cmp pool 1 down up
      → AreRecounted e e (record { pools = pools; dreps = dreps }) (record { pools = down; dreps = dreps })
  unpooled e pool up down r l = record { pools = λ p. omega (arith, r.each p, l.each p); dreps = λ c. refl }

  -- one entry instead of another
  pub recounted : (before after : Entry) (pool_left pool_joined : Option PoolId) (drep_left drep_joined : Option Credential) (up down : List (PoolId × ℕ)) (more less : List (Credential × ℕ))
      → AreMoved pool_cmp (pool_of before) (pool_of after) pool_left pool_joined → AreMoved credential_cmp (drep_of before) (drep_of after) drep_left drep_joined
      → IsRaised pool_cmp pool_joined 1 pools up → IsRaised pool_cmp pool_left 1 down up → IsRaised credential_cmp drep_joined 1 dreps more → IsRaised credential_cmp drep_left 1 less more
      → AreRecounted before after (record { pools = pools; dreps = dreps }) (record { pools = down; dreps = less })
  recounted before after pool_left pool_joined drep_left drep_joined up down more less v w r l t m = record {
    pools = λ p. omega (arith, v p, r.each p, l.each p);
    dreps = λ d. omega (arith, w d, t.each d, m.each d);
  }

  module _ (e : Entry) (h : HasCounted e (record { pools = pools; dreps = dreps })) where
    -- what the entry delegates to has a delegator
    pub pool_has : (joined : Option PoolId) (up : List (PoolId × ℕ)) (p : PoolId) → IsRaised pool_cmp joined 1 pools up → pool_of e ≡ Some p → 1 ≤ amount_at pool_cmp up p
    pool_has joined up p r is = omega (arith, h.pools p, r.each p, amount_there pool_total p 1 (pool_of e) is)

    pub drep_has : (joined : Option Credential) (more : List (Credential × ℕ)) (d : Credential) → IsRaised credential_cmp joined 1 dreps more → drep_of e ≡ Some d → 1 ≤ amount_at credential_cmp more d
    drep_has joined more d r is = omega (arith, h.dreps d, r.each d, amount_there credential_total d 1 (drep_of e) is)

-- the counts after an entry of the accounts has become another
pub counted_after : (s t : Counted) (c : Credential) (e : Entry) (entries : List (Credential × Entry)) → AreCounted s entries → AreRecounted (whole_entry entries c) e s t → AreCounted t (with_entry c e entries)
counted_after s t c e entries h r = record {
  in_order = IsMap-with_entry c e entries h.in_order;
  pools = λ p. omega (arith, h.pools p, r.pools p, entered_sum (joins_pool p) refl c entries e h.in_order);
  dreps = λ d. omega (arith, h.dreps d, r.dreps d, entered_sum (joins_drep d) refl c entries e h.in_order);
}

-- an entry that becomes itself leaves the counts
pub counted_still : (s t : Counted) (e : Entry) (entries : List (Credential × Entry)) → AreCounted s entries → AreRecounted e e s t → AreCounted t entries
counted_still s t e entries h r = record {
  in_order = h.in_order;
  pools = λ p. omega (arith, h.pools p, r.pools p);
  dreps = λ d. omega (arith, h.dreps d, r.dreps d);
}

-- the delegations of an entry are counted
pub has_counted : (s : Counted) (c : Credential) (entries : List (Credential × Entry)) → AreCounted s entries → HasCounted (whole_entry entries c) s
has_counted s c entries h = record {
  pools = λ p. omega (arith, h.pools p, before_within (joins_pool p) refl c entries);
  dreps = λ d. omega (arith, h.dreps d, before_within (joins_drep d) refl c entries);
}

-- a name has no delegators where none of the names has any
none_at : {K : Type 0} {cmp : K → K → Ordering} (o : IsTotalOrder cmp) (es : List (K × ℕ)) (names : List K) → list_any (has_key cmp es) names ≡ false → (k : K) → has_member cmp names k ≡ true → amount_at cmp es k ≡ 0
none_at o es [] h k m = cc
none_at {K} {cmp} o es (q ∷ names) h k m =
    let absent : (x : Option ℕ) (b : Bool) → (is_some x || b) ≡ false → unwrap_or x 0 ≡ 0 = λ x b. elim x as (λ x. (is_some x || b) ≡ false → unwrap_or x 0 ≡ 0) [ None ↦ λ h. refl | Some n ↦ λ h. cc ] in
    let later : (b c : Bool) → (b || c) ≡ false → c ≡ false = λ b c. elim b as (λ b. (b || c) ≡ false → c ≡ false) [ true ↦ λ h. cc | false ↦ λ h. h ] in
    elim (eq_by_cmp cmp k q) as (λ b. eq_by_cmp cmp k q ≡ b → (b || has_member cmp names k) ≡ true → amount_at cmp es k ≡ 0) [
      | true ↦ λ t m. ap (λ (x : Option ℕ). unwrap_or x 0) (sym (value_at_tied o k q es t)) ∙ absent (value_at cmp es q) (list_any (has_key cmp es) names) h
      | false ↦ λ t m. none_at o es names (later (has_key cmp es q) (list_any (has_key cmp es) names) h) k m
    ] refl m

module _ {K : Type 0} {cmp : K → K → Ordering} (o : IsTotalOrder cmp) (l : Leaving) (names : List K) (key : Registered → Option K) (leaves : (r : Registered) → is_cleared l r ≡ some_and (has_member cmp names) (key r)) where
  abbrev joins : K → Entry → ℕ
  joins k e = amount_for cmp 1 (option_and_then key e.registered) k

  -- an entry that counts for none of the names does not change
  stays : (e : Option Registered) → ((k : K) → has_member cmp names k ≡ true → amount_for cmp 1 (option_and_then key e) k ≡ 0) → is_some (option_and_then (change_of l) e) ≡ false
  stays None h = refl
  stays (Some r) h =
      let out : (x : Option K) → ((k : K) → has_member cmp names k ≡ true → amount_for cmp 1 x k ≡ 0) → some_and (has_member cmp names) x ≡ false =
      λ x. elim x as (λ x. ((k : K) → has_member cmp names k ≡ true → amount_for cmp 1 x k ≡ 0) → some_and (has_member cmp names) x ≡ false) [
        | None ↦ λ h. refl
        | Some k ↦ λ h. elim (has_member cmp names k) as (λ b. has_member cmp names k ≡ b → b ≡ false) [
          | true ↦ λ t. absurd (omega (arith, h k t, amount_there o k 1 (Some k) refl))
          | false ↦ λ t. refl
        ] refl
      ] in
      ap (λ b. is_some (cond b (Some (cleared l r)) None)) (leaves r ∙ out (key r) h)

  none_delegate : (es : List (Credential × Entry)) → ((k : K) → has_member cmp names k ≡ true → sum_values (joins k) es ≡ 0) → delegating l es ≡ []
  none_delegate [] h = refl
  none_delegate (e ∷ es) h =
      let first : is_some (option_and_then (change_of l) e.1.registered) ≡ false = stays e.1.registered (λ k m. omega (arith, h k m, sum_by-cons (joins k) e.1 (values_of es))) in
      ap (λ b. keys_of (cond b (e ∷ entries_where (λ c (e : Entry). is_some (option_and_then (change_of l) e.registered)) es) (entries_where (λ c (e : Entry). is_some (option_and_then (change_of l) e.registered)) es))) first
      ∙ none_delegate es (λ k m. omega (arith, h k m, sum_by-cons (joins k) e.1 (values_of es)))

named_one : (names : List Credential) (o : Option Drep) → names_one names o ≡ some_and (has_member credential_cmp names) (option_and_then credential_of o)
named_one names None = refl
named_one names (Some (drep.Registered c)) = refl
named_one names (Some drep.Abstain) = refl
named_one names (Some drep.NoConfidence) = refl

module _ (s : Counted) (entries : List (Credential × Entry)) (h : AreCounted s entries) (l : Leaving) where
  -- where none of the pools has a delegator, no account delegates to them
  pub no_pool_has : (names : List PoolId) → ((r : Registered) → is_cleared l r ≡ some_and (has_member pool_cmp names) r.pool) → list_any (has_key pool_cmp s.pools) names ≡ false → delegating l entries ≡ []
  no_pool_has names leaves none = none_delegate pool_total l names (λ (r : Registered). r.pool) leaves entries (λ p m. sym (h.pools p) ∙ none_at pool_total s.pools names none p m)

  -- and so it is for DReps
  pub no_drep_has : (names : List Credential) → ((r : Registered) → is_cleared l r ≡ names_one names r.drep) → list_any (has_key credential_cmp s.dreps) names ≡ false → delegating l entries ≡ []
  no_drep_has names leaves none =
      none_delegate credential_total l names (λ (r : Registered). option_and_then credential_of r.drep) (λ r. leaves r ∙ named_one names r.drep) entries (λ d m. sym (h.dreps d) ∙ none_at credential_total s.dreps names none d m)

-- where nothing that leaves has a delegator, no account delegates to it
pub none_leave : (s : Counted) (entries : List (Credential × Entry)) → AreCounted s entries → (l : Leaving) → have_any l s ≡ false → delegating l entries ≡ []
none_leave s entries h (Pools pools) none = no_pool_has s entries h (Pools pools) pools.keys (λ r. refl) none
none_leave s entries h (Dreps dreps) none = no_drep_has s entries h (Dreps dreps) dreps.keys (delegates_named dreps.keys) none
