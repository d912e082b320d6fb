-- What a clearing does to one entry, and to the registrations of all.
use Rattle.std.proofs.Common.{◌≡◌, ℕ, ◌+◌, ◌<◌, ◌==◌, ◌&&◌, List, [], ◌∷◌, drop, get_or, length, Bool, true, false, cond, Option, Some, None, IfSome, is_none, is_some, option_map, option_and_then, refl, ap, sym, ◌∙◌, add-one, arith}
use Rattle.std.proofs.Math.Seq.{drop-cons}
use Rattle.std.specs.BTreeMap.{is_at}
use Rattle.std.specs.List.{cons_option, list_any}
use Rattle.std.proofs.lemmas.Map.Views.{IfSome-lookup_from_All}
use Rattle.gov_ids.specs.declared.Credential.{Credential}
use Rattle.gov_ids.specs.declared.PoolId.{PoolId}
use Rattle.gov_ids.specs.declared.Drep.{Drep}
use Rattle.gov_ids.specs.declared.Drep.TheVariants as drep
use Rattle.gov_ids.specs.Orders.{credential_cmp, pool_cmp}
use Rattle.gov_ids.specs.Same.{same_drep}
use Rattle.gov_ids.proofs.Totals.{credential_total, pool_total}
use Rattle.book_records.specs.declared.Entry.{Entry}
use Rattle.book_records.specs.declared.Registered.{Registered}
use Rattle.maps.proofs.Joined.{none_from}
use Rattle.maps.proofs.Lookups.{without_key_absent}
use Rattle.maps.proofs.Placed.{changed_at_absent}
use Rattle.maps.proofs.Sets.{has_member-in_order}
use Rattle.book_records.specs.Delegations.{without_drep}
use Rattle.maps.specs.Maps.{IsMap, value_at, with_value, without_key, has_member, in_order, changed_at, changed_where}
use Rattle.maps.specs.Words.{amount, holds, some_and}
use Rattle.accounts.specs.Accounts.{is_nothing, with_entry}
use Rattle.stake_book.specs.declared.leaving.Leaving.{Leaving}
use Rattle.stake_book.specs.declared.leaving.Leaving.TheVariants.{Pools, Dreps}
use Rattle.stake_book.specs.Ended.{is_cleared, cleared, change_of, delegating, ended_at, entry_without, entries_without, accounts_without}
use Rattle.stake_book.specs.Stakes.{Stakes, AreKept, HasRoom, registrations, whole_entry, with_account, delegates_to_pools, without_pool, without_pools, delegates_to_dreps, without_dreps}
use Rattle.stake_book.specs.Sums.{balance_of}
use Rattle.stake_book.proofs.Clearing.{with_value_there, in_turn}
use Rattle.stake_book.proofs.Entering.{entered_sum}
use Rattle.stake_book.proofs.Registrations.{balances_is}

-- no change: the entry is as it was
pub unchanged : (l : Leaving) (e : Entry) → option_and_then (change_of l) e.registered ≡ None → entry_without l e ≡ e
unchanged l e p =
    let same : option_map (λ r. cond (is_cleared l r) (cleared l r) r) e.registered ≡ e.registered =
    elim e.registered as (λ (o : Option Registered). option_and_then (change_of l) o ≡ None → option_map (λ r. cond (is_cleared l r) (cleared l r) r) o ≡ o) [
      | None ↦ λ p. refl
      | Some r ↦ λ p. elim (is_cleared l r) as (λ b. cond b (Some (cleared l r)) None ≡ None → Some (cond b (cleared l r) r) ≡ Some r) [ true ↦ λ p. cc | false ↦ λ p. refl ] p
    ] p in
    λ i. record { stake = e.stake; registered = same i }

rewards_kept : (l : Leaving) (r : Registered) → (cleared l r).rewards ≡ r.rewards
rewards_kept (Pools pools) r = refl
rewards_kept (Dreps dreps) r = refl

-- an entry that is cleared keeps its balance
balance_kept : (l : Leaving) (e : Entry) → balance_of (entry_without l e) ≡ balance_of e
balance_kept l e =
    elim e.registered as (λ (o : Option Registered). balance_of (record { stake = e.stake; registered = option_map (λ r. cond (is_cleared l r) (cleared l r) r) o }) ≡ balance_of (record { stake = e.stake; registered = o })) [
      | None ↦ refl
      | Some r ↦ elim (is_cleared l r) as (λ b. (cond b (cleared l r) r).rewards ≡ r.rewards) [ true ↦ rewards_kept l r | false ↦ refl ]
    ]

-- it is nothing only if it was
nothing_kept : (l : Leaving) (e : Entry) → is_nothing (entry_without l e) ≡ is_nothing e
nothing_kept l e =
    elim e.registered as (λ (o : Option Registered). ((e.stake == 0) && is_none (option_map (λ r. cond (is_cleared l r) (cleared l r) r) o)) ≡ ((e.stake == 0) && is_none o)) [
      | None ↦ refl
      | Some r ↦ refl
    ]

module _ (l : Leaving) (s : Stakes) (c : Credential) (k : AreKept s) where
  -- the end of a delegation leaves room
  pub clear_room : HasRoom 0 (with_account c (entry_without l (whole_entry s.accounts.live c)).registered s)
  clear_room =
      let live : List (Credential × Entry) = s.accounts.live in
      let after : Entry = entry_without l (whole_entry live c) in
      omega (
        arith,
        k.room,
        balance_kept l (whole_entry live c),
        entered_sum balance_of refl c live after k.live,
        balances_is live,
        balances_is (with_entry c after live),
      )

  -- and makes of the entries what it should
  pub clear_makes : with_entry c (entry_without l (whole_entry s.accounts.live c)) s.accounts.live ≡ changed_at credential_cmp c (entry_without l) s.accounts.live
  clear_makes =
      let live : List (Credential × Entry) = s.accounts.live in
      let found : IfSome (value_at credential_cmp live c) (λ (e : Entry). is_nothing e ≡ false) = IfSome-lookup_from_All (λ (e : Entry). is_nothing e ≡ false) (is_at (credential_cmp c)) live k.entries in
      elim (value_at credential_cmp live c) as (λ (o : Option Entry). value_at credential_cmp live c ≡ o → IfSome o (λ (e : Entry). is_nothing e ≡ false)
      → with_entry c (entry_without l (record { stake = amount (λ (e : Entry). e.stake) o; registered = option_and_then (λ (e : Entry). e.registered) o })) live ≡ changed_at credential_cmp c (entry_without l) live) [
        | None ↦ λ there found. without_key_absent credential_cmp c live there ∙ sym (changed_at_absent credential_cmp c (entry_without l) live there)
        | Some e ↦ λ there found.
            ap (λ b. cond b (without_key credential_cmp c live) (with_value credential_cmp c (entry_without l e) live)) (nothing_kept l e ∙ found)
            ∙ with_value_there credential_total c (entry_without l) e live k.live there
      ] refl found

-- one more of some ended
pub one_ended : (l : Leaving) (cs : List Credential) (i : ℕ) (d : Credential) (es more : List (Credential × Entry)) → i < length cs → more ≡ changed_at credential_cmp (get_or cs i d) (entry_without l) es
    → ended_at l (drop (i + 1) cs) more ≡ ended_at l (drop i cs) es
one_ended l cs i d es more lt is =
    let front : drop i cs ≡ get_or cs i d ∷ drop (i + 1) cs = drop-cons cs i d lt ∙ ap (λ k. get_or cs i d ∷ drop k cs) (sym (add-one i)) in
    ap (ended_at l (drop (i + 1) cs)) is ∙ ap (λ (ks : List Credential). ended_at l ks es) (sym front)

-- all that delegate to what leaves, ended one after another
pub all_ended : (l : Leaving) (live : List (Credential × Entry)) → IsMap credential_cmp live → ended_at l (delegating l live) live ≡ entries_without l live
all_ended l live h =
    in_turn credential_total (entry_without l) (λ (e : Entry). is_some (option_and_then (change_of l) e.registered))
    (λ e p. unchanged l e (none_from (option_and_then (change_of l) e.registered) p)) live h

-- the registrations of the changed entries
pub registrations_without : (l : Leaving) (es : List (Credential × Entry)) → registrations (entries_without l es) ≡ accounts_without l (registrations es)
registrations_without l [] = refl
registrations_without l (e ∷ es) =
    elim e.1.registered as (λ (o : Option Registered). cons_option (option_map (λ (r : Registered). (e.0, r)) (option_map (λ r. cond (is_cleared l r) (cleared l r) r) o)) (registrations (entries_without l es))
    ≡ accounts_without l (cons_option (option_map (λ (r : Registered). (e.0, r)) o) (registrations es))) [
      | None ↦ registrations_without l es
      | Some r ↦ ap (λ (rs : List (Credential × Registered)). (e.0, cond (is_cleared l r) (cleared l r) r) ∷ rs) (registrations_without l es)
    ]

none_changed : {K X : Type 0} (p : K → X → Bool) (f : X → X) → ((k : K) (x : X) → p k x ≡ false) → (es : List (K × X)) → changed_where p f es ≡ es
none_changed p f none [] = refl
none_changed p f none (e ∷ es) = λ i. (e.0, cond (none e.0 e.1 i) (f e.1) e.1) ∷ none_changed p f none es i

-- no pool and no DRep: no change
pub no_pool : (pools : List PoolId) (rs : List (Credential × Registered)) → length pools ≡ 0 → without_pools pools rs ≡ rs
no_pool [] rs e = none_changed (λ c (r : Registered). delegates_to_pools [] r) without_pool (λ c r. elim r.pool as (λ (o : Option PoolId). some_and (has_member pool_cmp []) o ≡ false) [ None ↦ refl | Some p ↦ refl ]) rs
no_pool (p ∷ pools) rs e = absurd (omega (arith, e))

pub no_drep : (dreps : List Credential) (rs : List (Credential × Registered)) → length dreps ≡ 0 → without_dreps dreps rs ≡ rs
no_drep [] rs e = none_changed (λ c (r : Registered). delegates_to_dreps [] r) without_drep (λ c r. refl) rs
no_drep (d ∷ dreps) rs e = absurd (omega (arith, e))

-- the pools may be in any order
pub any_order : (pools : List PoolId) (rs : List (Credential × Registered)) → without_pools (in_order pool_cmp pools) rs ≡ without_pools pools rs
any_order pools rs = λ i. changed_where (λ c (r : Registered). some_and (λ q. has_member-in_order pool_total pools q i) r.pool) without_pool rs

-- the DRep is that of one of these credentials
abbrev pub names_one : List Credential → Option Drep → Bool
names_one dreps (Some (drep.Registered c)) = has_member credential_cmp dreps c
names_one dreps _ = false

none_of : {A : Type 0} (xs : List A) → list_any (λ x. false) xs ≡ false
none_of [] = refl
none_of (x ∷ xs) = none_of xs

named : (dreps : List Credential) (o : Option Drep) → list_any (λ c. holds same_drep o (drep.Registered c)) dreps ≡ names_one dreps o
named dreps None = none_of dreps
named dreps (Some (drep.Registered c)) = refl
named dreps (Some drep.Abstain) = none_of dreps
named dreps (Some drep.NoConfidence) = none_of dreps

-- an account delegates to one of them where its DRep is one
pub delegates_named : (dreps : List Credential) (r : Registered) → delegates_to_dreps dreps r ≡ names_one dreps r.drep
delegates_named dreps r = named dreps r.drep

names_in_order : (dreps : List Credential) (o : Option Drep) → names_one (in_order credential_cmp dreps) o ≡ names_one dreps o
names_in_order dreps None = refl
names_in_order dreps (Some (drep.Registered c)) = has_member-in_order credential_total dreps c
names_in_order dreps (Some drep.Abstain) = refl
names_in_order dreps (Some drep.NoConfidence) = refl

-- so may the DReps
pub any_drep_order : (dreps : List Credential) (rs : List (Credential × Registered)) → without_dreps (in_order credential_cmp dreps) rs ≡ without_dreps dreps rs
any_drep_order dreps rs =
    let same : (r : Registered) → delegates_to_dreps (in_order credential_cmp dreps) r ≡ delegates_to_dreps dreps r =
    λ r. delegates_named (in_order credential_cmp dreps) r ∙ names_in_order dreps r.drep ∙ sym (delegates_named dreps r) in
    λ i. changed_where (λ c (r : Registered). same r i) without_drep rs
