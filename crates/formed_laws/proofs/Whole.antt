-- A sound World whose parts have the form has it: what is left are numbers that the supply bounds.
use Rattle.std.proofs.Common.{◌≡◌, ℕ, ◌^◌, ◌≤◌, List, [], ◌∷◌, ◌++◌, Bool, true, false, ◌&&◌, ◌||◌, not, cond, Option, Some, None, filter_map, is_some, map, refl, ap, arith}
use Rattle.std.specs.BTreeMap.{is_at}
use Rattle.std.specs.List.{AllByRecursion, IsDistinct, cons_option, list_all, list_any}
use Rattle.std.specs.Map.{values_of}
use Rattle.std.specs.Option.{option_map}
use Rattle.std.specs.Ordering.{eq_by_cmp}
use Rattle.std.proofs.lemmas.Bool.{and_from, lt-ltb}
use Rattle.std.proofs.lemmas.Cmp.{eq_by_cmp_equiv}
use Rattle.maps.specs.Maps.{IsMap, has_key, sum_values, value_at}
use Rattle.maps.specs.Words.{none_or, repeats}
use Rattle.gov_ids.specs.declared.Account.{Account}
use Rattle.gov_ids.specs.declared.ActionId.{ActionId}
use Rattle.gov_ids.specs.declared.Credential.{Credential}
use Rattle.gov_ids.specs.declared.OutRef.{OutRef}
use Rattle.gov_ids.specs.declared.PoolId.{PoolId}
use Rattle.gov_ids.specs.declared.Voter.{Voter}
use Rattle.gov_ids.specs.Orders.{action_id_cmp, credential_cmp, outref_cmp, pool_cmp, txid_cmp, voter_cmp}
use Rattle.gov_ids.specs.Same.{same_action}
use Rattle.gov_ids.proofs.Totals.{pool_total}
use Rattle.book_records.specs.declared.DrepState.{DrepState}
use Rattle.book_records.specs.declared.Entry.{Entry}
use Rattle.book_records.specs.declared.Output.{Output}
use Rattle.book_records.specs.declared.pool.Pool.{Pool}
use Rattle.book_records.specs.declared.Registered.{Registered}
use Rattle.gov_actions.specs.declared.action.Proposal.{Proposal}
use Rattle.gov_actions.specs.declared.action.Vote.{Vote}
use Rattle.gov_actions.specs.declared.state.Committee.{Committee}
use Rattle.gov_actions.specs.declared.state.EnactState.{EnactState}
use Rattle.gov_actions.specs.declared.state.HotState.{HotState}
use Rattle.gov_model.specs.Ratified.{ids_of}
use Rattle.gov_model.specs.Sides.{members_of}
use Rattle.coin_frac.specs.declared.TheConstants.{SUPPLY_LIMIT}
use Rattle.tx_records.specs.Limits.{is_u64}
use Rattle.ledger_model.specs.Ledger.{Ledger, account_at, output_stake}
use Rattle.ledger_model.specs.Supply.{supply_of}
use Rattle.run_model.specs.Freeze.{entries_of, frozen_credentials, reward_accounts, snapshot_of, stake_parts}
use Rattle.run_model.specs.SoundWorld.{AreSoundProposals, AreSoundStakes, IsSoundLedger, IsSoundSnapshot, held_by}
use Rattle.run_model.specs.World.{World}
use Rattle.dormant_laws.proofs.Dormant.{all_from_found}
use Rattle.dormant_laws.proofs.Lists.{all_append, all_passing, left_of, right_of}
use Rattle.text_forms.specs.Actions.{are_proposals, is_proposal, is_vote}
use Rattle.text_forms.specs.Books as books
use Rattle.text_forms.specs.Ids.{is_credential, is_pool_id, is_ref, is_tx_id, is_voter}
use Rattle.text_forms.specs.Snapshots.{are_stakes, is_snapshot}
use Rattle.text_forms.specs.States.{is_committee, is_state}
use Rattle.checkpoint_model.specs.Resumable.{has_book_form, has_plain_form}
use Rattle.formed_laws.proofs.Each.{Each, all-in_order, all_true, each-at, each_within, rising_from_set}
use Rattle.formed_laws.proofs.Parts.{HasParts, HasState, IsKept, is_any, is_kept_account, is_kept_drep, is_kept_output, is_kept_pool, is_seated}

-- ---- numbers

pub small : (n : ℕ) → n ≤ SUPPLY_LIMIT → is_u64 n ≡ true
small n h = lt-ltb n (2 ^ 64) (omega (arith, h))

-- each pot is within the supply
record ArePots (l : Ledger) : Type 0 where
  rewards : sum_values (λ (r : Registered). r.rewards) l.accounts ≤ l.supply
  fees : l.fees ≤ l.supply
  donations : l.donations ≤ l.supply
  treasury : l.state.treasury ≤ l.supply
  reserves : l.reserves ≤ l.supply

are_pots : (l : Ledger) → supply_of l ≡ l.supply → ArePots l
are_pots l e = record { rewards = omega (arith, e); fees = omega (arith, e); donations = omega (arith, e); treasury = omega (arith, e); reserves = omega (arith, e) }

pub plain_formed : (l : Ledger) → HasParts l → IsSoundLedger l → has_plain_form l ≡ true
plain_formed l h s =
    let p : ArePots l = are_pots l s.balanced in
    let supply : is_u64 l.supply ≡ true = small l.supply s.within in
    let dormant : is_u64 l.dormant ≡ true = lt-ltb l.dormant (2 ^ 64) (omega (arith, s.dormancy.at_most, s.epoch)) in
    and_from _ _ (
    and_from _ _ (
    and_from _ _ (
    and_from _ _ (
    and_from _ _ (and_from _ _ (and_from _ _ (and_from _ _ h.network (lt-ltb 0 l.epoch_length (omega (arith, s.lasting)))) h.long) supply) (lt-ltb l.slot (2 ^ 62) s.slot)
    ) dormant
    ) (small l.reserves (omega (arith, p.reserves, s.within)))
    ) (small l.fees (omega (arith, p.fees, s.within)))
    ) (small l.donations (omega (arith, p.donations, s.within)))

-- ---- what can be enacted

committee_formed : (o : Option Committee) → IsMap credential_cmp (members_of o) → none_or is_seated o ≡ true → none_or is_committee o ≡ true
committee_formed None m h = refl
committee_formed (Some c) m h = and_from _ _ (and_from _ _ (rising_from_set credential_cmp _ m) (left_of _ _ h)) (right_of _ _ h)

state_formed : (s : EnactState) → HasState s → IsMap credential_cmp (members_of s.committee) → is_u64 s.treasury ≡ true → is_state s ≡ true
state_formed s h m t =
    and_from _ _ (and_from _ _ (and_from _ _ (and_from _ _ (and_from _ _ (and_from _ _ h.params h.version) (committee_formed s.committee m h.committee)) h.document) h.script) h.last) t

pub live_state_formed : (l : Ledger) → HasParts l → IsSoundLedger l → is_state l.state ≡ true
live_state_formed l h s = state_formed l.state h.state s.committee (small l.state.treasury (omega (arith, (are_pots l s.balanced).treasury, s.within)))

-- ---- books

output_formed : (es : List (OutRef × Output)) → Each is_ref is_kept_output es → list_all books.is_output es ≡ true
output_formed [] h = refl
output_formed (e ∷ es) h =
    let front = left_of _ _ h.0.1 in
    and_from (books.is_output e) (list_all books.is_output es) (and_from _ _ (and_from _ _ (and_from _ _ h.0.0 (left_of _ _ front)) (right_of _ _ front)) (right_of _ _ h.0.1)) (output_formed es h.1)

pub account_formed : (n : ℕ) (es : List (Credential × Registered)) → n ≤ SUPPLY_LIMIT → Each is_credential is_kept_account es → sum_values (λ (r : Registered). r.rewards) es ≤ n → Each is_credential books.is_registration es
account_formed n es few h within = go es h (each_within (λ (r : Registered). r.rewards) n es within)
  where
    go : (es : List (Credential × Registered)) → Each is_credential is_kept_account es → AllByRecursion (λ (e : Credential × Registered). e.1.rewards ≤ n) es → Each is_credential books.is_registration es
    go [] h k = tt
    go (e ∷ es) h k =
        let to = right_of _ _ h.0.1 in
        ((h.0.0, and_from _ _ (and_from _ _ (and_from _ _ (left_of _ _ h.0.1) (small e.1.rewards (omega (arith, few, k.0)))) (left_of _ _ to)) (right_of _ _ to)), go es h.1 k.1)

account_test : (es : List (Credential × Registered)) → Each is_credential books.is_registration es → list_all books.is_account es ≡ true
account_test [] h = refl
account_test (e ∷ es) h = and_from (books.is_account e) (list_all books.is_account es) (and_from _ _ h.0.0 h.0.1) (account_test es h.1)

pool_formed : (es : List (PoolId × Pool)) → Each is_pool_id is_kept_pool es → list_all books.is_pool es ≡ true
pool_formed [] h = refl
pool_formed (e ∷ es) h =
    let future = left_of _ _ h.0.1 in
    let terms = left_of _ _ future in
    and_from (books.is_pool e) (list_all books.is_pool es)
    (and_from _ _ (and_from _ _ (and_from _ _ (and_from _ _ h.0.0 (left_of _ _ terms)) (right_of _ _ terms)) (right_of _ _ future)) (right_of _ _ h.0.1)) (pool_formed es h.1)

-- each expiry is a number of 64 bits
expiries : (l : Ledger) → IsSoundLedger l → AllByRecursion (λ (d : DrepState). is_u64 d.expiry ≡ true) (values_of l.dreps)
expiries l s =
    all_from_found (λ (d : DrepState). is_u64 d.expiry ≡ true) l.dreps s.maps.dreps
    (λ k d e. lt-ltb d.expiry (2 ^ 64) (omega (arith, s.dormancy.expiries k d e, s.epoch)))

drep_formed : (es : List (Credential × DrepState)) → Each is_credential is_kept_drep es → AllByRecursion (λ (d : DrepState). is_u64 d.expiry ≡ true) (values_of es) → list_all books.is_drep es ≡ true
drep_formed [] h k = refl
drep_formed (e ∷ es) h k = and_from (books.is_drep e) (list_all books.is_drep es) (and_from _ _ (and_from _ _ h.0.0 h.0.1) k.0) (drep_formed es h.1 k.1)

hot_formed : (es : List (Credential × HotState)) → Each is_credential books.is_hot_state es → list_all books.is_hot es ≡ true
hot_formed [] h = refl
hot_formed (e ∷ es) h = and_from (books.is_hot e) (list_all books.is_hot es) (and_from _ _ h.0.0 h.0.1) (hot_formed es h.1)

-- ---- proposals

votes_formed : (vs : List (Voter × Vote)) → Each is_voter is_any vs → list_all is_vote vs ≡ true
votes_formed [] h = refl
votes_formed (v ∷ vs) h = and_from (is_vote v) (list_all is_vote vs) h.0.0 (votes_formed vs h.1)

each_proposal : (ps : List Proposal) → AllByRecursion IsKept ps → AllByRecursion (λ (p : Proposal). IsMap voter_cmp p.votes) ps → list_all is_proposal ps ≡ true
each_proposal [] h k = refl
each_proposal (p ∷ ps) h k =
    and_from (is_proposal p) (list_all is_proposal ps)
    (
    and_from _ _ (and_from _ _ (and_from _ _ (and_from _ _ (and_from _ _ (and_from _ _ h.0.id h.0.action) h.0.deposit) h.0.account) h.0.last) (votes_formed p.votes h.0.votes)) (rising_from_set voter_cmp _ k.0)
    ) (each_proposal ps h.1 k.1)

none_same : (a : ActionId) (ids : List ActionId) → AllByRecursion (λ b. same_action a b ≡ false) ids → list_any (eq_by_cmp action_id_cmp a) ids ≡ false
none_same a [] h = refl
none_same a (b ∷ ids) h = λ i. h.0 i || none_same a ids h.1 i

no_repeats : (ids : List ActionId) → IsDistinct same_action ids → repeats action_id_cmp ids ≡ false
unfolding IsDistinct
no_repeats [] h = refl
no_repeats (a ∷ ids) h = λ i. none_same a ids h.0 i || no_repeats ids h.1 i

pub proposals_formed : (ps : List Proposal) → AllByRecursion IsKept ps → AreSoundProposals ps → are_proposals ps ≡ true
proposals_formed ps h s = and_from _ _ (each_proposal ps h s.votes) (ap not (no_repeats (ids_of ps) s.ids))

pub books_formed : (l : Ledger) → HasParts l → IsSoundLedger l → has_book_form l ≡ true
books_formed l h s =
    let p : ArePots l = are_pots l s.balanced in
    let outputs = and_from _ _ (rising_from_set outref_cmp _ s.maps.outputs) (output_formed l.outputs h.outputs) in
    let used = and_from _ _ (and_from _ _ outputs (rising_from_set txid_cmp _ s.maps.used)) (all_true is_tx_id l.used h.used) in
    let accounts = and_from _ _ (and_from _ _ used (rising_from_set credential_cmp _ s.maps.accounts)) (account_test l.accounts (account_formed l.supply l.accounts s.within h.accounts p.rewards)) in
    let pools = and_from _ _ (and_from _ _ accounts (rising_from_set pool_cmp _ s.maps.pools)) (pool_formed l.pools h.pools) in
    let dreps = and_from _ _ (and_from _ _ pools (rising_from_set credential_cmp _ s.maps.dreps)) (drep_formed l.dreps h.dreps (expiries l s)) in
    let hot = and_from _ _ (and_from _ _ dreps (rising_from_set credential_cmp _ s.maps.hot)) (hot_formed l.hot h.hot) in
    and_from _ _ hot (proposals_formed l.proposals h.proposals s.proposals)

-- ---- stakes of pools

abbrev is_number : ℕ → Bool
is_number n = true

stake_each : (n : ℕ) (es : List (PoolId × ℕ)) → n ≤ SUPPLY_LIMIT → AllByRecursion (λ (e : PoolId × ℕ). is_pool_id e.0 ≡ true) es → AllByRecursion (λ (e : PoolId × ℕ). e.1 ≤ n) es → list_all books.is_stake es ≡ true
stake_each n [] few h k = refl
stake_each n (e ∷ es) few h k = and_from (books.is_stake e) (list_all books.is_stake es) (and_from _ _ h.0 (small e.1 (omega (arith, few, k.0)))) (stake_each n es few h.1 k.1)

pub stakes_formed : (supply : ℕ) (stakes : List (PoolId × ℕ)) → supply ≤ SUPPLY_LIMIT → AllByRecursion (λ (e : PoolId × ℕ). is_pool_id e.0 ≡ true) stakes → AreSoundStakes supply stakes → are_stakes stakes ≡ true
stakes_formed supply stakes few h s = and_from _ _ (rising_from_set pool_cmp _ s.pools) (stake_each supply stakes few h (each_within (λ (n : ℕ). n) supply stakes s.sum))

-- the keys of registered pools
pub pools_named : (f : PoolId × Pool → ℕ) (es : List (PoolId × Pool)) → Each is_pool_id is_kept_pool es → AllByRecursion (λ (e : PoolId × ℕ). is_pool_id e.0 ≡ true) (map (λ (e : PoolId × Pool). (e.0, f e)) es)
pools_named f [] h = tt
pools_named f (e ∷ es) h = (h.0.0, pools_named f es h.1)

-- ---- what is frozen

parts_of_one : (o : Option Credential) (cs : List Credential) → none_or is_credential o ≡ true → AllByRecursion (λ c. is_credential c ≡ true) cs → AllByRecursion (λ c. is_credential c ≡ true) (cons_option o cs)
parts_of_one None cs h k = k
parts_of_one (Some c) cs h k = (h, k)

stakes_named : (es : List (OutRef × Output)) → Each is_ref is_kept_output es → AllByRecursion (λ c. is_credential c ≡ true) (filter_map (λ (e : OutRef × Output). e.1.address.stake) es)
stakes_named [] h = tt
stakes_named (e ∷ es) h = parts_of_one e.1.address.stake _ (right_of _ _ (left_of _ _ (left_of _ _ h.0.1))) (stakes_named es h.1)

accounts_named : (es : List (Credential × Registered)) → Each is_credential is_kept_account es → AllByRecursion (λ c. is_credential c ≡ true) (map (λ (e : Credential × Registered). e.0) es)
accounts_named [] h = tt
accounts_named (e ∷ es) h = (h.0.0, accounts_named es h.1)

credentials_named : (l : Ledger) → HasParts l → AllByRecursion (λ c. is_credential c ≡ true) (frozen_credentials l)
credentials_named l h =
    all_passing (λ c. is_credential c ≡ true) _ _
    (all-in_order credential_cmp (λ c. is_credential c ≡ true) (map (λ (e : Credential × Registered). e.0) l.accounts ++ stake_parts l) []
    (all_append (λ c. is_credential c ≡ true) (map (λ (e : Credential × Registered). e.0) l.accounts) (stake_parts l) (accounts_named l.accounts h.accounts) (stakes_named l.outputs h.outputs)) tt)

entry_each : (l : Ledger) (n : ℕ) (cs : List Credential) → n ≤ SUPPLY_LIMIT → AllByRecursion (λ c. is_credential c ≡ true) cs → Each is_credential books.is_registration l.accounts
    → AllByRecursion (λ (e : Credential × Entry). held_by e.1 ≤ n) (map (λ c. (c, record { stake = output_stake l c; registered = account_at l c })) cs)
    → list_all books.is_entry (map (λ c. (c, record { stake = output_stake l c; registered = account_at l c })) cs) ≡ true
entry_each l n [] few h k within = refl
entry_each l n (c ∷ cs) few h k within =
    let held : output_stake l c ≤ n = omega (arith, within.0) in
    let e : Credential × Entry = (c, record { stake = output_stake l c; registered = account_at l c }) in
    and_from (books.is_entry e) _ (and_from _ _ (and_from _ _ h.0 (small (output_stake l c) (omega (arith, few, held)))) (each-at is_credential books.is_registration credential_cmp c l.accounts k)) (entry_each l n cs few h.1 k within.1)

frozen_drep_each : (es : List (Credential × DrepState)) → list_all books.is_drep es ≡ true → list_all books.is_frozen_drep (map (λ (e : Credential × DrepState). (e.0, e.1.expiry)) es) ≡ true
frozen_drep_each [] h = refl
frozen_drep_each (e ∷ es) h =
    let here : books.is_drep e ≡ true = left_of (books.is_drep e) (list_all books.is_drep es) h in
    and_from (books.is_frozen_drep (e.0, e.1.expiry)) _ (and_from (is_credential e.0) (is_u64 e.1.expiry) (left_of _ (is_u64 e.1.deposit) (left_of _ (is_u64 e.1.expiry) here)) (right_of (is_credential e.0 && is_u64 e.1.deposit) _ here)) (frozen_drep_each es (right_of (books.is_drep e) (list_all books.is_drep es) h))

-- reward accounts of pools of mark
module _ (mark : List (PoolId × ℕ)) (pools : List (PoolId × Pool)) (h : Each is_pool_id is_kept_pool pools) where
  abbrev chosen : PoolId × ℕ → Option (PoolId × Account)
  chosen m = option_map (λ (p : Pool). (m.0, p.terms.account)) (value_at pool_cmp pools m.0)

  abbrev is_chosen : PoolId × Account → Bool
  is_chosen p = books.is_pool_account p && has_key pool_cmp mark p.0

  chosen_one : (m : PoolId × ℕ) (o : Option Pool) (rest : List (PoolId × Account)) → is_pool_id m.0 ≡ true → has_key pool_cmp mark m.0 ≡ true → none_or is_kept_pool o ≡ true
      → AllByRecursion (λ x. is_chosen x ≡ true) rest → AllByRecursion (λ x. is_chosen x ≡ true) (cons_option (option_map (λ (p : Pool). (m.0, p.terms.account)) o) rest)
  chosen_one m None rest a b c k = k
  chosen_one m (Some p) rest a b c k =
      let terms = right_of _ _ (left_of _ _ (left_of _ _ c)) in
      (and_from _ _ (and_from _ _ a (right_of _ _ (left_of _ _ terms))) b, k)

  chosen_each : (ms : List (PoolId × ℕ)) → AllByRecursion (λ (m : PoolId × ℕ). is_pool_id m.0 ≡ true) ms → AllByRecursion (λ (m : PoolId × ℕ). has_key pool_cmp mark m.0 ≡ true) ms
      → AllByRecursion (λ x. is_chosen x ≡ true) (filter_map chosen ms)
  chosen_each [] a b = tt
  chosen_each (m ∷ ms) a b = chosen_one m (value_at pool_cmp pools m.0) (filter_map chosen ms) a.0 b.0 (each-at is_pool_id is_kept_pool pool_cmp m.0 pools h) (chosen_each ms a.1 b.1)

-- what is in a map is found
later_found : (x : PoolId × ℕ) (xs ms : List (PoolId × ℕ)) → AllByRecursion (λ (m : PoolId × ℕ). has_key pool_cmp xs m.0 ≡ true) ms → AllByRecursion (λ (m : PoolId × ℕ). has_key pool_cmp (x ∷ xs) m.0 ≡ true) ms
later_found x xs [] h = tt
later_found x xs (m ∷ ms) h = (
  elim (is_at (pool_cmp m.0) x.0) as (λ b. is_some (cond b (Some x.1) (value_at pool_cmp xs m.0)) ≡ true) [
    | true ↦ refl
    | false ↦ h.0
  ],
  later_found x xs ms h.1,
)

self_found : (xs : List (PoolId × ℕ)) → AllByRecursion (λ (m : PoolId × ℕ). has_key pool_cmp xs m.0 ≡ true) xs
self_found [] = tt
self_found (x ∷ xs) = (ap (λ (b : Bool). is_some (cond b (Some x.1) (value_at pool_cmp xs x.0))) ((eq_by_cmp_equiv pool_total).refl x.0), later_found x xs xs (self_found xs))

chosen_accounts : (mark : List (PoolId × ℕ)) (ps : List (PoolId × Account)) → AllByRecursion (λ (x : PoolId × Account). (books.is_pool_account x && has_key pool_cmp mark x.0) ≡ true) ps
    → (list_all books.is_pool_account ps ≡ true) × (list_all (λ (p : PoolId × Account). has_key pool_cmp mark p.0) ps ≡ true)
chosen_accounts mark [] h = (refl, refl)
chosen_accounts mark (p ∷ ps) h =
    let rest = chosen_accounts mark ps h.1 in
    (and_from (books.is_pool_account p) _ (left_of _ _ h.0) rest.0, and_from (has_key pool_cmp mark p.0) _ (right_of _ _ h.0) rest.1)

pub snapshot_formed : (v : World) → HasParts v.ledger → IsSoundLedger v.ledger → IsSoundSnapshot v.ledger.supply (snapshot_of v) → are_stakes v.mark ≡ true
    → AllByRecursion (λ (m : PoolId × ℕ). is_pool_id m.0 ≡ true) v.mark → is_snapshot (snapshot_of v) ≡ true
snapshot_formed v h s f mark named =
    let l : Ledger = v.ledger in
    let few : l.supply ≤ SUPPLY_LIMIT = s.within in
    let p : ArePots l = are_pots l s.balanced in
    let held : AllByRecursion (λ (e : Credential × Entry). held_by e.1 ≤ l.supply) (entries_of l) = each_within held_by l.supply (entries_of l) (omega (arith, f.held)) in
    let entries = and_from _ _ (rising_from_set credential_cmp _ f.entries)
    (entry_each l l.supply (frozen_credentials l) few (credentials_named l h) (account_formed l.supply l.accounts few h.accounts p.rewards) held) in
    let dreps = and_from _ _ (and_from _ _ entries (rising_from_set credential_cmp _ f.dreps)) (frozen_drep_each l.dreps (drep_formed l.dreps h.dreps (expiries l s))) in
    let reward = chosen_accounts v.mark (reward_accounts v) (chosen_each v.mark l.pools h.pools v.mark named (self_found v.mark)) in
    let accounts = and_from _ _ (and_from _ _ (rising_from_set pool_cmp _ f.pool_accounts) reward.0) reward.1 in
    let pools = and_from _ _ (and_from _ _ dreps mark) accounts in
    let hot = and_from _ _ (and_from _ _ pools (rising_from_set credential_cmp _ f.hot)) (hot_formed l.hot h.hot) in
    and_from _ _ (and_from _ _ hot (proposals_formed l.proposals h.proposals s.proposals)) (live_state_formed l h s)
