-- A boundary keeps the form of a ledger's parts, where what is frozen has it.
use Rattle.tx_records.specs.Limits.{is_u64}
use Rattle.formed_laws.specs.Records.{are_targets}
use Rattle.std.proofs.Common.{◌≡◌, ℕ, ◌+◌, ◌-◌, List, true, ◌&&◌, Option, Some, None, refl, unwrap_or}
use Rattle.std.specs.List.{AllByRecursion}
use Rattle.std.proofs.lemmas.Bool.{and_from}
use Rattle.maps.specs.Maps.{changed_where, each_value}
use Rattle.maps.specs.Words.{none_or, some_and}
use Rattle.gov_ids.specs.declared.Credential.{Credential}
use Rattle.book_records.specs.declared.pool.Pool.{Pool}
use Rattle.book_records.specs.declared.pool.PoolTerms.{PoolTerms}
use Rattle.book_records.specs.declared.Registered.{Registered}
use Rattle.book_records.specs.Pools.{staying_at, turned}
use Rattle.gov_actions.specs.declared.action.Proposal.{Proposal}
use Rattle.gov_actions.specs.declared.state.EnactState.{EnactState}
use Rattle.gov_model.specs.Hot.{of_members}
use Rattle.tx_records.specs.declared.record.Rewards.{Rewards}
use Rattle.ledger_model.specs.Ledger.{Ledger}
use Rattle.run_model.specs.Boundary.{after_donations, after_dormancy, after_enactment, after_members, after_payments, after_pools, after_removals, after_rewards, after_terms, amount_to, claimed, credited, is_reaped, kept_proposals, paid_out, payments_due, pool_refunds, proposal_refunds, reaped, terms_turned, treasury_gains, treasury_pays, unclaimed, update_applied, without_pool, withdrawals_paid, world_after_boundary}
use Rattle.run_model.specs.World.{World}
use Rattle.dormant_laws.proofs.Lists.{all_passing, left_of, right_of}
use Rattle.text_forms.specs.Books.{are_terms, is_hot_state}
use Rattle.text_forms.specs.Ids.{is_credential, is_drep_id, is_pool_id}
use Rattle.formed_laws.proofs.Each.{each-changed_where, each-each_value, each-filter}
use Rattle.formed_laws.proofs.Enacting.{ratified_formed}
use Rattle.formed_laws.proofs.Parts.{HasParts, HasState, IsKept, accounts_now, hot_now, is_kept_account, is_kept_pool, pools_now}

-- ---- where one part changes

same_state : (s : EnactState) (n : ℕ) → HasState s → HasState (record s { treasury = n })
same_state s n h = record { params = h.params; version = h.version; committee = h.committee; document = h.document; script = h.script; last = h.last }

state_now : (l : Ledger) (s : EnactState) → HasParts l → HasState s → HasParts (record l { state = s })
state_now l s h k = record { network = h.network; long = h.long; state = k; outputs = h.outputs; used = h.used; accounts = h.accounts; pools = h.pools; dreps = h.dreps; hot = h.hot; proposals = h.proposals }

proposals_now : (l : Ledger) (ps : List Proposal) → HasParts l → AllByRecursion IsKept ps → HasParts (record l { proposals = ps })
proposals_now l ps h k = record { network = h.network; long = h.long; state = h.state; outputs = h.outputs; used = h.used; accounts = h.accounts; pools = h.pools; dreps = h.dreps; hot = h.hot; proposals = k }

-- numbers do not count
numbers_now : (l : Ledger) (slot epoch dormant reserves fees donations : ℕ) → HasParts l
    → HasParts (record l { slot = slot; epoch = epoch; dormant = dormant; reserves = reserves; fees = fees; donations = donations })
numbers_now l slot epoch dormant reserves fees donations h =
    record { network = h.network; long = h.long; state = h.state; outputs = h.outputs; used = h.used; accounts = h.accounts; pools = h.pools; dreps = h.dreps; hot = h.hot; proposals = h.proposals }

pub slot_now : (l : Ledger) (slot : ℕ) → HasParts l → HasParts (record l { slot = slot })
slot_now l slot h = numbers_now l slot l.epoch l.dormant l.reserves l.fees l.donations h

-- ---- payments

by_credits : (ps : List (Credential × ℕ)) (l : Ledger) → HasParts l → HasParts (credited ps l)
by_credits ps l h =
    accounts_now l (each_value (λ c (r : Registered). record r { rewards = r.rewards + amount_to ps c }) l.accounts) h
    (each-each_value is_credential is_kept_account (λ c (r : Registered). record r { rewards = r.rewards + amount_to ps c }) (λ c r k. k) l.accounts h.accounts)

by_gain : (n : ℕ) (l : Ledger) → HasParts l → HasParts (treasury_gains n l)
by_gain n l h = state_now l (record l.state { treasury = l.state.treasury + n }) h (same_state l.state (l.state.treasury + n) h.state)

by_pay : (n : ℕ) (l : Ledger) → HasParts l → HasParts (treasury_pays n l)
by_pay n l h = state_now l (record l.state { treasury = l.state.treasury - n }) h (same_state l.state (l.state.treasury - n) h.state)

by_paid : (ps : List (Credential × ℕ)) (l : Ledger) → HasParts l → HasParts (paid_out ps l)
by_paid ps l h = by_gain (unclaimed l ps) (credited ps l) (by_credits ps l h)

-- ---- the steps

pub by_update : (o : Option Rewards) (l : Ledger) → HasParts l → HasParts (update_applied o l)
by_update None l h = h
by_update (Some u) l h =
    let taken : Ledger = record l { reserves = l.reserves - u.from_reserves; fees = l.fees - u.from_fees } in
    by_paid u.rewards (treasury_gains u.to_treasury taken) (by_gain u.to_treasury taken (numbers_now l l.slot l.epoch l.dormant (l.reserves - u.from_reserves) (l.fees - u.from_fees) l.donations h))

turned_terms : (o : Option PoolTerms) (t : PoolTerms) → none_or are_terms o ≡ true → are_terms t ≡ true → are_terms (unwrap_or o t) ≡ true
turned_terms None t h k = k
turned_terms (Some x) t h k = h

turned_pool : (p : Pool) → is_kept_pool p ≡ true → is_kept_pool (turned p) ≡ true
turned_pool p h =
    let future = left_of _ _ h in
    let terms = left_of _ _ future in
    and_from _ _ (and_from _ _ (and_from _ _ (left_of _ _ terms) (turned_terms p.future p.terms (right_of _ _ future) (right_of _ _ terms))) refl) (right_of _ _ h)

by_terms : (l : Ledger) → HasParts l → HasParts (terms_turned l)
by_terms l h = pools_now l (each_value (λ p t. turned t) l.pools) h (each-each_value is_pool_id is_kept_pool (λ p t. turned t) (λ p t k. turned_pool t k) l.pools h.pools)

pool_gone : (r : Registered) → is_kept_account r ≡ true → is_kept_account (without_pool r) ≡ true
pool_gone r h = and_from (is_u64 r.deposit) _ (left_of _ (are_targets r.pool r.drep) h) (and_from _ (none_or is_pool_id (without_pool r).pool && none_or is_drep_id (without_pool r).drep) refl (right_of (none_or is_pool_id r.pool) _ (right_of (is_u64 r.deposit) _ h)))

by_reaping : (l : Ledger) → HasParts l → HasParts (reaped l)
by_reaping l h =
    let first : Ledger = record l { pools = staying_at (l.epoch + 1) l.pools } in
    let left : HasParts first = pools_now l (staying_at (l.epoch + 1) l.pools) h (each-filter is_pool_id is_kept_pool _ l.pools h.pools) in
    let es : List (Credential × Registered) = changed_where (λ c (r : Registered). some_and (is_reaped l) r.pool) without_pool l.accounts in
    by_paid (pool_refunds l) (record first { accounts = es })
    (accounts_now first es left (each-changed_where is_credential is_kept_account (λ c (r : Registered). some_and (is_reaped l) r.pool) without_pool pool_gone l.accounts h.accounts))

by_withdrawals : (ps : List (Credential × ℕ)) (l : Ledger) → HasParts l → HasParts (withdrawals_paid ps l)
by_withdrawals ps l h = by_pay (claimed l ps) (credited ps l) (by_credits ps l h)

pub first_parts : (w : World) → HasParts w.ledger → HasParts (after_rewards w).ledger
first_parts w h = by_update w.pending w.ledger h

pub boundary_keeps_parts : (w : World) → HasParts w.ledger → HasState w.frozen.start → AllByRecursion IsKept w.frozen.proposals → HasParts (world_after_boundary w).ledger
boundary_keeps_parts w h start frozen =
    let first : HasParts (after_rewards w).ledger = first_parts w h in
    let third : HasParts (after_pools w).ledger = by_reaping (after_terms w).ledger (by_terms (after_rewards w).ledger first) in
    let fourth : HasParts (after_enactment w).ledger = state_now (after_pools w).ledger (after_enactment w).ledger.state third (ratified_formed w.frozen (after_pools w).ledger.state.treasury start frozen) in
    let fifth : HasParts (after_payments w).ledger = by_withdrawals (payments_due (after_enactment w)) (after_enactment w).ledger fourth in
    let l : Ledger = (after_payments w).ledger in
    let kept : List Proposal = kept_proposals (after_payments w) in
    let stay : HasParts (record l { proposals = kept }) = proposals_now l kept fifth (all_passing IsKept _ _ (all_passing IsKept _ l.proposals fifth.proposals)) in
    let sixth : HasParts (after_removals w).ledger = by_paid (proposal_refunds (after_payments w)) (record l { proposals = kept }) stay in
    let m : Ledger = (after_removals w).ledger in
    let seventh : HasParts (after_donations w).ledger =
    by_gain m.donations (record m { donations = 0 }) (numbers_now m m.slot m.epoch m.dormant m.reserves m.fees 0 sixth) in
    let n : Ledger = (after_donations w).ledger in
    let eighth : HasParts (after_members w).ledger = hot_now n (of_members n.state.committee n.hot) seventh (each-filter is_credential is_hot_state _ n.hot seventh.hot) in
    let o : Ledger = (after_members w).ledger in
    numbers_now o o.slot (o.epoch + 1) (after_dormancy w).ledger.dormant o.reserves o.fees o.donations eighth
