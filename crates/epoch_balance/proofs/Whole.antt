-- The steps of a boundary, one after the other, move the pots by all its flows.
use Rattle.std.proofs.Common.{◌≡◌, List, [], ◌∷◌, ◌++◌, Option, Some, None, map, refl, sym, subst, arith}
use Rattle.maps.specs.Words.{some_and}
use Rattle.maps.proofs.Kept.{IsMap-changed_where, IsMap-each_value}
use Rattle.gov_ids.specs.Orders.{credential_cmp}
use Rattle.book_records.specs.declared.Registered.{Registered}
use Rattle.gov_actions.specs.declared.action.Proposal.{Proposal}
use Rattle.gov_model.specs.Laws.{HaveDistinctIds}
use Rattle.ledger_model.specs.of_tx_records.declared.record.Rewards.{Rewards}
use Rattle.ledger_model.specs.of_tx_records.declared.report.Pots.{Pots}
use Rattle.ledger_model.specs.Ledger.{Ledger}
use Rattle.ledger_model.specs.Supply.{pots_of}
use Rattle.ledger_model.specs.Flows.{deposits, donations, treasury, Flow, flow}
use Rattle.ledger_model.specs.Moves.{IsMovedBy}
use Rattle.ledger_model.proofs.FlowSums.{moved-append}
use Rattle.run_model.specs.Boundary.{update_applied, after_rewards, after_snapshots, after_terms, after_pools, after_enactment, after_payments, after_removals, after_donations, reaped, is_reaped, without_pool, payments_due, pool_refunds, proposal_refunds}
use Rattle.run_model.specs.BoundaryFlows.{payment, flows_of_update, flows_of_targets}
use Rattle.epoch_balance.specs.StepLaws.{HasAccounts}
use Rattle.epoch_balance.specs.BoundaryLaws.{BoundaryBalances}
use Rattle.epoch_balance.proofs.StepMoves.{rewards_balance, terms_balance, pools_balance, payments_balance, donations_balance}
use Rattle.epoch_balance.proofs.Removals.{removals_balance}

accounts_by : (o : Option Rewards) (l : Ledger) → HasAccounts l → HasAccounts (update_applied o l)
accounts_by None l m = m
accounts_by (Some u) l m = IsMap-each_value credential_cmp _ l.accounts m

proposals_by : (o : Option Rewards) (l : Ledger) → (update_applied o l).proposals ≡ l.proposals
proposals_by None l = refl
proposals_by (Some u) l = refl

reaped_accounts : (l : Ledger) → HasAccounts l → HasAccounts (reaped l)
reaped_accounts l m = IsMap-each_value credential_cmp _ _ (IsMap-changed_where credential_cmp (λ c (r : Registered). some_and (is_reaped l) r.pool) without_pool l.accounts m)

pub boundary_balances : BoundaryBalances
boundary_balances w m u d c =
    let update : List Flow = flows_of_update w.ledger w.pending in
    let pools : List Flow = map (payment deposits (after_terms w).ledger) (pool_refunds (after_terms w).ledger) in
    let targets : List Flow = flows_of_targets (after_enactment w).ledger (payments_due w) in
    let removals : List Flow = map (payment deposits (after_payments w).ledger) (proposal_refunds (after_payments w)) in
    let donated : List Flow = flow donations treasury (after_removals w).ledger.donations ∷ [] in
    let m1 : HasAccounts (after_rewards w).ledger = accounts_by w.pending w.ledger m in
    let m5 : HasAccounts (after_enactment w).ledger = reaped_accounts (after_terms w).ledger m1 in
    let m6 : HasAccounts (after_payments w).ledger = IsMap-each_value credential_cmp _ (after_enactment w).ledger.accounts m5 in
    let own : HaveDistinctIds (after_payments w).ledger.proposals = subst (λ (ps : List Proposal). HaveDistinctIds ps) (sym (proposals_by w.pending w.ledger)) d in
    let start : Pots = pots_of w.ledger in
    let a : IsMovedBy update start (pots_of (after_terms w).ledger) =
    λ p. omega (arith, rewards_balance w m u p, terms_balance (after_snapshots w).ledger p) in
    let b : IsMovedBy (update ++ pools) start (pots_of (after_enactment w).ledger) =
    moved-append update pools start (pots_of (after_terms w).ledger) (pots_of (after_pools w).ledger) a (pools_balance (after_terms w).ledger m1) in
    let e : IsMovedBy (update ++ pools ++ targets) start (pots_of (after_payments w).ledger) =
    moved-append (update ++ pools) targets start (pots_of (after_enactment w).ledger) (pots_of (after_payments w).ledger) b
    (payments_balance (after_enactment w).ledger (payments_due w) m5 c) in
    let f : IsMovedBy (update ++ pools ++ targets ++ removals) start (pots_of (after_removals w).ledger) =
    moved-append (update ++ pools ++ targets) removals start (pots_of (after_payments w).ledger) (pots_of (after_removals w).ledger) e
    (removals_balance (after_payments w) m6 own) in
    moved-append (update ++ pools ++ targets ++ removals) donated start (pots_of (after_removals w).ledger) (pots_of (after_donations w).ledger) f
    (donations_balance (after_removals w).ledger)
