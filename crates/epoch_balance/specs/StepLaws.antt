-- Each step of a boundary moves the pots by its flows; src/steps.rt has a function for each law.
use Rattle.std.specs.Prelude.{◌≡◌, ℕ, ◌≤◌, List, [], ◌∷◌, Some, map}
use Rattle.maps.specs.Maps.{IsMap}
use Rattle.gov_ids.specs.declared.ActionId.{ActionId}
use Rattle.gov_ids.specs.declared.Credential.{Credential}
use Rattle.gov_ids.specs.Orders.{credential_cmp}
use Rattle.ledger_model.specs.of_tx_records.declared.record.Rewards.{Rewards}
use Rattle.gov_actions.specs.declared.action.Proposal.{Proposal}
use Rattle.gov_model.specs.Kept.{kept_of}
use Rattle.gov_model.specs.Laws.{HaveDistinctIds}
use Rattle.gov_model.specs.Proposals.{others_than}
use Rattle.gov_model.specs.Ratified.{ids_of}
use Rattle.ledger_model.specs.Ledger.{Ledger}
use Rattle.ledger_model.specs.Supply.{pots_of}
use Rattle.ledger_model.specs.Flows.{deposits, donations, treasury, flow}
use Rattle.ledger_model.specs.Moves.{IsMovedBy}
use Rattle.run_model.specs.Boundary.{after_rewards, marked, terms_turned, pool_refunds, reaped, enacted, claimed, paid_out, withdrawals_paid, proposal_refunds, removals_made, donations_joined, members_only, dormancy_noted, begun}
use Rattle.run_model.specs.BoundaryFlows.{payment, flows_of_update, flows_of_targets}
use Rattle.run_model.specs.Laws.{IsCoveredUpdate}
use Rattle.run_model.specs.World.{World}

-- the accounts are in order, each once
abbrev pub HasAccounts : Ledger → Type 0
HasAccounts l = IsMap credential_cmp l.accounts

-- a pending update is balanced and covered
abbrev pub HasCoveredUpdate : World → Type 0
HasCoveredUpdate w = (u : Rewards) → w.pending ≡ Some u → IsCoveredUpdate w.ledger u

-- 1: the pending reward update
abbrev pub RewardsBalance : Type 0
RewardsBalance = (w : World) → HasAccounts w.ledger → HasCoveredUpdate w →
    IsMovedBy (flows_of_update w.ledger w.pending) (pots_of w.ledger) (pots_of (after_rewards w).ledger)

-- 2: the snapshots turn
abbrev pub SnapshotsBalance : Type 0
SnapshotsBalance = (w : World) → IsMovedBy [] (pots_of w.ledger) (pots_of (marked w).ledger)

-- 3: future pool terms take effect
abbrev pub TermsBalance : Type 0
TermsBalance = (l : Ledger) → IsMovedBy [] (pots_of l) (pots_of (terms_turned l))

-- 3: pools are reaped
abbrev pub PoolsBalance : Type 0
PoolsBalance = (l : Ledger) → HasAccounts l →
    IsMovedBy (map (payment deposits l) (pool_refunds l)) (pots_of l) (pots_of (reaped l))

-- 4: what is ratified is enacted
abbrev pub EnactmentBalances : Type 0
EnactmentBalances = (w : World) → IsMovedBy [] (pots_of w.ledger) (pots_of (enacted w).ledger)

-- 5: withdrawals are paid from a treasury that covers what is claimed
abbrev pub PaymentsBalance : Type 0
PaymentsBalance = (l : Ledger) (ps : List (Credential × ℕ)) → HasAccounts l → claimed l ps ≤ l.state.treasury →
    IsMovedBy (flows_of_targets l ps) (pots_of l) (pots_of (withdrawals_paid ps l))

-- 6: proposals are removed
abbrev pub RemovalsBalance : Type 0
RemovalsBalance = (w : World) → HasAccounts w.ledger → HaveDistinctIds w.ledger.proposals →
    IsMovedBy (map (payment deposits w.ledger) (proposal_refunds w))
    (pots_of w.ledger) (pots_of (removals_made w).ledger)

-- 6: removals by any lists of enacted and of expired proposals
abbrev pub CutsBalance : Type 0
CutsBalance = (l : Ledger) (enacted expired : List ActionId) → HasAccounts l → HaveDistinctIds l.proposals →
    let kept : List Proposal = kept_of l.proposals enacted expired l.state.last in
    let refunds : List (Credential × ℕ) = map (λ (p : Proposal). (p.account.cred, p.deposit)) (others_than (ids_of kept) l.proposals) in
    IsMovedBy (map (payment deposits l) refunds) (pots_of l) (pots_of (paid_out refunds (record l { proposals = kept })))

-- 7: the donations join the treasury
abbrev pub DonationsBalance : Type 0
DonationsBalance = (l : Ledger) →
    IsMovedBy (flow donations treasury l.donations ∷ []) (pots_of l) (pots_of (donations_joined l))

-- 8: only members keep a hot key or a resignation
abbrev pub MembersBalance : Type 0
MembersBalance = (l : Ledger) → IsMovedBy [] (pots_of l) (pots_of (members_only l))

-- 9: an epoch that leaves no proposal is dormant
abbrev pub DormancyBalances : Type 0
DormancyBalances = (l : Ledger) → IsMovedBy [] (pots_of l) (pots_of (dormancy_noted l))

-- 10: the next epoch begins, and is frozen
abbrev pub FreezeBalances : Type 0
FreezeBalances = (w : World) → IsMovedBy [] (pots_of w.ledger) (pots_of (begun w).ledger)
