use Rattle.std.proofs.Common.{◌≡◌, drop}
use Rattle.std.specs.List.{list_all}
use Rattle.tx_records.specs.declared.tx.ProposalRecord.{ProposalRecord}
use Rattle.tx_records.specs.Limits.{is_action}
use Rattle.tx_records.proofs.within.are_actions.Given as goal

-- all are within the limits exactly where those that are left are
abbrev pub invariant-loop-proposal : goal.invariant-loop-proposal
invariant-loop-proposal l =
    list_all (λ (p : ProposalRecord). is_action p.action) (drop l.proposal-index l.proposals) ≡ list_all (λ (p : ProposalRecord). is_action p.action) l.proposals
