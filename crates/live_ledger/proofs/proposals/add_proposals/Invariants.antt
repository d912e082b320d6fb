use Rattle.std.proofs.Common.{◌≡◌, ◌+◌, ◌≤◌, ◌<◌, ◌^◌, ◌++◌, ℕ, None, drop, sum_by}
use Rattle.gov_model.specs.Proposals.{deposits_of, proposal_of}
use Rattle.live_ledger.proofs.Proposing.{proposed_from}
use Rattle.tx_records.specs.declared.tx.ProposalRecord.{ProposalRecord}
use Rattle.live_ledger.proofs.proposals.add_proposals.Given as goal

abbrev pub invariant-loop-index : goal.invariant-loop-index
invariant-loop-index l = record {
  made : l.store ++ proposed_from l.last l.tx.id l.index (drop l.index l.proposal-items) ≡ l.fn.store ++ proposed_from l.last l.tx.id 0 l.proposal-items;
  unknown : (i : ℕ) → l.index ≤ i → proposal_of (record { tx = l.tx.id; index = i }) l.store ≡ None;
  room : deposits_of l.store + sum_by (λ (p : ProposalRecord). p.deposit) (drop l.index l.proposal-items) < 2 ^ 64;
}
