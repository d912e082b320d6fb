use Rattle.std.proofs.Common.{◌≡◌, ◌≤◌, ◌*◌, ◌^◌, ◌+◌, ◌-◌, drop, sum_by}
use Rattle.tx_records.specs.declared.tx.ProposalRecord.{ProposalRecord}
use Rattle.utxo_rules.proofs.amounts.lovelace_proposed.Given as goal

-- the sum so far and the sum of what is left are the sum of all
abbrev pub invariant-loop-proposal : goal.invariant-loop-proposal
invariant-loop-proposal l = record {
  bound : l.sum ≤ l.proposal-index * (2 ^ 64 - 1);
  rest : l.sum + sum_by (λ (p : ProposalRecord). p.deposit) (drop l.proposal-index l.proposals) ≡ sum_by (λ (p : ProposalRecord). p.deposit) l.proposals;
}
