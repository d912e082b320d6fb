use Rattle.std.proofs.Common.{◌≡◌, ◌+◌, ◌≤◌, drop}
use Rattle.govcert.specs.Acted.{acted_all}
use Rattle.govcert.proofs.voters.refresh_voters.Given as goal

-- those that acted so far, and then those of the votes that are left, are all
abbrev pub invariant-loop-cast : goal.invariant-loop-cast
invariant-loop-cast l = record {
  left : acted_all (drop l.cast-index l.votes) l.d.ledger ≡ acted_all l.fn.votes l.fn.d.ledger;
  refunds : l.d.refunds ≡ l.fn.d.refunds;
  deposits : l.d.deposits ≡ l.fn.d.deposits;
  start : l.d.start ≡ l.fn.d.start;
  few : l.d.changes ≤ l.fn.d.changes + l.cast-index;
}
