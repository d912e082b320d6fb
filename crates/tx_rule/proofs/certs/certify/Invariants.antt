use Rattle.std.proofs.Common.{◌≡◌, ◌+◌, ◌≤◌}
use Rattle.ledger_model.specs.Checks.{first_among}
use Rattle.ledger_model.specs.Draft.{draft_after}
use Rattle.ledger_model.specs.Flows.{hand, sink, source, sum_at}
use Rattle.tx_rule.proofs.Certified.{checks_from, flows_from}
use Rattle.tx_rule.proofs.certs.certify.Given as goal

-- the first certificates acted, and none of them broke a rule: what is left to break and to move, and what is done, are all
abbrev pub invariant-loop-place : goal.invariant-loop-place
invariant-loop-place l = record {
  start : l.draft.start ≡ l.fn.draft.start;
  ledger : l.draft.ledger ≡ draft_after l.fn.draft.start l.fn.tx l.place;
  rules : first_among (checks_from l.fn.draft.start l.fn.tx l.place) ≡ first_among (checks_from l.fn.draft.start l.fn.tx 0);
  refunds : l.draft.refunds + sum_at sink hand (flows_from l.fn.draft.start l.fn.tx l.place) ≡ l.fn.draft.refunds + sum_at sink hand (flows_from l.fn.draft.start l.fn.tx 0);
  deposits : l.draft.deposits + sum_at source hand (flows_from l.fn.draft.start l.fn.tx l.place) ≡ l.fn.draft.deposits + sum_at source hand (flows_from l.fn.draft.start l.fn.tx 0);
  few : l.draft.changes ≤ l.fn.draft.changes + l.place;
}
