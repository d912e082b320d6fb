use Rattle.std.proofs.Common.{◌≡◌, ◌+◌, ◌*◌, ◌-◌, ◌^◌, ◌≤◌}
use Rattle.ledger_model.specs.Draft.{draft_after}
use Rattle.ledger_model.specs.Flows.{hand, sink, source, sum_at}
use Rattle.rule_checks.specs.Told.{told_with}
use Rattle.tx_rule.proofs.Certified.{checks_from, flows_from}
use Rattle.tx_rule.proofs.broken.tell_certs.Given as goal

-- the first certificates are told: what is left to tell and to move, and what is told and moved, are all
abbrev pub invariant-loop-place : goal.invariant-loop-place
invariant-loop-place l = record {
  start : l.draft.start ≡ l.fn.draft.start;
  ledger : l.draft.ledger ≡ draft_after l.fn.draft.start l.fn.tx l.place;
  rules : told_with (checks_from l.fn.draft.start l.fn.tx l.place) l.told ≡ told_with (checks_from l.fn.draft.start l.fn.tx 0) l.fn.told;
  refunds : l.refunds + sum_at sink hand (flows_from l.fn.draft.start l.fn.tx l.place) ≡ sum_at sink hand (flows_from l.fn.draft.start l.fn.tx 0);
  deposits : l.deposits + sum_at source hand (flows_from l.fn.draft.start l.fn.tx l.place) ≡ sum_at source hand (flows_from l.fn.draft.start l.fn.tx 0);
  refunds_fit : l.refunds ≤ l.place * (2 ^ 64 - 1);
  deposits_fit : l.deposits ≤ l.place * (2 ^ 64 - 1);
  few : l.draft.changes ≤ l.fn.draft.changes + l.place;
}
