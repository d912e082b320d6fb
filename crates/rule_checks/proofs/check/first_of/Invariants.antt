use Rattle.std.proofs.Common.{◌≡◌, drop}
use Rattle.ledger_model.specs.Checks.{answer_of}
use Rattle.rule_checks.proofs.check.first_of.Given as goal

-- the answer of the checks that are left is that of all
abbrev pub invariant-loop-check : goal.invariant-loop-check
invariant-loop-check l = answer_of (drop l.check-index l.checks) ≡ answer_of l.fn.checks
