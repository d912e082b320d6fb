use Rattle.std.proofs.Common.{◌≡◌, drop}
use Rattle.rule_checks.specs.Told.{told_with}
use Rattle.rule_checks.proofs.told.Told.add.Given as goal

-- with those that are left it has those of all
abbrev pub invariant-loop-check : goal.invariant-loop-check
invariant-loop-check l = told_with (drop l.check-index l.checks) l.self-inside.rules.items ≡ told_with l.fn.checks l.fn.self
