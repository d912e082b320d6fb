use Rattle.std.proofs.Common.{◌≡◌, drop, map}
use Rattle.ledger_model.specs.Checks.{at_place}
use Rattle.rule_checks.specs.Told.{told_with}
use Rattle.rule_checks.proofs.told.Told.add_at.Given as goal

-- with those that are left it has those of all
abbrev pub invariant-loop-check : goal.invariant-loop-check
invariant-loop-check l =
    told_with (map (at_place l.place) (drop l.check-index l.checks)) l.self-inside.rules.items ≡ told_with (map (at_place l.fn.place) l.fn.checks) l.fn.self
