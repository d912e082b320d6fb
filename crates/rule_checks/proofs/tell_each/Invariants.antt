use Rattle.std.proofs.Common.{◌≡◌, drop}
use Rattle.ledger_model.specs.Checks.{per_place, per_place_from}
use Rattle.rule_checks.specs.Told.{told_with}
use Rattle.rule_checks.proofs.tell_each.Given as goal

-- with those of the items that are left it has those of all
abbrev pub invariant-loop-place : goal.invariant-loop-place
invariant-loop-place g l =
    told_with (per_place_from (g.R.ItemRules.checks l.rules) l.place (drop l.place l.items)) l.told ≡ told_with (per_place (g.R.ItemRules.checks l.fn.rules) l.fn.items) l.fn.told
