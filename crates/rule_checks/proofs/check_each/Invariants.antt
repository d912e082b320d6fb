use Rattle.std.proofs.Common.{◌≡◌, drop}
use Rattle.ledger_model.specs.Checks.{answer_of, per_place, per_place_from}
use Rattle.rule_checks.proofs.check_each.Given as goal

-- the answer of the items that are left, at their places, is that of all
abbrev pub invariant-loop-place : goal.invariant-loop-place
invariant-loop-place g l =
    answer_of (per_place_from (g.R.ItemRules.checks l.rules) l.place (drop l.place l.items)) ≡ answer_of (per_place (g.R.ItemRules.checks l.fn.rules) l.fn.items)
