-- The items that were read are those of the lines that were passed, and no read failed.
use Rattle.std.proofs.Common.{◌≡◌, true}
use Rattle.std.specs.List.{list_all}
use Rattle.line_giver.specs.Giving.{HasPassed}
use Rattle.line_kinds.specs.Kinds.{lines_of_items}
use Rattle.line_kinds.proofs.each.read_each.Given as goal

abbrev pub invariant-loop : goal.invariant-loop
invariant-loop g l =
    (list_all g.R.LineReader.form l.items.items ≡ true)
    × HasPassed (g.G.LineGiver.passed l.fn.giver) (g.G.LineGiver.passed l.giver) (g.G.LineGiver.giving l.fn.giver) (g.G.LineGiver.giving l.giver)
    (lines_of_items g.R.LineReader.form g.R.LineReader.words l.items.items)
    × (g.G.LineGiver.faults l.giver ≡ g.G.LineGiver.faults l.fn.giver)
