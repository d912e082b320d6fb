-- The lines so far were passed, none of which is `end`, and no read failed.
use Rattle.std.proofs.Common.{◌≡◌}
use Rattle.ended_lines.proofs.Passing.{Unended}
use Rattle.ended_lines.proofs.pass.pass_to_end.Given as goal

abbrev pub invariant-loop : goal.invariant-loop
invariant-loop g l =
    Unended (g.G.LineGiver.passed l.fn.giver) (g.G.LineGiver.passed l.giver) (g.G.LineGiver.giving l.fn.giver) (g.G.LineGiver.giving l.giver)
    × (g.G.LineGiver.faults l.giver ≡ g.G.LineGiver.faults l.fn.giver)
