-- What was read so far is the first of what comes, and no read failed.
use Rattle.std.proofs.Common.{◌≡◌, true}
use Rattle.line_giver.specs.Giving.{PassesSome}
use Rattle.line_parts.specs.Shapes.{many_shape}
use Rattle.line_parts.proofs.Repeats.{IsReadSoFar}
use Rattle.line_parts.proofs.many.ManyPart.read_part.Given as goal

abbrev pub invariant-loop : goal.invariant-loop
invariant-loop g l =
    ((many_shape g.P.Part.shape).fits ≡ true → IsReadSoFar g.P.Part.shape g.P.Part.form g.P.Part.words (g.G.LineGiver.passed l.fn.giver) (g.G.LineGiver.passed l.giver) (g.G.LineGiver.giving l.fn.giver) (g.G.LineGiver.giving l.giver) l.items)
    × (g.G.LineGiver.faults l.giver ≡ g.G.LineGiver.faults l.fn.giver)
    × PassesSome (g.G.LineGiver.passed l.fn.giver) (g.G.LineGiver.passed l.giver) (g.G.LineGiver.giving l.fn.giver) (g.G.LineGiver.giving l.giver)
