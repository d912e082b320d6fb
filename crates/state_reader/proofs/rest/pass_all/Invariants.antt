-- So many lines were passed at most, and no read failed.
use Rattle.std.proofs.Common.{◌≡◌}
use Rattle.state_reader.proofs.Passing.{PassesFew}
use Rattle.state_reader.proofs.rest.pass_all.Given as goal

abbrev pub invariant-loop : goal.invariant-loop
invariant-loop g l =
    PassesFew (g.G.LineGiver.passed l.fn.giver) (g.G.LineGiver.passed l.giver) (g.G.LineGiver.giving l.fn.giver) (g.G.LineGiver.giving l.giver) l.counter
    × (g.G.LineGiver.faults l.giver ≡ g.G.LineGiver.faults l.fn.giver)
