-- What was read so far is the first of what comes.
use Rattle.line_giver.specs.Giving.{PassesSome}
use Rattle.certificate_lists.proofs.Begun.{AreRead}
use Rattle.certificate_lists.proofs.each.read_each.Given as goal

abbrev pub invariant-loop : goal.invariant-loop
invariant-loop g l = record {
  read : AreRead g.P.Part.shape l.name g.P.Part.form g.P.Part.words (g.G.LineGiver.passed l.fn.giver) (g.G.LineGiver.passed l.giver) (g.G.LineGiver.giving l.fn.giver) (g.G.LineGiver.giving l.giver) l.items;
  some : PassesSome (g.G.LineGiver.passed l.fn.giver) (g.G.LineGiver.passed l.giver) (g.G.LineGiver.giving l.fn.giver) (g.G.LineGiver.giving l.giver);
}
