-- What a call of the reader leaves to the giver.
use Rattle.std.proofs.Common.{ap, sym, ◌∙◌}
use Rattle.line_giver.proofs.Reading.{answered, held_after}
use Rattle.line_giver.proofs.sourced.SourcedLinesLineGiver.peek.Goals as goal

-- src/sourced.rt:34:20
pub returns-in_err-line-clause-passes : goal.returns-in_err-line-clause-passes
returns-in_err-line-clause-passes g c =
    let e = c.next.ensures in
    answered c.next.result e.reads e.took e.advances e.answer (λ stops. let same = e.stopped stops in (same.0, ap g.S.Source.left same.1)) c.in-End.is (ap held_after c.in_err-line.was ∙ sym c.in-End.is)

-- src/sourced.rt:28:5
pub returns-clause-passes : goal.returns-clause-passes
returns-clause-passes g c =
    let e = c.next.ensures in
    answered c.next.result e.reads e.took e.advances e.answer (λ stops. let same = e.stopped stops in (same.0, ap g.S.Source.left same.1)) c.in-End.is (ap held_after c.in_ok-line.was)
