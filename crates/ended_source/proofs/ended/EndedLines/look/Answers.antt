-- What a call of the reader leaves to the giver.
use Rattle.std.proofs.Common.{ap, sym, ◌∙◌}
use Rattle.ended_source.proofs.Steps.{looked, place_told}
use Rattle.ended_source.proofs.ended.EndedLines.look.Goals as goal

pub returns-in-Ok-clause-passes : goal.returns-in-Ok-clause-passes
returns-in-Ok-clause-passes g c =
    let e = c.next.ensures in
    looked c.next.result e.reads e.took e.advances e.answer (λ stops. let same = e.stopped stops in (same.0, ap g.S.Source.left same.1)) e.counts c.in-Open.is (c.place_of-self.ensures ∙ sym (ap place_told c.in-Ok.is))

pub returns-in-Err-clause-passes : goal.returns-in-Err-clause-passes
returns-in-Err-clause-passes g c =
    let e = c.next.ensures in
    looked c.next.result e.reads e.took e.advances e.answer (λ stops. let same = e.stopped stops in (same.0, ap g.S.Source.left same.1)) e.counts c.in-Open.is (sym (ap place_told c.in-Err.is))
