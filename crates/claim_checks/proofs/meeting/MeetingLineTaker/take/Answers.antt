use Rattle.claim_checks.proofs.Since.{since_more}
use Rattle.claim_checks.proofs.meeting.MeetingLineTaker.take.Goals as goal

pub invariant_of-self : goal.invariant_of-self
invariant_of-self g c = since_more g.G.LineGiver.passed g.G.LineGiver.giving g.W.Start.start _ _ _ c.self.invariant c.pass_line.ensures.passes

pub invariant_of-self-in-Ok-false : goal.invariant_of-self-in-Ok-false
invariant_of-self-in-Ok-false g c = since_more g.G.LineGiver.passed g.G.LineGiver.giving g.W.Start.start _ _ _ c.self.invariant c.pass_line.ensures.passes

pub invariant_of-self-in-Err : goal.invariant_of-self-in-Err
invariant_of-self-in-Err g c = since_more g.G.LineGiver.passed g.G.LineGiver.giving g.W.Start.start _ _ _ c.self.invariant c.pass_line.ensures.passes
