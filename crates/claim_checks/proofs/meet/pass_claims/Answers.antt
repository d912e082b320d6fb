use Rattle.std.proofs.Common.{refl}
use Rattle.claim_checks.proofs.HaveWords.{claims_have}
use Rattle.claim_checks.proofs.Since.{since_start}
use Rattle.claim_checks.proofs.Taken.{put_held}
use Rattle.claim_checks.proofs.meet.pass_claims.Goals as goal

pub returns-clause-same_reference : goal.returns-clause-same_reference
returns-clause-same_reference g c = (since_start g.G.LineGiver.passed g.G.LineGiver.giving c.requires.starts c.meeting.invariant).0

pub returns-clause-same : goal.returns-clause-same
returns-clause-same g c = λ is s of.
    let met = put_held (c.put_claims-put.ensures s of) c.meeting.view_is (claims_have s) refl in
    met.same (c.answer_of-met.ensures.same is)

pub returns-clause-differs : goal.returns-clause-differs
returns-clause-differs g c = λ is s of.
    let met = put_held (c.put_claims-put.ensures s of) c.meeting.view_is (claims_have s) refl in
    met.differs (c.answer_of-met.ensures.differs is)

pub returns-clause-passes : goal.returns-clause-passes
returns-clause-passes g c = (since_start g.G.LineGiver.passed g.G.LineGiver.giving c.requires.starts c.meeting.invariant).1
