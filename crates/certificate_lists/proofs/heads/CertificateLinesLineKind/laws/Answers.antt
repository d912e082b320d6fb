use Rattle.certificate_lists.proofs.HeadLaws.{head_back, head_formed, head_plain}
use Rattle.certificate_lists.proofs.heads.CertificateLinesLineKind.laws.Goals as goal

pub returns-clause-formed : goal.returns-clause-formed
returns-clause-formed c = head_formed c.laws.ensures.formed c.laws.ensures.plain c.laws.ensures.back

pub returns-clause-plain : goal.returns-clause-plain
returns-clause-plain c = head_plain c.laws.ensures.formed c.laws.ensures.plain c.laws.ensures.back

pub returns-clause-back : goal.returns-clause-back
returns-clause-back c = head_back c.laws.ensures.formed c.laws.ensures.plain c.laws.ensures.back
