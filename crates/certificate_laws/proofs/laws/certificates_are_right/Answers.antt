use Rattle.certificate_laws.proofs.Right.{certificates_are_right}
use Rattle.certificate_laws.proofs.laws.certificates_are_right.Goals as goal

pub returns : goal.returns
returns c = certificates_are_right
