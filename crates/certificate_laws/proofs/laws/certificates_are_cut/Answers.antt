use Rattle.certificate_laws.proofs.Right.{certificates_are_cut}
use Rattle.certificate_laws.proofs.laws.certificates_are_cut.Goals as goal

pub returns : goal.returns
returns c = certificates_are_cut
