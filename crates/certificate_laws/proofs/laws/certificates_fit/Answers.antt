use Rattle.certificate_laws.proofs.Right.{certificates_fit}
use Rattle.certificate_laws.proofs.laws.certificates_fit.Goals as goal

pub returns : goal.returns
returns c = certificates_fit
