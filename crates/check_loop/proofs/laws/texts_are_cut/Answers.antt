use Rattle.check_loop.proofs.Cuts.{are_certificates}
use Rattle.check_loop.proofs.laws.texts_are_cut.Goals as goal

pub returns : goal.returns
returns c = are_certificates
