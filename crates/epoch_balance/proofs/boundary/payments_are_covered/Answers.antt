use Rattle.epoch_balance.proofs.Covered.{payments_are_covered}
use Rattle.epoch_balance.proofs.boundary.payments_are_covered.Goals as goal

pub returns : goal.returns
returns c = payments_are_covered
