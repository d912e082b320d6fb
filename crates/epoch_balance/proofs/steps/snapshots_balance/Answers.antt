use Rattle.epoch_balance.proofs.StepMoves.{snapshots_balance}
use Rattle.epoch_balance.proofs.steps.snapshots_balance.Goals as goal

pub returns : goal.returns
returns c = snapshots_balance
