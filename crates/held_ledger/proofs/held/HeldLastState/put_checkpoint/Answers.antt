use Rattle.std.proofs.Common.{ap}
use Rattle.checkpoint_model.specs.Checkpoint.{checkpoint_lines}
use Rattle.report.proofs.Handed.{put_as}
use Rattle.run_model.specs.World.{World}
use Rattle.held_ledger.proofs.held.HeldLastState.put_checkpoint.Goals as goal

pub returns : goal.returns
returns g c = put_as (ap (λ (w : World). checkpoint_lines w c.args.line) c.get.ensures) c.put_checkpoint.ensures
