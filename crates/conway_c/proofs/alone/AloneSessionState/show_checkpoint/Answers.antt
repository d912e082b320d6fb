use Rattle.std.proofs.Common.{ap}
use Rattle.checkpoint_model.specs.Checkpoint.{checkpoint_lines}
use Rattle.report.proofs.Handed.{put_as}
use Rattle.run_model.specs.World.{World}
use Rattle.conway_c.proofs.alone.AloneSessionState.show_checkpoint.Goals as goal

pub returns : goal.returns
returns g c = put_as (ap (λ (w : World). checkpoint_lines w c.args.line) c.ledger.ensures) c.put_checkpoint.ensures
