use Rattle.std.proofs.Common.{ap}
use Rattle.replay_loop.specs.of_certificate_model.Certificate.{certificate_lines}
use Rattle.report.proofs.Handed.{put_as}
use Rattle.run_model.specs.World.{World}
use Rattle.held_ledger.proofs.held.HeldCertifiedState.put_certificate.Goals as goal

pub returns : goal.returns
returns g c = put_as (ap (λ (w : World). certificate_lines w.frozen) c.get.ensures) c.put_certificate.ensures
