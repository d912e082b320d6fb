use Rattle.std.proofs.Common.{map, refl}
use Rattle.certificate_model.specs.Certificate.{mark_words}
use Rattle.report.proofs.Handed.{put_both, put_front}
use Rattle.frozen_print.proofs.voters.put_pools.Goals as goal

pub returns-in_err-put_accounts : goal.returns-in_err-put_accounts
returns-in_err-put_accounts g c = put_front (map mark_words c.args.mark.now) refl c.in_err-put_accounts.ensures c.from_residual.ensures.1

pub returns : goal.returns
returns g c = put_both refl c.in_ok-put_accounts.ensures c.put_mark.ensures
