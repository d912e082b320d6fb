use Rattle.std.proofs.Common.{List, ap, map}
use Rattle.checkpoint_model.specs.Checkpoint.{used_words}
use Rattle.gov_ids.specs.declared.TxId.{TxId}
use Rattle.report.proofs.Handed.{put_as, put_nothing}
use Rattle.checkpoint_print.proofs.live.put_used.Goals as goal

pub returns-in_err-ids : goal.returns-in_err-ids
returns-in_err-ids g c =
    put_nothing (map used_words c.args.outputs.now.used) (g.T.LineTaker.taken c.args.to.now) (g.T.LineTaker.faults c.args.to.now) c.from_residual.ensures.1

pub returns : goal.returns
returns g c = put_as (ap (λ (ids : List TxId). map used_words ids) c.in_ok-ids.ensures.ids) c.put_left.ensures
