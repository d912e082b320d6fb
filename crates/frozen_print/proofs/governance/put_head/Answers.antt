use Rattle.std.proofs.Common.{[], ◌∷◌, refl}
use Rattle.report.proofs.Handed.{put_both, put_front}
use Rattle.text_model.specs.StateLines.{words_of_constitution}
use Rattle.frozen_print.proofs.governance.put_head.Goals as goal

pub returns-in_err-put_one : goal.returns-in_err-put_one
returns-in_err-put_one g c =
    put_front (words_of_constitution c.args.f.now.start.document c.args.f.now.start.script ∷ []) refl c.in_err-put_one.ensures c.from_residual.ensures.1

pub returns : goal.returns
returns g c = put_both refl c.in_ok-put_one.ensures c.put_one-2.ensures
