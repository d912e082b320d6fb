use Rattle.std.proofs.Common.{[], ◌∷◌, refl}
use Rattle.text_model.specs.EpochLines.{epoch_lines}
use Rattle.text_model.specs.Replies.{block_words}
use Rattle.report.proofs.Puts.{put_first_as, put_second_as}
use Rattle.replay_loop.proofs.outcome.put_crossing.Goals as goal

pub returns-in_err-put_epoch : goal.returns-in_err-put_epoch
returns-in_err-put_epoch g c =
    put_first_as _ (epoch_lines c.args.report.now c.args.pots.now)
    (block_words (g.R.RunState.world c.args.state.now) ∷ [])
    refl c.in_err-put_epoch.ensures c.from_residual.ensures.1

pub returns : goal.returns
returns g c =
    put_second_as _ (epoch_lines c.args.report.now c.args.pots.now) _
    (block_words (g.R.RunState.world c.args.state.now) ∷ [])
    refl refl c.in_ok-put_epoch.ensures c.put_block.ensures
