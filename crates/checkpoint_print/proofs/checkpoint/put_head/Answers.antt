use Rattle.std.proofs.Common.{◌∷◌, [], ◌∙◌, ap, List, refl}
use Rattle.checkpoint_model.specs.Checkpoint.{checkpoint_words}
use Rattle.report.proofs.Puts.{put_first_as, put_second_as}
use Rattle.text_model.specs.StateLines.{state_lines}
use Rattle.text_model.specs.Words.{Text}
use Rattle.checkpoint_print.proofs.Parts.{first_is}
use Rattle.checkpoint_print.proofs.checkpoint.put_head.Goals as goal

pub returns-in_err-put_one : goal.returns-in_err-put_one
returns-in_err-put_one g c =
    let first = first_is c.args.s.now c.args.line c.network.result c.epoch_length.result c.counted_by-counted.result c.network.ensures c.epoch_length.ensures (c.counted_by-counted.ensures ∙ c.pulser.ensures.done) in
    put_first_as _ (checkpoint_words c.args.s.now c.args.line ∷ []) (state_lines c.args.s.now)
    (ap (λ (words : List Text). words ∷ []) first) c.in_err-put_one.ensures c.from_residual.ensures.1

pub returns : goal.returns
returns g c =
    let first = first_is c.args.s.now c.args.line c.network.result c.epoch_length.result c.counted_by-counted.result c.network.ensures c.epoch_length.ensures (c.counted_by-counted.ensures ∙ c.pulser.ensures.done) in
    put_second_as _ (checkpoint_words c.args.s.now c.args.line ∷ []) _ (state_lines c.args.s.now)
    (ap (λ (words : List Text). words ∷ []) first) refl c.in_ok-put_one.ensures c.put_state.ensures
