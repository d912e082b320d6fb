use Rattle.std.proofs.Common.{[], ◌∷◌, refl}
use Rattle.state_lines.specs.StateTexts.{state_words}
use Rattle.report.proofs.Puts.{put_first_as, put_second_as}
use Rattle.state_print.proofs.governance.put_head.Goals as goal

pub returns-in_err-put_one : goal.returns-in_err-put_one
returns-in_err-put_one g c =
    put_first_as _ (state_words c.args.now.now ∷ [])
    (state_words c.args.constitution.now ∷ [])
    refl c.in_err-put_one.ensures c.from_residual.ensures.1

pub returns : goal.returns
returns g c =
    put_second_as _ (state_words c.args.now.now ∷ []) _
    (state_words c.args.constitution.now ∷ [])
    refl refl c.in_ok-put_one.ensures c.put_one-2.ensures
