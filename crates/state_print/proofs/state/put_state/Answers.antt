use Rattle.std.proofs.Common.{[], ◌∷◌, ◌++◌, codes, refl}
use Rattle.state_print.specs.Views.{shown_of_view}
use Rattle.text_model.specs.ParamLines.{param_lines}
use Rattle.text_model.specs.Replies.{pots_words}
use Rattle.text_model.specs.StateLines.{book_lines, governance_lines, pending_lines, snapshot_lines}
use Rattle.report.proofs.Puts.{put_first_as, put_second_as}
use Rattle.state_print.proofs.state.put_state.Goals as goal

pub returns-in_err-put_all_but_pots : goal.returns-in_err-put_all_but_pots
returns-in_err-put_all_but_pots g c =
    put_first_as _ (governance_lines (shown_of_view c.args.state.now) ++ param_lines (shown_of_view c.args.state.now).state.params ++ book_lines (shown_of_view c.args.state.now) ++ snapshot_lines (shown_of_view c.args.state.now) ++ pending_lines (shown_of_view c.args.state.now).pending)
    (pots_words (codes "pots") c.args.state.now.pots ∷ [])
    refl c.in_err-put_all_but_pots.ensures c.from_residual.ensures.1

pub returns : goal.returns
returns g c =
    put_second_as _ (governance_lines (shown_of_view c.args.state.now) ++ param_lines (shown_of_view c.args.state.now).state.params ++ book_lines (shown_of_view c.args.state.now) ++ snapshot_lines (shown_of_view c.args.state.now) ++ pending_lines (shown_of_view c.args.state.now).pending) _
    (pots_words (codes "pots") c.args.state.now.pots ∷ [])
    refl refl c.in_ok-put_all_but_pots.ensures c.put_one.ensures
