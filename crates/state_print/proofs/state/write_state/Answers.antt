use Rattle.std.proofs.Common.{◌∙◌}
use Rattle.std.proofs.lemmas.Result.{on_ok_weaker, on_err_weaker}
use Rattle.report.proofs.SinkBytes.{all_bytes, first_bytes}
use Rattle.state_print.specs.Views.{shown_of_view}
use Rattle.text_model.specs.StateLines.{lines_of_shown}
use Rattle.state_print.proofs.state.write_state.Goals as goal

pub returns-clause-ok : goal.returns-clause-ok
returns-clause-ok g c =
    on_ok_weaker c.put_state.result
    (λ all. all ∙ all_bytes c.args.line (g.K.Sink.taken c.args.sink.now) (lines_of_shown (shown_of_view c.args.state.now))) c.put_state.ensures.ok

pub returns-clause-err : goal.returns-clause-err
returns-clause-err g c =
    on_err_weaker c.put_state.result
    (first_bytes c.args.line (g.K.Sink.taken c.args.sink.now) (g.K.Sink.taken c.put_state.new.to) (lines_of_shown (shown_of_view c.args.state.now))) c.put_state.ensures.err
