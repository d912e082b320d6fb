use Rattle.state_print.specs.Views.{shown_of_view}
use Rattle.text_model.specs.ParamLines.{param_lines}
use Rattle.text_model.specs.StateLines.{book_lines, governance_lines}
use Rattle.report.proofs.Puts.{put_first, put_second, put_third}
use Rattle.state_print.proofs.state.put_ledger.Goals as goal

pub returns-in_err-put_governance : goal.returns-in_err-put_governance
returns-in_err-put_governance g c =
    put_first (governance_lines (shown_of_view c.args.state.now))
    (param_lines (shown_of_view c.args.state.now).state.params)
    (book_lines (shown_of_view c.args.state.now))
    c.in_err-put_governance.ensures c.from_residual.ensures.1

pub returns-in_err-put_params : goal.returns-in_err-put_params
returns-in_err-put_params g c =
    put_second (governance_lines (shown_of_view c.args.state.now))
    (param_lines (shown_of_view c.args.state.now).state.params)
    (book_lines (shown_of_view c.args.state.now))
    c.in_ok-put_governance.ensures c.in_err-put_params.ensures c.from_residual-in_err-put_params.ensures.1

pub returns : goal.returns
returns g c =
    put_third (governance_lines (shown_of_view c.args.state.now))
    (param_lines (shown_of_view c.args.state.now).state.params)
    (book_lines (shown_of_view c.args.state.now))
    c.in_ok-put_governance.ensures c.in_ok-put_params.ensures c.put_books.ensures
