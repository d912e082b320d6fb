use Rattle.std.proofs.Common.{◌++◌}
use Rattle.state_print.specs.Views.{shown_of_view}
use Rattle.text_model.specs.ParamLines.{param_lines}
use Rattle.text_model.specs.StateLines.{book_lines, governance_lines, pending_lines, snapshot_lines}
use Rattle.report.proofs.Puts.{put_first, put_second, put_third}
use Rattle.state_print.proofs.state.put_all_but_pots.Goals as goal

pub returns-in_err-put_ledger : goal.returns-in_err-put_ledger
returns-in_err-put_ledger g c =
    put_first (governance_lines (shown_of_view c.args.state.now) ++ param_lines (shown_of_view c.args.state.now).state.params ++ book_lines (shown_of_view c.args.state.now))
    (snapshot_lines (shown_of_view c.args.state.now))
    (pending_lines (shown_of_view c.args.state.now).pending)
    c.in_err-put_ledger.ensures c.from_residual.ensures.1

pub returns-in_err-put_snapshots : goal.returns-in_err-put_snapshots
returns-in_err-put_snapshots g c =
    put_second (governance_lines (shown_of_view c.args.state.now) ++ param_lines (shown_of_view c.args.state.now).state.params ++ book_lines (shown_of_view c.args.state.now))
    (snapshot_lines (shown_of_view c.args.state.now))
    (pending_lines (shown_of_view c.args.state.now).pending)
    c.in_ok-put_ledger.ensures c.in_err-put_snapshots.ensures c.from_residual-in_err-put_snapshots.ensures.1

pub returns : goal.returns
returns g c =
    put_third (governance_lines (shown_of_view c.args.state.now) ++ param_lines (shown_of_view c.args.state.now).state.params ++ book_lines (shown_of_view c.args.state.now))
    (snapshot_lines (shown_of_view c.args.state.now))
    (pending_lines (shown_of_view c.args.state.now).pending)
    c.in_ok-put_ledger.ensures c.in_ok-put_snapshots.ensures c.put_pending.ensures
