use Rattle.std.proofs.Common.{flat_map, map}
use Rattle.state_print.specs.Views.{shown_of_view}
use Rattle.text_model.specs.StateLines.{account_words, drep_words, pool_lines}
use Rattle.report.proofs.Puts.{put_first, put_second, put_third}
use Rattle.state_print.proofs.books.put_registered.Goals as goal

pub returns-in_err-put_dreps : goal.returns-in_err-put_dreps
returns-in_err-put_dreps g c =
    put_first (map drep_words (shown_of_view c.args.view.now).dreps)
    (flat_map pool_lines (shown_of_view c.args.view.now).pools)
    (map account_words (shown_of_view c.args.view.now).entries)
    c.in_err-put_dreps.ensures c.from_residual.ensures.1

pub returns-in_err-put_pools : goal.returns-in_err-put_pools
returns-in_err-put_pools g c =
    put_second (map drep_words (shown_of_view c.args.view.now).dreps)
    (flat_map pool_lines (shown_of_view c.args.view.now).pools)
    (map account_words (shown_of_view c.args.view.now).entries)
    c.in_ok-put_dreps.ensures c.in_err-put_pools.ensures c.from_residual-in_err-put_pools.ensures.1

pub returns : goal.returns
returns g c =
    put_third (map drep_words (shown_of_view c.args.view.now).dreps)
    (flat_map pool_lines (shown_of_view c.args.view.now).pools)
    (map account_words (shown_of_view c.args.view.now).entries)
    c.in_ok-put_dreps.ensures c.in_ok-put_pools.ensures c.put_entries.ensures
