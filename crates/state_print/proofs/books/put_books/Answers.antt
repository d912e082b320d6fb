use Rattle.std.proofs.Common.{◌++◌, ap, flat_map, map}
use Rattle.state_print.specs.Views.{shown_of_view}
use Rattle.text_model.specs.StateLines.{account_words, drep_words, output_lines, pool_lines, proposal_lines}
use Rattle.utxo_set.specs.Utxos.{Utxos}
use Rattle.report.proofs.Puts.{put_first, put_second, put_third}
use Rattle.report.proofs.Handed.{put_as}
use Rattle.state_print.proofs.books.put_books.Goals as goal

pub returns-in_err-put_registered : goal.returns-in_err-put_registered
returns-in_err-put_registered g c =
    put_first (map drep_words (shown_of_view c.args.view.now).dreps ++ flat_map pool_lines (shown_of_view c.args.view.now).pools ++ map account_words (shown_of_view c.args.view.now).entries)
    (flat_map output_lines (shown_of_view c.args.view.now).outputs)
    (flat_map proposal_lines (shown_of_view c.args.view.now).proposals)
    c.in_err-put_registered.ensures c.from_residual.ensures.1

pub returns-in_err-put_outputs : goal.returns-in_err-put_outputs
returns-in_err-put_outputs g c =
    put_second (map drep_words (shown_of_view c.args.view.now).dreps ++ flat_map pool_lines (shown_of_view c.args.view.now).pools ++ map account_words (shown_of_view c.args.view.now).entries)
    (flat_map output_lines (shown_of_view c.args.view.now).outputs)
    (flat_map proposal_lines (shown_of_view c.args.view.now).proposals)
    c.in_ok-put_registered.ensures
    (put_as (ap (λ (u : Utxos). flat_map output_lines u.outputs) c.outputs.ensures.value) c.in_err-put_outputs.ensures) c.from_residual-in_err-put_outputs.ensures.1

pub returns : goal.returns
returns g c =
    put_third (map drep_words (shown_of_view c.args.view.now).dreps ++ flat_map pool_lines (shown_of_view c.args.view.now).pools ++ map account_words (shown_of_view c.args.view.now).entries)
    (flat_map output_lines (shown_of_view c.args.view.now).outputs)
    (flat_map proposal_lines (shown_of_view c.args.view.now).proposals)
    c.in_ok-put_registered.ensures
    (put_as (ap (λ (u : Utxos). flat_map output_lines u.outputs) c.outputs.ensures.value) c.in_ok-put_outputs.ensures) c.put_proposals.ensures
