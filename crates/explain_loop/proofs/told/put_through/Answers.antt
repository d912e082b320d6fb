use Rattle.std.proofs.lemmas.Result.{on_ok_weaker, on_err_weaker}
use Rattle.std.specs.Prelude.{option_map}
use Rattle.gathered_lines.proofs.Gathering.{names_stay, told_all, told_part}
use Rattle.explain_print.specs.of_explain_model.of_record_notes.Seen.{noted_seen}
use Rattle.explain_loop.specs.Turns.{told_lines}
use Rattle.explain_loop.proofs.told.put_through.Goals as goal

pub returns-clause-ok : goal.returns-clause-ok
returns-clause-ok g c =
    on_ok_weaker c.put.result (told_all c.args.line _ _ (told_lines (option_map g.R.RunState.world c.args.before.now) (noted_seen c.args.noted.now))) c.put.ensures.ok

pub returns-clause-err : goal.returns-clause-err
returns-clause-err g c =
    on_err_weaker c.put.result (told_part c.args.line _ _ (told_lines (option_map g.R.RunState.world c.args.before.now) (noted_seen c.args.noted.now))) c.put.ensures.err

pub returns-clause-same_batch : goal.returns-clause-same_batch
returns-clause-same_batch g c =
    let same = names_stay c.args.line _ _ (told_lines (option_map g.R.RunState.world c.args.before.now) (noted_seen c.args.noted.now)) c.put.result c.put.ensures.ok c.put.ensures.err in same.0

pub returns-clause-same_sink : goal.returns-clause-same_sink
returns-clause-same_sink g c =
    let same = names_stay c.args.line _ _ (told_lines (option_map g.R.RunState.world c.args.before.now) (noted_seen c.args.noted.now)) c.put.result c.put.ensures.ok c.put.ensures.err in same.1
