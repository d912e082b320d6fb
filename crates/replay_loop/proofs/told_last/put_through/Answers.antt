use Rattle.std.proofs.lemmas.Result.{on_ok_weaker, on_err_weaker}
use Rattle.gathered_lines.proofs.Gathering.{bare_all, bare_front, bare_names}
use Rattle.replay_loop.proofs.told_last.put_through.Goals as goal

pub returns-clause-ok : goal.returns-clause-ok
returns-clause-ok g c =
    let w = g.R.RunState.world c.args.state in
    on_ok_weaker c.put.result (bare_all _ _ (g.L.LastLines.lines w c.args.number) (c.have_words.ensures w c.args.number)) c.put.ensures.ok

pub returns-clause-err : goal.returns-clause-err
returns-clause-err g c =
    let w = g.R.RunState.world c.args.state in
    on_err_weaker c.put.result (bare_front _ _ (g.L.LastLines.lines w c.args.number) (c.have_words.ensures w c.args.number)) c.put.ensures.err

pub returns-clause-same_batch : goal.returns-clause-same_batch
returns-clause-same_batch g c =
    let same = bare_names _ _ (g.L.LastLines.lines (g.R.RunState.world c.args.state) c.args.number) c.put.result c.put.ensures.ok c.put.ensures.err in same.0

pub returns-clause-same_sink : goal.returns-clause-same_sink
returns-clause-same_sink g c =
    let same = bare_names _ _ (g.L.LastLines.lines (g.R.RunState.world c.args.state) c.args.number) c.put.result c.put.ensures.ok c.put.ensures.err in same.1
