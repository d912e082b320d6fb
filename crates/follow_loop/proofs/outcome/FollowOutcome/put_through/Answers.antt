use Rattle.std.proofs.lemmas.Result.{on_ok_weaker, on_err_weaker}
use Rattle.follow_loop.specs.Outcomes.{follow_outcome_lines}
use Rattle.replay_loop.proofs.proofs_of_gathered_lines.Gathering.{names_stay, told_all, told_part}
use Rattle.follow_loop.proofs.outcome.FollowOutcome.put_through.Goals as goal

pub returns-clause-ok : goal.returns-clause-ok
returns-clause-ok g c =
    on_ok_weaker c.put.result (told_all c.args.line _ _ (follow_outcome_lines (g.R.RunState.world c.args.state.now) c.args.self.now)) c.put.ensures.ok

pub returns-clause-err : goal.returns-clause-err
returns-clause-err g c =
    on_err_weaker c.put.result (told_part c.args.line _ _ (follow_outcome_lines (g.R.RunState.world c.args.state.now) c.args.self.now)) c.put.ensures.err

pub returns-clause-same_batch : goal.returns-clause-same_batch
returns-clause-same_batch g c =
    let same = names_stay c.args.line _ _ (follow_outcome_lines (g.R.RunState.world c.args.state.now) c.args.self.now) c.put.result c.put.ensures.ok c.put.ensures.err in same.0

pub returns-clause-same_sink : goal.returns-clause-same_sink
returns-clause-same_sink g c =
    let same = names_stay c.args.line _ _ (follow_outcome_lines (g.R.RunState.world c.args.state.now) c.args.self.now) c.put.result c.put.ensures.ok c.put.ensures.err in same.1
