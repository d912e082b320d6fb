use Rattle.std.proofs.Common.{◌≡◌, Ok, Err, rules}
use Rattle.line_runs.specs.Turns.{fault_of_sink}
use Rattle.replay_loop.specs.Statuses.{fault_of_answer}
use Rattle.follow_loop.proofs.Turned.{still, turned_none, turned_ok, turned_short}
use Rattle.follow_loop.proofs.command.turn.Goals as goal

pub returns-in_err-after-clause-turns : goal.returns-in_err-after-clause-turns
returns-in_err-after-clause-turns g c =
    let f = c.in_err-after.field-0.0 in
    let is : c.from_residual.result ≡ Err (fault_of_answer f) = search rules in
    λ s at.
    rw is
    (turned_none g.R.FollowState.follows g.R.RunState.world c.args.before s c.args.number c.args.reading _ f at
    (c.requires.answers.answered c.args.workers c.args.before c.args.reading (Err f) c.requires.few c.in_err-after.ensures))

pub returns-in_err-write-clause-turns : goal.returns-in_err-write-clause-turns
returns-in_err-write-clause-turns g c =
    let e = c.in_err-write.field-0.0 in
    let is : c.from_residual-in_err-write.result ≡ Err (fault_of_sink e) = search rules in
    λ s at.
    rw is
    (turned_short g.R.FollowState.follows g.R.RunState.world g.met.R.FollowState.is_world c.args.before s c.args.number c.args.reading c.in_ok-after.after c.in_ok-after.outcome _ _ e at
    (c.requires.answers.answered c.args.workers c.args.before c.args.reading (Ok (c.in_ok-after.after, c.in_ok-after.outcome)) c.requires.few c.in_ok-after.ensures)
    c.in_err-write.ensures.err)

pub returns-clause-somewhere : goal.returns-clause-somewhere
returns-clause-somewhere g c =
    still g.R.FollowState.follows g.R.RunState.world c.args.before c.args.reading c.in_ok-after.after c.in_ok-after.outcome c.requires.somewhere
    (c.requires.answers.answered c.args.workers c.args.before c.args.reading (Ok (c.in_ok-after.after, c.in_ok-after.outcome)) c.requires.few c.in_ok-after.ensures)

pub returns-clause-turns : goal.returns-clause-turns
returns-clause-turns g c = λ s at.
    turned_ok g.R.FollowState.follows g.R.RunState.world g.met.R.FollowState.is_world c.args.before s c.args.number c.args.reading c.in_ok-after.after c.in_ok-after.outcome _ _ at
    (c.requires.answers.answered c.args.workers c.args.before c.args.reading (Ok (c.in_ok-after.after, c.in_ok-after.outcome)) c.requires.few c.in_ok-after.ensures)
    c.in_ok-write.ensures.ok
