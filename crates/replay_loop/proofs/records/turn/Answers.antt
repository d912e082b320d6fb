use Rattle.std.proofs.Common.{◌≡◌, Ok, Err, rules}
use Rattle.line_runs.specs.Turns.{fault_of_sink}
use Rattle.replay_loop.specs.Statuses.{fault_of_answer}
use Rattle.replay_loop.proofs.Answered.{turned_ahead, turned_none, turned_ok, turned_short}
use Rattle.replay_loop.proofs.records.turn.Goals as goal

pub returns-in_err-tell_ahead-clause-turns : goal.returns-in_err-tell_ahead-clause-turns
returns-in_err-tell_ahead-clause-turns g c =
    let e = c.in_err-tell_ahead.field-0.0 in
    let is : c.from_residual.result ≡ Err (fault_of_sink e) = search rules in
    rw is
    (turned_ahead g.H.Teller.telling g.R.RunState.world (g.H.Teller.kept c.args.teller.now) (g.H.Teller.kept c.args.teller.now) c.args.number _ c.args.reading _ _ e c.in_err-tell_ahead.ensures.tells)

pub returns-in_err-after-clause-turns : goal.returns-in_err-after-clause-turns
returns-in_err-after-clause-turns g c =
    let f = c.in_err-after.field-0.0 in
    let is : c.from_residual-in_err-after.result ≡ Err (fault_of_answer f) = search rules in
    rw is
    (turned_none g.H.Teller.telling g.R.RunState.world (g.H.Teller.kept c.args.teller.now) (g.H.Teller.kept c.args.teller.now) c.args.number _ c.args.reading _ _ f c.in_ok-tell_ahead.ensures.tells
    (c.requires.answers.answered c.args.workers c.args.before c.args.reading (Err f) c.requires.few c.in_err-after.ensures))

pub returns-in_err-tell-clause-turns : goal.returns-in_err-tell-clause-turns
returns-in_err-tell-clause-turns g c =
    let e = c.in_err-tell.field-0.0 in
    let is : c.from_residual-in_err-tell.result ≡ Err (fault_of_sink e) = search rules in
    rw is
    (turned_short g.H.Teller.telling g.R.RunState.world (g.H.Teller.kept c.args.teller.now) (g.H.Teller.kept c.tell.new.self) c.args.number _ c.args.reading _ _ c.in_ok-tell_ahead.ensures.tells (g.H.Teller.kept c.tell_ahead.new.teller) c.tell_ahead.ensures.keeps
    c.in_ok-after.after c.in_ok-after.outcome _ e
    (c.requires.answers.answered c.args.workers c.args.before c.args.reading (Ok (c.in_ok-after.after, c.in_ok-after.outcome)) c.requires.few c.in_ok-after.ensures)
    c.in_err-tell.ensures.err)

pub returns-clause-turns : goal.returns-clause-turns
returns-clause-turns g c =
    turned_ok g.H.Teller.telling g.R.RunState.world (g.H.Teller.kept c.args.teller.now) (g.H.Teller.kept c.tell.new.self) c.args.number _ c.args.reading _ _ c.in_ok-tell_ahead.ensures.tells (g.H.Teller.kept c.tell_ahead.new.teller) c.tell_ahead.ensures.keeps
    c.in_ok-after.after c.in_ok-after.outcome _
    (c.requires.answers.answered c.args.workers c.args.before c.args.reading (Ok (c.in_ok-after.after, c.in_ok-after.outcome)) c.requires.few c.in_ok-after.ensures)
    c.in_ok-tell.ensures.keeps c.in_ok-tell.ensures.ok
