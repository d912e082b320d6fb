-- How the run ended.
use Rattle.std.proofs.Common.{◌≡◌, Err, None, refl, rules}
use Rattle.line_runs.specs.Turns.{fault_of_line}
use Rattle.resume_loop.proofs.Begun.{faulted, goes_on, stopped}
use Rattle.resume_loop.proofs.run.resume.Goals as goal

pub returns-in_err-state-clause-runs : goal.returns-in_err-state-clause-runs
returns-in_err-state-clause-runs g c = λ bytes told.
    let fault = c.in_err-state.field-0.0 in
    let is : c.from_residual.result ≡ Err (fault_of_line fault) = search rules in
    rw is
    (faulted g.R.RunState.world bytes c.read_head.new.lines (g.S.Source.left c.read_head.new.source) (g.K.Sink.taken c.args.sink.now) c.whole_lines.ensures.whole fault (c.in_err-state.ensures.reads bytes told))

pub returns-in_default-clause-runs : goal.returns-in_default-clause-runs
returns-in_default-clause-runs g c = λ bytes told.
    let none : c.in_ok-state.field-0 ≡ None = search rules in
    stopped g.R.RunState.world bytes c.read_head.new.lines (g.S.Source.left c.read_head.new.source) (g.K.Sink.taken c.args.sink.now) c.whole_lines.ensures.first c.whole_lines.ensures.all
    (rw none at (c.in_ok-state.ensures.reads bytes told)) (record {})

pub returns-clause-runs : goal.returns-clause-runs
returns-clause-runs g c = λ bytes told.
    let read = rw c.in-Some.is at (c.in_ok-state.ensures.reads bytes told) in
    goes_on g.R.RunState.world bytes c.read_head.new.lines (g.S.Source.left c.read_head.new.source) c.whole_lines.ensures.first_of_all c.in-Some.state c.in-Some.line _ _ _ _ read
    (c.run_lines.ensures.runs (record { world = g.R.RunState.world c.in-Some.state; passed = c.read_head.new.lines.number; line = c.in-Some.line }) bytes read.head (refl, c.number.ensures, refl) read.given)
