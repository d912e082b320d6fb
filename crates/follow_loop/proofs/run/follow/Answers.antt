use Rattle.std.proofs.Common.{List, ℕ, [], Option, None, subst, sym}
use Rattle.byte_lines.specs.Progress.{HasRead}
use Rattle.byte_lines.specs.Reader.{Reader}
use Rattle.line_runs.specs.Runs.{IsRunOf}
use Rattle.follow_loop.specs.Plays.{follow_play}
use Rattle.follow_loop.proofs.run.follow.Goals as goal

pub returns-clause-runs : goal.returns-clause-runs
returns-clause-runs g c = λ bytes told.
    let read = subst (λ (o : Option (List ℕ)). HasRead bytes c.new-lines.result o []) (sym told) (c.new-lines.ensures.reads bytes) in
    subst (λ (l : Reader). IsRunOf (record { play = follow_play; first = None; passed = l.number; line_max = l.line_max; stream_max = l.stream_max })
    bytes (g.S.Source.left c.run_lines.new.source) (g.K.Sink.taken c.args.sink.now) (g.K.Sink.taken c.run_lines.new.sink) c.run_lines.result) c.new-lines.ensures.reader
    (c.run_lines.ensures.runs None bytes [] tt read)
