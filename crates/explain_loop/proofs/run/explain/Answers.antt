use Rattle.std.proofs.Common.{List, ℕ, [], Option, refl, subst, sym}
use Rattle.byte_lines.specs.Progress.{HasRead}
use Rattle.byte_lines.specs.Reader.{Reader}
use Rattle.line_runs.specs.Runs.{IsRunOf}
use Rattle.explain_loop.specs.Plays.{Unbegun, explain_play}
use Rattle.explain_loop.proofs.run.explain.Goals as goal

pub returns-clause-runs : goal.returns-clause-runs
returns-clause-runs g c = λ bytes told.
    let read = subst (λ (o : Option (List ℕ)). HasRead bytes c.new-lines.result o []) (sym told) (c.new-lines.ensures.reads bytes) in
    subst (λ (l : Reader). IsRunOf (record { play = explain_play; first = Unbegun; passed = l.number; line_max = l.line_max; stream_max = l.stream_max })
    bytes (g.S.Source.left c.run_lines.new.source) (g.K.Sink.taken c.args.sink.now) (g.K.Sink.taken c.run_lines.new.sink) c.run_lines.result) c.new-lines.ensures.reader
    (c.run_lines.ensures.runs Unbegun bytes [] refl read)
