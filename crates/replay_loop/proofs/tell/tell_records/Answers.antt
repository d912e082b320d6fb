use Rattle.std.proofs.Common.{List, ℕ, [], Option, None, refl, subst, sym}
use Rattle.byte_lines.specs.Progress.{HasRead}
use Rattle.byte_lines.specs.Reader.{Reader}
use Rattle.line_runs.specs.Runs.{IsRunOf}
use Rattle.replay_loop.specs.Plays.{play_of}
use Rattle.replay_loop.proofs.tell.tell_records.Goals as goal

pub returns-clause-runs : goal.returns-clause-runs
returns-clause-runs g c = λ bytes told.
    let read = subst (λ (o : Option (List ℕ)). HasRead bytes c.new-lines.result o []) (sym told) (c.new-lines.ensures.reads bytes) in
    subst (λ (l : Reader). IsRunOf (record { play = play_of g.H.Teller.telling; first = record { state = None; kept = g.H.Teller.kept c.args.teller }; passed = l.number; line_max = l.line_max; stream_max = l.stream_max })
    bytes (g.S.Source.left c.run_lines.new.source) (g.K.Sink.taken c.args.sink.now) (g.K.Sink.taken c.run_lines.new.sink) c.run_lines.result) c.new-lines.ensures.reader
    (c.run_lines.ensures.runs (record { state = None; kept = g.H.Teller.kept c.args.teller }) bytes [] refl read)
