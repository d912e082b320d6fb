use Rattle.std.proofs.Common.{◌≡◌, ◌≤◌, ℕ, ◌+◌, ◌-◌, List, [], Option}
use Rattle.byte_lines.specs.Progress.{HasRead}
use Rattle.line_runs.specs.Loop.{Stands}
use Rattle.line_runs.proofs.run.read_on.Given as goal

-- the command stands after the lines that were read, and no read and no write failed
abbrev pub invariant-loop-lines : goal.invariant-loop-lines
invariant-loop-lines g l = record {
  can : g.C.LineCommand.can l.command;
  within : l.lines.taken ≤ l.lines.stream_max;
  stands : (s : g.C.LineCommand.Stand) (bytes : List ℕ) (given : List (Option (List ℕ))) → g.C.LineCommand.stands l.fn.command s
      → HasRead bytes l.fn.lines (g.S.Source.left l.fn.source) given → l.fn.batch.items ≡ []
      → (t : g.C.LineCommand.Stand) × g.C.LineCommand.stands l.command t
      × Stands (record { play = g.C.LineCommand.play; first = s; passed = l.fn.lines.number; line_max = l.fn.lines.line_max; stream_max = l.fn.lines.stream_max })
      bytes given l.lines (g.S.Source.left l.source) (g.K.Sink.taken l.fn.sink) (record { taken = g.K.Sink.taken l.sink; batch = l.batch.items }) t;
  reads : g.S.Source.faults l.source ≡ g.S.Source.faults l.fn.source;
  writes : g.K.Sink.faults l.sink ≡ g.K.Sink.faults l.fn.sink;
}

-- each line took a byte
abbrev pub decreases-loop-lines : goal.decreases-loop-lines
decreases-loop-lines g l = l.lines.stream_max + 2 - l.lines.number
