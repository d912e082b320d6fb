use Rattle.std.proofs.Common.{◌≡◌, drop, map}
use Rattle.load_model.specs.Json.{joined}
use Rattle.load_summary.proofs.Writing.{Wrote}
use Rattle.load_summary.proofs.lines.write_lines.Given as goal

-- the lines that are left are what is left of all their bytes, and no write failed
abbrev pub invariant-loop-line : goal.invariant-loop-line
invariant-loop-line g l = record {
  wrote : Wrote (g.K.Sink.taken l.fn.sink) (g.K.Sink.taken l.sink)
      (joined (map (λ line. line.items) (drop l.line-index l.lines))) (joined (map (λ line. line.items) l.lines));
  faults : g.K.Sink.faults l.sink ≡ g.K.Sink.faults l.fn.sink;
}
