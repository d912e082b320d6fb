use Rattle.std.proofs.Common.{◌≡◌, ℕ, ◌<◌, List, Vec, Global, length, take, ap, subst, ◌∙◌}
use Rattle.std.specs.Io.KnownBytes.{append_known}
use Rattle.load_summary.proofs.Writing.{on_err, wrote_cut, wrote_line}
use Rattle.load_summary.proofs.lines.write_lines.Goals as goal

pub returns-in_err-put_all-clause-err : goal.returns-in_err-put_all-clause-err
returns-in_err-put_all-clause-err g c =
    on_err c.from_residual.result
    (wrote_cut (λ (line : Vec ℕ Global). line.items) c.args.lines.now c.loop-line.line-index c.line-item.result c.loop-line-test.true c.line-item.is
    (g.K.Sink.taken c.put_all.new.sink) c.loop-line.invariant.wrote
    (subst (λ (piece : List ℕ). (n : ℕ) × (n < length piece) × (g.K.Sink.taken c.put_all.new.sink ≡ append_known (g.K.Sink.taken c.loop-line.sink) (take n piece)))
    c.as_slice.ensures.value c.in_err-put_all.ensures.err))

pub loop-line-preserved : goal.loop-line-preserved
loop-line-preserved g c = record {
  wrote = wrote_line (λ (line : Vec ℕ Global). line.items) c.args.lines.now c.loop-line.line-index c.line-item.result c.loop-line-test.true c.line-item.is
      (g.K.Sink.taken c.put_all.new.sink) c.loop-line.invariant.wrote
      (c.in_ok-put_all.ensures.ok ∙ ap (λ (piece : List ℕ). append_known (g.K.Sink.taken c.loop-line.sink) piece) c.as_slice.ensures.value);
  faults = c.in_ok-put_all.ensures.counts.stays (λ failed. cc) ∙ c.loop-line.invariant.faults;
}
