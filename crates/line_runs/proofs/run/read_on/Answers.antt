use Rattle.std.proofs.Common.{◌≡◌, ℕ, List, Err, ap, refl, rules, subst, ◌∙◌}
use Rattle.byte_lines.specs.Pieces.{has_feed}
use Rattle.line_runs.specs.Loop.{IsCleared}
use Rattle.line_runs.specs.Turns.{fault_of_line, fault_of_sink}
use Rattle.line_runs.proofs.Steps.{not_handed}
use Rattle.line_runs.proofs.Turning.{goes_at_line, leaves_at_end, leaves_at_fault, leaves_at_line, not_over_at, stands_first}
use Rattle.line_runs.proofs.run.read_on.Goals as goal

pub loop-lines-init : goal.loop-lines-init
loop-lines-init g c = record {
  can = c.requires.can;
  within = c.requires.within;
  stands = λ s bytes given at read empty. (s, at, stands_first _ bytes given _ _ _ _ empty read refl refl refl c.requires.within);
  reads = refl;
  writes = refl;
}

pub returns-in_err-make_way-clause-leaves : goal.returns-in_err-make_way-clause-leaves
returns-in_err-make_way-clause-leaves g c = λ s bytes given at read empty.
    let now = c.loop-lines.invariant.stands s bytes given at read empty in
    let short = c.in_err-make_way.ensures.err in
    let is : c.from_residual.result ≡ Err (fault_of_sink c.in_err-make_way.field-0.0) = search rules in
    rw is (not_handed _ c.whole_lines.ensures.first bytes given _ _ _ _ _ now.2 _ short.0 c.in_err-make_way.field-0.0 short.1 short.2 short.3)

pub returns-in_err-line-clause-leaves : goal.returns-in_err-line-clause-leaves
returns-in_err-line-clause-leaves g c = λ s bytes given at read empty.
    let law = c.whole_lines.ensures in
    let now = c.loop-lines.invariant.stands s bytes given at read empty in
    let e = c.in_err-line.ensures in
    let way = subst (λ (xs : List ℕ). IsCleared (has_feed xs) (record { taken = g.K.Sink.taken c.loop-lines.sink; batch = c.loop-lines.batch.items }) (record { taken = g.K.Sink.taken c.make_way.new.sink; batch = c.make_way.new.batch.items })) c.ahead.ensures c.in_ok-make_way.ensures.ok in
    let is : c.from_residual-in_err-line.result ≡ Err (fault_of_line c.in_err-line.field-0.0) = search rules in
    rw is
    (leaves_at_fault _ law.all law.whole law.first law.nothing_beyond bytes given _ _ _ _ _ _ now.2 way _ _ (λ feed. ap g.S.Source.left (e.asks feed)) c.in_err-line.field-0.0 (e.reads bytes) e.advances e.answer e.passes)

pub returns-in_err-take_line-clause-leaves : goal.returns-in_err-take_line-clause-leaves
returns-in_err-take_line-clause-leaves g c = λ s bytes given at read empty.
    let law = c.whole_lines.ensures in
    let now = c.loop-lines.invariant.stands s bytes given at read empty in
    let e = c.in_ok-line.ensures in
    let way = subst (λ (xs : List ℕ). IsCleared (has_feed xs) (record { taken = g.K.Sink.taken c.loop-lines.sink; batch = c.loop-lines.batch.items }) (record { taken = g.K.Sink.taken c.make_way.new.sink; batch = c.make_way.new.batch.items })) c.ahead.ensures c.in_ok-make_way.ensures.ok in
    let is : c.from_residual-in_err-take_line.result ≡ Err c.in_err-take_line.field-0.0 = search rules in
    rw is
    (leaves_at_line _ law.all law.whole law.first law.nothing_beyond bytes given _ _ _ _ _ _ now.2 way _ _ (λ feed. ap g.S.Source.left (e.asks feed)) c.in_ok-line.line (e.reads bytes) e.advances e.answer
    (g.C.LineCommand.stands c.take_line.new.command) _ c.in_err-take_line.field-0.0 (c.in_err-take_line.ensures.takes now.0 now.1))

pub returns-then-eq-clause-leaves : goal.returns-then-eq-clause-leaves
returns-then-eq-clause-leaves g c = λ s bytes given at read empty.
    let law = c.whole_lines.ensures in
    let now = c.loop-lines.invariant.stands s bytes given at read empty in
    let e = c.in_ok-line.ensures in
    let way = subst (λ (xs : List ℕ). IsCleared (has_feed xs) (record { taken = g.K.Sink.taken c.loop-lines.sink; batch = c.loop-lines.batch.items }) (record { taken = g.K.Sink.taken c.make_way.new.sink; batch = c.make_way.new.batch.items })) c.ahead.ensures c.in_ok-make_way.ensures.ok in
    leaves_at_end _ law.all law.whole law.first law.nothing_beyond bytes given _ _ _ _ _ _ now.2 way _ _ (λ feed. ap g.S.Source.left (e.asks feed)) c.in_ok-line.line (search rules) (e.reads bytes) e.advances e.answer
    (g.C.LineCommand.stands c.take_line.new.command) _ (c.in_ok-take_line.ensures.takes now.0 now.1)

pub loop-lines-preserved : goal.loop-lines-preserved
loop-lines-preserved g c = record {
  can = c.in_ok-take_line.ensures.can;
  within = not_over_at c.in_ok-line.line _ _ c.in_ok-line.ensures.answer;
  stands = λ s bytes given at read empty.
      let law = c.whole_lines.ensures in
      let now = c.loop-lines.invariant.stands s bytes given at read empty in
      let e = c.in_ok-line.ensures in
      let way = subst (λ (xs : List ℕ). IsCleared (has_feed xs) (record { taken = g.K.Sink.taken c.loop-lines.sink; batch = c.loop-lines.batch.items }) (record { taken = g.K.Sink.taken c.make_way.new.sink; batch = c.make_way.new.batch.items })) c.ahead.ensures c.in_ok-make_way.ensures.ok in
      goes_at_line _ law.all law.whole law.first law.nothing_beyond bytes given _ _ _ _ _ _ now.2 way _ _ (λ feed. ap g.S.Source.left (e.asks feed)) c.in_ok-line.line (search rules) (e.reads bytes) e.advances e.answer
      (g.C.LineCommand.stands c.take_line.new.command) _ (c.in_ok-take_line.ensures.takes now.0 now.1);
  reads = c.in_ok-line.ensures.counts.stays (λ e. cc) ∙ c.loop-lines.invariant.reads;
  writes = c.in_ok-take_line.ensures.counts.stays (λ e. cc) ∙ c.in_ok-make_way.ensures.counts.stays (λ e. cc) ∙ c.loop-lines.invariant.writes;
}
