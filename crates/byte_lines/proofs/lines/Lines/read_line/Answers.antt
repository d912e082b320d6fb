use Rattle.std.proofs.Common.{◌≡◌, ◌∙◌, Ok, Err, false, ap, rules}
use Rattle.byte_lines.specs.Reader.{Reader}
use Rattle.byte_lines.specs.Turns.{EndsLine, GoesOn}
use Rattle.byte_lines.proofs.StepLemmas.{takes_more, took_end, took_error, took_line}
use Rattle.byte_lines.proofs.lines.Lines.read_line.Goals as goal

pub returns-in-Some-clause-took : goal.returns-in-Some-clause-took
returns-in-Some-clause-took g c =
    let going : c.loop-line.self.ended ≡ false = ap (λ (r : Reader). r.ended) c.loop-line.invariant.reader ∙ c.requires.ended in
    let limit = ap (λ (r : Reader). r.stream_max) c.loop-line.invariant.reader in
    let ends : EndsLine c.loop-line.self c.line_ahead.new.self c.in-Some.line = search rules in
    took_line _ _ _ _ _ c.in-Some.line c.loop-line.invariant.took going limit ends

pub returns-then-branch-eq0-clause-took : goal.returns-then-branch-eq0-clause-took
returns-then-branch-eq0-clause-took g c =
    let on : GoesOn c.loop-line.self c.line_ahead.new.self = search rules in
    let going : c.loop-line.self.ended ≡ false = ap (λ (r : Reader). r.ended) c.loop-line.invariant.reader ∙ c.requires.ended in
    let limit = ap (λ (r : Reader). r.stream_max) c.loop-line.invariant.reader in
    took_end _ _ _ _ _ _ _ _ _ _ c.loop-line.invariant.took on going limit c.in_ok-take_more.ensures.takes c.if-branch-eq0.true c.last_line.ensures

pub returns-in_err-take_more-clause-took : goal.returns-in_err-take_more-clause-took
returns-in_err-take_more-clause-took g c =
    let on : GoesOn c.loop-line.self c.line_ahead.new.self = search rules in
    let going : c.loop-line.self.ended ≡ false = ap (λ (r : Reader). r.ended) c.loop-line.invariant.reader ∙ c.requires.ended in
    let limit = ap (λ (r : Reader). r.stream_max) c.loop-line.invariant.reader in
    took_error _ _ _ _ _ _ _ (Err c.in_err-take_more.field-0.0) c.from_residual-in_err-take_more.result c.loop-line.invariant.took on going limit
    c.in_err-take_more.ensures.takes c.from_residual-in_err-take_more.ensures.0

pub loop-line-preserved : goal.loop-line-preserved
loop-line-preserved g c =
    let on : GoesOn c.loop-line.self c.line_ahead.new.self = search rules in
    let going : c.loop-line.self.ended ≡ false = ap (λ (r : Reader). r.ended) c.loop-line.invariant.reader ∙ c.requires.ended in
    let limit = ap (λ (r : Reader). r.stream_max) c.loop-line.invariant.reader in
    record {
      reader = search rules;
      grows = search rules;
      within = search rules;
      gives = search rules;
      took = takes_more _ _ _ _ _ _ _ (Ok c.in_ok-take_more.field-0) c.loop-line.invariant.took on going limit c.in_ok-take_more.ensures.takes;
      fresh = search rules;
      counts = search rules;
      asks = search rules;
    }
