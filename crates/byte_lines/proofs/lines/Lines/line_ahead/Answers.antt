use Rattle.std.proofs.Common.{◌≡◌, ◌∙◌, ◌+◌, ap, subst, Some, None, List, [], ℕ, take, drop, length, arith, rules}
use Rattle.std.proofs.lemmas.List.{drop_all}
use Rattle.memchr.specs.Find.{IsFirstByte, is_byte}
use Rattle.byte_lines.specs.Buffers.{BytesAhead, LineBegun}
use Rattle.byte_lines.specs.contracts.lines.Lines.{the_view}
use Rattle.byte_lines.specs.Pieces.{line_feed}
use Rattle.byte_lines.specs.Reader.{with_run}
use Rattle.byte_lines.specs.Turns.{IsReading}
use Rattle.byte_lines.proofs.StepLemmas.{looks_none, looks_some}
use Rattle.byte_lines.proofs.lines.Lines.line_ahead.Goals as goal

pub returns-in_ok-extend-in-Some-clause-looks : goal.returns-in_ok-extend-in-Some-clause-looks
returns-in_ok-extend-in-Some-clause-looks c =
    let found : IsFirstByte (is_byte line_feed) c.self.inside.ahead.bytes (Some c.in-Some.at) =
    subst (λ (xs : List ℕ). IsFirstByte (is_byte line_feed) xs (Some c.in-Some.at)) c.as_slice-ahead.ensures c.in-Some.ensures in
    let goes_on : c.extend.new.self.line ≡ with_run c.self.inside.line_max c.self.inside.begun.line (take c.in-Some.at c.self.inside.ahead.bytes) =
    search rules in
    let passed : c.pass.new.self.bytes ≡ drop (c.in-Some.at + 1) c.self.inside.ahead.bytes = ap (λ (a : BytesAhead). a.bytes) c.pass.ensures in
    let started : c.finish.new.self.line ≡ Some [] = ap (λ (b : LineBegun). b.line) c.finish.ensures.begun in
    let reading : IsReading (the_view c.self.inside) = rw c.self.view_is c.requires in
    rw (← c.self.view_is) (looks_some (the_view c.self.inside) c.in-Some.at c.extend.new.self.line c.finish.new.self.line c.pass.new.self.bytes c.finish.new.text.items
    (c.finish.new.self.held + c.pass.new.self.held) c.finish.result reading found goes_on c.finish.ensures.line started passed)

pub returns-in_ok-extend-in-None-clause-looks : goal.returns-in_ok-extend-in-None-clause-looks
returns-in_ok-extend-in-None-clause-looks c =
    let none : IsFirstByte (is_byte line_feed) c.self.inside.ahead.bytes None =
    subst (λ (xs : List ℕ). IsFirstByte (is_byte line_feed) xs None) c.as_slice-ahead.ensures c.in-None.ensures in
    let goes_on : c.extend-in-None.new.self.line ≡ with_run c.self.inside.line_max c.self.inside.begun.line c.self.inside.ahead.bytes =
    c.in_ok-extend-in-None.ensures.ok ∙ ap (λ (xs : List ℕ). with_run c.self.inside.line_max c.self.inside.begun.line xs) c.as_slice-ahead.ensures in
    let empty : c.pass-in-None.new.self.bytes ≡ [] =
    ap (λ (a : BytesAhead). a.bytes) c.pass-in-None.ensures
    ∙ drop_all (length c.as_slice-ahead.result.now) c.self.inside.ahead.bytes (omega (arith, ap length c.as_slice-ahead.ensures)) in
    let reading : IsReading (the_view c.self.inside) = rw c.self.view_is c.requires in
    let fits = c.self.invariant.begun_fits in
    rw (← c.self.view_is) (looks_none (the_view c.self.inside) c.extend-in-None.new.self.line c.pass-in-None.new.self.bytes
    (c.extend-in-None.new.self.held + c.pass-in-None.new.self.held) reading fits none goes_on empty)
