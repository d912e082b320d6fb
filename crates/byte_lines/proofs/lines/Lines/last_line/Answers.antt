use Rattle.std.proofs.Common.{◌≡◌, ◌≢◌, ◌∙◌, ◌+◌, ap, Some, [], arith, rules}
use Rattle.byte_lines.specs.Buffers.{LineBegun}
use Rattle.byte_lines.specs.Reader.{Reader}
use Rattle.byte_lines.specs.States.{bytes_over}
use Rattle.byte_lines.specs.Turns.{IsReading}
use Rattle.byte_lines.specs.contracts.lines.Lines.{the_view}
use Rattle.byte_lines.proofs.StepLemmas.{ends_empty, ends_line, nothing_over}
use Rattle.byte_lines.proofs.lines.Lines.last_line.Goals as goal

pub returns-then-is_empty : goal.returns-then-is_empty
returns-then-is_empty c =
    let old = the_view c.self.inside in
    let reading : IsReading old = rw c.self.view_is c.requires.reading in
    let looked : old.ahead ≡ [] = ap (λ (r : Reader). r.ahead) c.self.view_is ∙ c.requires.looked in
    let none : old.begun ≡ Some [] = c.is_empty.ensures.0 c.if-is_empty.true in
    let over : bytes_over c.self.inside.state ≡ 0 =
    nothing_over (bytes_over c.self.inside.state) c.self.inside.taken c.self.inside.stream_max c.self.invariant.over reading.within in
    let same : c.self.inside.taken + 0 ≡ old.taken = omega arith in
    rw (← c.self.view_is) (ends_empty old (c.self.inside.taken + 0) old.held c.self.inside.begun.line c.self.inside.ahead.bytes reading looked same none looked none)

pub returns : goal.returns
returns c =
    let old = the_view c.self.inside in
    let reading : IsReading old = rw c.self.view_is c.requires.reading in
    let looked : old.ahead ≡ [] = ap (λ (r : Reader). r.ahead) c.self.view_is ∙ c.requires.looked in
    let some : old.begun ≢ Some [] = λ none. let yes = c.is_empty.ensures.1 none in search rules in
    let over : bytes_over c.self.inside.state ≡ 0 =
    nothing_over (bytes_over c.self.inside.state) c.self.inside.taken c.self.inside.stream_max c.self.invariant.over reading.within in
    let same : c.self.inside.taken + 0 ≡ old.taken = omega arith in
    let started : c.finish.new.self.line ≡ Some [] = ap (λ (b : LineBegun). b.line) c.finish.ensures.begun in
    rw (← c.self.view_is) (ends_line old (c.self.inside.taken + 0) (c.finish.new.self.held + c.self.inside.ahead.held) c.finish.new.self.line c.self.inside.ahead.bytes
    c.finish.new.text.items c.finish.result reading looked same started looked some c.finish.ensures.line)
