use Rattle.std.proofs.Common.{◌≡◌, ◌≤◌, ◌+◌, ◌∙◌, ap, [], arith}
use Rattle.byte_lines.specs.Reader.{Reader}
use Rattle.byte_lines.specs.Turns.{IsReading}
use Rattle.byte_lines.specs.States.{bytes_over}
use Rattle.byte_lines.specs.contracts.lines.Lines.{the_view}
use Rattle.byte_lines.proofs.StepLemmas.{nothing_over, takes_part}
use Rattle.byte_lines.proofs.lines.Lines.take_more.Goals as goal

pub returns-clause-takes : goal.returns-clause-takes
returns-clause-takes g c =
    let old = the_view c.self.inside in
    let count = c.in_ok-count.count in
    let reading : IsReading old = rw c.self.view_is c.requires.reading in
    let looked : old.ahead ≡ [] = ap (λ (r : Reader). r.ahead) c.self.view_is ∙ c.requires.looked in
    let over : bytes_over c.self.inside.state ≡ 0 =
    nothing_over (bytes_over c.self.inside.state) c.self.inside.taken c.self.inside.stream_max c.self.invariant.over reading.within in
    let more : c.self.inside.taken + count + bytes_over c.self.inside.state ≡ old.taken + count = omega arith in
    let within : old.taken + count ≤ old.stream_max = omega (arith, c.in_ok-count.ensures.came.1) in
    rw (← c.self.view_is) (takes_part old (c.self.inside.taken + count + bytes_over c.self.inside.state) (c.self.inside.begun.held + c.refill.new.self.held) count c.refill.new.self.bytes _ _
    reading looked more c.in_ok-count.ensures.came.0 within c.in_ok-count.ensures.gave c.in_ok-count.ensures.end)
