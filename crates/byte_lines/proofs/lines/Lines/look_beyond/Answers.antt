use Rattle.std.proofs.Common.{◌≡◌, ◌∙◌, ◌+◌, ap, [], length, arith}
use Rattle.std.proofs.lemmas.List.{drop_all}
use Rattle.byte_lines.specs.Buffers.{BytesAhead}
use Rattle.byte_lines.specs.Reader.{Reader}
use Rattle.byte_lines.specs.Turns.{IsReading}
use Rattle.byte_lines.specs.States.{bytes_over}
use Rattle.byte_lines.specs.contracts.lines.Lines.{the_view}
use Rattle.byte_lines.proofs.StepLemmas.{nothing_over, takes_over}
use Rattle.byte_lines.proofs.lines.Lines.look_beyond.Goals as goal

pub returns-clause-takes : goal.returns-clause-takes
returns-clause-takes g c =
    let old = the_view c.self.inside in
    let reading : IsReading old = rw c.self.view_is c.requires.reading in
    let looked : old.ahead ≡ [] = ap (λ (r : Reader). r.ahead) c.self.view_is ∙ c.requires.looked in
    let over : bytes_over c.self.inside.state ≡ 0 =
    nothing_over (bytes_over c.self.inside.state) c.self.inside.taken c.self.inside.stream_max c.self.invariant.over reading.within in
    let passed : c.pass.new.self.bytes ≡ [] =
    ap (λ (a : BytesAhead). a.bytes) c.pass.ensures ∙ drop_all c.in_ok-count.count c.refill.new.self.bytes (omega (arith, c.in_ok-count.ensures.came.0)) in
    let more : c.self.inside.taken + 1 ≡ old.taken + 1 = omega arith in
    let taken : old.taken ≡ c.args.self.now.taken = ap (λ (r : Reader). r.taken) c.self.view_is in
    let limit : old.stream_max ≡ c.args.self.now.stream_max = ap (λ (r : Reader). r.stream_max) c.self.view_is in
    let full : old.taken ≡ old.stream_max = omega (arith, reading.within, c.requires.full) in
    let one : length c.refill.new.self.bytes ≡ 1 = omega (arith, c.in_ok-count.ensures.came.0, c.in_ok-count.ensures.came.1) in
    rw (← c.self.view_is) (takes_over old (c.self.inside.taken + 1) (c.self.inside.begun.held + c.pass.new.self.held) c.pass.new.self.bytes c.refill.new.self.bytes _ _
    reading looked more passed full one c.in_ok-count.ensures.gave)
