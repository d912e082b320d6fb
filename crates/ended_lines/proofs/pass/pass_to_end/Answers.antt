-- A step more, and what is left of the lines.
use Rattle.std.proofs.Common.{◌≡◌, rules}
use Rattle.ended_lines.proofs.Passing.{last_passed, line_passed, some_of_text}
use Rattle.ended_lines.proofs.pass.pass_to_end.Goals as goal

pub returns-in-Last-clause-text : goal.returns-in-Last-clause-text
returns-in-Last-clause-text g c = last_passed c.in_ok-pass_one.field-0 c.in-Last.is c.loop.invariant.0 c.in_ok-pass_one.ensures.one

pub returns-in-Last-clause-passes : goal.returns-in-Last-clause-passes
returns-in-Last-clause-passes g c = some_of_text (last_passed c.in_ok-pass_one.field-0 c.in-Last.is c.loop.invariant.0 c.in_ok-pass_one.ensures.one)

pub loop-preserved : goal.loop-preserved
loop-preserved g c =
    let faults : g.G.LineGiver.faults c.pass_one.new.giver ≡ g.G.LineGiver.faults c.args.giver.now = search rules in
    (line_passed c.loop.invariant.0 (rw c.in-Other.is at c.in_ok-pass_one.ensures.one), faults)
