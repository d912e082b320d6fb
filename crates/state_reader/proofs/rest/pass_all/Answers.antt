-- One line more was passed.
use Rattle.std.proofs.Common.{◌≡◌, rules}
use Rattle.state_reader.proofs.Passing.{few_more}
use Rattle.state_reader.proofs.rest.pass_all.Goals as goal

pub loop-preserved : goal.loop-preserved
loop-preserved g c =
    let faults : g.G.LineGiver.faults c.pass.new.self ≡ g.G.LineGiver.faults c.args.giver.now = search rules in
    (few_more c.in_ok-peek.field-0 c.loop.invariant.0 c.in_ok-peek.ensures.passes c.in_ok-peek.ensures.sees c.pass.ensures.passes, faults)
