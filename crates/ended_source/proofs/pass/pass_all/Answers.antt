-- One line more is passed, or none is left.
use Rattle.std.proofs.Common.{[]}
use Rattle.line_giver.proofs.Passing.{passes_both, passes_nothing}
use Rattle.ended_source.proofs.pass.pass_all.Goals as goal

pub loop-init : goal.loop-init
loop-init g c = passes_nothing

pub returns-in_err-look-clause-passes : goal.returns-in_err-look-clause-passes
returns-in_err-look-clause-passes g c = passes_both c.loop.invariant (record { lines = []; passed = c.look.ensures.passes })

pub returns-in-End-clause-passes : goal.returns-in-End-clause-passes
returns-in-End-clause-passes g c = passes_both c.loop.invariant (record { lines = []; passed = c.look.ensures.passes })

pub loop-preserved : goal.loop-preserved
loop-preserved g c = passes_both (passes_both c.loop.invariant (record { lines = []; passed = c.look.ensures.passes })) (record { lines = _; passed = c.pass.ensures.passes })
