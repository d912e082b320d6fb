-- The first lines are those of an item, and what follows is of no second.
use Rattle.line_giver.proofs.Passing.{passes_both}
use Rattle.param_kinds.proofs.Runs.{second_none}
use Rattle.param_kinds.proofs.pair.Tuple2LinesReader.read.Goals as goal

pub returns-in_default-2-clause-reads : goal.returns-in_default-2-clause-reads
returns-in_default-2-clause-reads g c =
    let first = rw c.in-Some.is at c.in_ok-first.ensures.reads in
    let second = rw c.in_default-2.is at c.in_ok-second.ensures.reads in
    second_none g.A.LinesReader.form g.B.LinesReader.form g.A.LinesReader.lines g.B.LinesReader.lines c.laws.ensures c.in-Some.first first second

pub returns-in_err-second-clause-passes : goal.returns-in_err-second-clause-passes
returns-in_err-second-clause-passes g c = passes_both c.in_ok-first.ensures.passes c.in_err-second.ensures.passes

pub returns-in_default-2-clause-passes : goal.returns-in_default-2-clause-passes
returns-in_default-2-clause-passes g c = passes_both c.in_ok-first.ensures.passes c.in_ok-second.ensures.passes

pub returns-clause-passes : goal.returns-clause-passes
returns-clause-passes g c = passes_both c.in_ok-first.ensures.passes c.in_ok-second.ensures.passes
