-- What both parts read is what the pair reads.
use Rattle.line_giver.proofs.Passing.{passes_both}
use Rattle.line_parts.proofs.Sequences.{then_both, then_no_first, then_no_second}
use Rattle.line_parts.proofs.then.ThenPart.read_part.Goals as goal

-- src/then.rt:37:13
pub returns-in_default-clause-reads : goal.returns-in_default-clause-reads
returns-in_default-clause-reads g c fits =
    let a = g.A.Part in
    let b = g.B.Part in
    then_no_first a.shape b.shape a.form b.form a.words b.words c.laws.ensures fits (rw c.in_default.is at c.in_ok-first.ensures.reads)

-- src/then.rt:40:13
pub returns-in_default-2-clause-reads : goal.returns-in_default-2-clause-reads
returns-in_default-2-clause-reads g c fits =
    let a = g.A.Part in
    let b = g.B.Part in
    then_no_second a.shape b.shape a.form b.form a.words b.words c.laws.ensures fits c.in-Some.first (rw c.in-Some.is at c.in_ok-first.ensures.reads) (rw c.in_default-2.is at c.in_ok-second.ensures.reads)

-- src/then.rt:29:5
pub returns-clause-reads : goal.returns-clause-reads
returns-clause-reads g c fits =
    let a = g.A.Part in
    let b = g.B.Part in
    then_both a.shape b.shape a.form b.form a.words b.words c.laws.ensures fits c.in-Some.first c.in-Some-2.second (rw c.in-Some.is at c.in_ok-first.ensures.reads) (rw c.in-Some-2.is at c.in_ok-second.ensures.reads)

pub returns-in_err-second-clause-passes : goal.returns-in_err-second-clause-passes
returns-in_err-second-clause-passes g c = passes_both c.in_ok-first.ensures.passes c.in_err-second.ensures.passes

pub returns-in_default-2-clause-passes : goal.returns-in_default-2-clause-passes
returns-in_default-2-clause-passes g c = passes_both c.in_ok-first.ensures.passes c.in_ok-second.ensures.passes

pub returns-clause-passes : goal.returns-clause-passes
returns-clause-passes g c = passes_both c.in_ok-first.ensures.passes c.in_ok-second.ensures.passes
