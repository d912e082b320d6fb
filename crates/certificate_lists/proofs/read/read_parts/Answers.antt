-- What both parts read is the snapshot.
use Rattle.std.proofs.Common.{refl}
use Rattle.line_giver.proofs.Passing.{passes_both}
use Rattle.certificate_lists.proofs.Snapshots.{no_front, no_proposals, snapshot_read}
use Rattle.certificate_lists.proofs.read.read_parts.Goals as goal

-- src/read.rt:31:9
pub returns-in_default-clause-reads : goal.returns-in_default-clause-reads
returns-in_default-clause-reads g c = no_front _ refl (rw c.in_default.is at (c.in_ok-front.ensures.reads refl))

-- src/read.rt:34:9
pub returns-in_default-2-clause-reads : goal.returns-in_default-2-clause-reads
returns-in_default-2-clause-reads g c = no_proposals _ refl _ (rw c.in-Some.is at (c.in_ok-front.ensures.reads refl)) (rw c.in_default-2.is at c.in_ok-proposals.ensures.reads)

-- src/read.rt:21:1
pub returns-clause-reads : goal.returns-clause-reads
returns-clause-reads g c = snapshot_read _ refl _ (rw c.in-Some.is at (c.in_ok-front.ensures.reads refl)) _ _ c.rows_of.ensures.front c.rows_of.ensures.proposals (rw c.in-Some-2.is at c.in_ok-proposals.ensures.reads)

pub returns-in_err-proposals-clause-passes : goal.returns-in_err-proposals-clause-passes
returns-in_err-proposals-clause-passes g c = passes_both c.read_part.ensures.passes c.read_proposals.ensures.passes

pub returns-in_default-2-clause-passes : goal.returns-in_default-2-clause-passes
returns-in_default-2-clause-passes g c = passes_both c.read_part.ensures.passes c.read_proposals.ensures.passes

pub returns-clause-passes : goal.returns-clause-passes
returns-clause-passes g c = passes_both c.read_part.ensures.passes c.read_proposals.ensures.passes
