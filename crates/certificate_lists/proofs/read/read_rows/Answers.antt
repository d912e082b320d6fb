-- The reading of all lines, clause by clause.
use Rattle.certificate_lists.proofs.Snapshots.{all_passed, all_read, forms_of, snapshots_read}
use Rattle.certificate_lists.proofs.read.read_rows.Goals as goal

pub returns-clause-form : goal.returns-clause-form
returns-clause-form g c = forms_of _ _ _ _ _ c.read_parts.ensures.reads

pub returns-clause-passes : goal.returns-clause-passes
returns-clause-passes g c = all_passed _ _ _ _ _ c.read_parts.ensures.reads

pub returns-clause-all : goal.returns-clause-all
returns-clause-all g c = all_read _ _ _ _ _ c.read_parts.ensures.reads

pub returns-clause-snapshot : goal.returns-clause-snapshot
returns-clause-snapshot g c = snapshots_read _ _ _ _ _ c.read_parts.ensures.reads
