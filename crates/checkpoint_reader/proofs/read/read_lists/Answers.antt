-- The reading of all lines, clause by clause.
use Rattle.std.proofs.Common.{refl}
use Rattle.checkpoint_reader.proofs.Lists.{all_passed, all_read, forms_of, worlds_read}
use Rattle.checkpoint_reader.proofs.read.read_lists.Goals as goal

pub returns-clause-form : goal.returns-clause-form
returns-clause-form g c = forms_of _ _ _ _ _ _ _ _ (c.read_part.ensures.reads refl)

pub returns-clause-passes : goal.returns-clause-passes
returns-clause-passes g c = all_passed _ _ _ _ _ _ _ _ (c.read_part.ensures.reads refl)

pub returns-clause-all : goal.returns-clause-all
returns-clause-all g c = all_read _ _ _ _ _ _ _ _ refl (c.read_part.ensures.reads refl)

pub returns-clause-world : goal.returns-clause-world
returns-clause-world g c = worlds_read c.shown_are_of_worlds.ensures _ _ _ _ _ _ refl (c.read_part.ensures.reads refl)
