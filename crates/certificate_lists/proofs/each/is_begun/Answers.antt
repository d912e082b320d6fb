use Rattle.certificate_lists.proofs.Begun.{whole_begins}
use Rattle.certificate_lists.proofs.each.is_begun.Goals as goal

pub returns-in-Whole-clause-begins : goal.returns-in-Whole-clause-begins
returns-in-Whole-clause-begins g c = whole_begins _ _ _ c.text.ensures c.starts_with.ensures.value (rw c.in-Whole.is at c.in_ok-peek.ensures.sees)
