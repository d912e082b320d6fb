use Rattle.certificate_laws.proofs.Answered.{certified_are_answered_yes, none_is_answered_no}
use Rattle.certificate_laws.proofs.laws.certified_are_answered_yes.Goals as goal

pub returns-clause-done : goal.returns-clause-done
returns-clause-done c = certified_are_answered_yes

pub returns-clause-part : goal.returns-clause-part
returns-clause-part c = none_is_answered_no
