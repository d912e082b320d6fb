use Rattle.std.proofs.Common.{Err, ap}
use Rattle.embedded.proofs.Cut.{fault_is}
use Rattle.embedded.proofs.session.Session.resume.Goals as goal

pub returns-in-Err : goal.returns-in-Err
returns-in-Err g c = fault_is c.args.text.now c.in-Err.fault (λ bad. c.in-Err.ensures.bad (ap Err bad))
