use Rattle.embedded.proofs.Told.{session_is_run}
use Rattle.embedded.proofs.every_session.laws.Goals as goal

pub returns-clause-run : goal.returns-clause-run
returns-clause-run c = session_is_run
