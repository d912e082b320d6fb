use Rattle.std.proofs.Common.{sym, ◌∙◌}
use Rattle.cert_deleg.proofs.Delegating.{not_retired}
use Rattle.cert_deleg.proofs.pool.retire.Goals as goal

pub returns-in-None-clause-ok : goal.returns-in-None-clause-ok
returns-in-None-clause-ok c = not_retired c.args.d.now c.args.pool c.args.epoch (sym c.requires.found ∙ c.in-None.is)
