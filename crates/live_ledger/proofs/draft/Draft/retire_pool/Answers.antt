use Rattle.std.proofs.Common.{◌≡◌, false, true, ap, ◌∙◌}
use Rattle.std.specs.Prelude.{is_some}
use Rattle.live_ledger.proofs.draft.Draft.retire_pool.Goals as goal

pub returns-in-None-clause-ok : goal.returns-in-None-clause-ok
returns-in-None-clause-ok c = let none : false ≡ true = ap is_some c.in-None.ensures.value ∙ c.requires.registered in cc
