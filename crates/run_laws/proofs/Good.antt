-- What each record keeps true of a World, so that the laws on balance apply to the next one. (Own)
use Rattle.std.specs.Prelude.{◌≡◌, true}
use Rattle.std.specs.List.{AllByRecursion}
use Rattle.maps.specs.Maps.{has_member}
use Rattle.gov_ids.specs.declared.ActionId.{ActionId}
use Rattle.gov_ids.specs.Orders.{txid_cmp}
use Rattle.gov_model.specs.Laws.{HaveDistinctIds}
use Rattle.gov_model.specs.Ratified.{ids_of}
use Rattle.ledger_model.specs.Ledger.{Ledger}
use Rattle.ledger_model.specs.Sound.{IsSound}
use Rattle.run_model.specs.Laws.{IsAsFrozen}
use Rattle.run_model.specs.World.{World}

-- its maps are maps, and proposals have ids of their own, which used transactions gave
pub record IsGoodLedger (l : Ledger) : Type 0 where
  pub sound : IsSound l
  pub own : HaveDistinctIds l.proposals
  pub used : AllByRecursion (λ (a : ActionId). has_member txid_cmp l.used a.tx ≡ true) (ids_of l.proposals)

-- and what was frozen has ids of its own and is still live
pub record IsGood (w : World) : Type 0 where
  pub ledger : IsGoodLedger w.ledger
  pub frozen_own : HaveDistinctIds w.frozen.proposals
  pub frozen : IsAsFrozen w
