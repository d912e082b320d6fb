-- That the maps of a ledger are maps. (Own)
use Rattle.std.specs.Prelude.{◌≡◌, true}
use Rattle.std.specs.List.{AllByRecursion}
use Rattle.std.specs.Map.{keys_of}
use Rattle.maps.specs.Maps.{IsMap, IsSet, has_member}
use Rattle.gov_ids.specs.declared.OutRef.{OutRef}
use Rattle.gov_ids.specs.Orders.{credential_cmp, outref_cmp, pool_cmp, txid_cmp}
use Rattle.ledger_model.specs.Ledger.{Ledger}

-- maps and the set of used ids are in order, each key once; each output's transaction id is used
pub record IsSound (l : Ledger) : Type 0 where
  pub outputs : IsMap outref_cmp l.outputs
  pub used : IsSet txid_cmp l.used
  pub accounts : IsMap credential_cmp l.accounts
  pub pools : IsMap pool_cmp l.pools
  pub dreps : IsMap credential_cmp l.dreps
  pub hot : IsMap credential_cmp l.hot
  pub ids_used : AllByRecursion (λ (r : OutRef). has_member txid_cmp l.used r.tx ≡ true) (keys_of l.outputs)
