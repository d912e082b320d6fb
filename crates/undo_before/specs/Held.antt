-- That old values at names are those of a ledger, and name all in which another one differs. (Own)
use Rattle.std.specs.Prelude.{length, take}
use Rattle.std.specs.List.{AllZip}
use Rattle.gov_ids.specs.Orders.{credential_cmp, outref_cmp, pool_cmp}
use Rattle.ledger_model.specs.Ledger.{Ledger}
use Rattle.undo_model.specs.Holds.{HoldsOld, HoldsOldVotes}
use Rattle.undo_records.specs.declared.OldEntries.{OldEntries}

-- each old value is that of l, and the maps and votes of m differ from l at most where it is named
pub record HoldsEntries (l : Ledger) (olds : OldEntries) (m : Ledger) : Type 0 where
  pub outputs : HoldsOld outref_cmp olds.outputs l.outputs m.outputs
  pub accounts : HoldsOld credential_cmp olds.accounts l.accounts m.accounts
  pub pools : HoldsOld pool_cmp olds.pools l.pools m.pools
  pub dreps : HoldsOld credential_cmp olds.dreps l.dreps m.dreps
  pub hot : HoldsOld credential_cmp olds.hot l.hot m.hot
  pub votes : AllZip (HoldsOldVotes olds.votes) l.proposals (take (length l.proposals) m.proposals)
