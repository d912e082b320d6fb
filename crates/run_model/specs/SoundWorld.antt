-- What every World that records reach keeps: the one invariant of a program's ledger. (Own)
use Rattle.std.specs.Prelude.{◌≡◌, ℕ, ◌+◌, ◌^◌, ◌≤◌, ◌<◌, List, true, unwrap_or}
use Rattle.std.specs.List.{AllByRecursion}
use Rattle.maps.specs.Maps.{IsMap, has_member, sum_values}
use Rattle.maps.specs.Words.{amount}
use Rattle.gov_ids.specs.declared.PoolId.{PoolId}
use Rattle.gov_ids.specs.Orders.{credential_cmp, pool_cmp, txid_cmp, voter_cmp}
use Rattle.ledger_model.specs.of_pparams.declared.Update.{Update}
use Rattle.ledger_model.specs.of_book_records.declared.Entry.{Entry}
use Rattle.ledger_model.specs.of_book_records.declared.Registered.{Registered}
use Rattle.ledger_model.specs.of_gov_actions.declared.action.Action.{Action}
use Rattle.ledger_model.specs.of_gov_actions.declared.action.Proposal.{Proposal}
use Rattle.ledger_model.specs.of_coin_frac.declared.TheConstants.{SUPPLY_LIMIT}
use Rattle.ledger_model.specs.of_gov_model.Enacted.{update_of}
use Rattle.ledger_model.specs.of_gov_model.Laws.{HaveDistinctIds}
use Rattle.ledger_model.specs.of_gov_model.Proposals.{deposits_of}
use Rattle.ledger_model.specs.of_gov_model.Sides.{members_of}
use Rattle.ledger_model.specs.of_gov_model.Snapshot.{Snapshot, entry_count}
use Rattle.ledger_model.specs.Ledger.{Ledger, params_of}
use Rattle.ledger_model.specs.Sound.{IsSound}
use Rattle.ledger_model.specs.Supply.{supply_of}
use Rattle.run_model.specs.Laws.{IsAsFrozen, IsWithinDormantBound}
use Rattle.run_model.specs.World.{World}

-- the drepActivity that an action sets, 0 where it sets none
abbrev pub activity_set_by : Action → ℕ
activity_set_by a = amount (λ (u : Update). unwrap_or u.drep_activity 0) (update_of a)

-- each proposal has an id of its own, its voters in order, each once, and sets no drepActivity of
-- 2^32 or more
pub record AreSoundProposals (ps : List Proposal) : Type 0 where
  pub ids : HaveDistinctIds ps
  pub votes : AllByRecursion (λ (p : Proposal). IsMap voter_cmp p.votes) ps
  pub activities : AllByRecursion (λ (p : Proposal). activity_set_by p.action ≤ 2 ^ 32) ps

-- the ledger: its maps are maps, its pots hold the supply, which is within its limit; slot, epoch,
-- expiries and drepActivity are within bounds; each proposal has the id of a used transaction;
-- the members of the committee are in order
pub record IsSoundLedger (l : Ledger) : Type 0 where
  pub maps : IsSound l
  pub proposals : AreSoundProposals l.proposals
  pub ids_used : AllByRecursion (λ (p : Proposal). has_member txid_cmp l.used p.id.tx ≡ true) l.proposals
  pub committee : IsMap credential_cmp (members_of l.state.committee)
  pub balanced : supply_of l ≡ l.supply
  pub within : l.supply ≤ SUPPLY_LIMIT
  pub lasting : 1 ≤ l.epoch_length
  pub slot : l.slot < 2 ^ 62
  pub epoch : l.epoch ≤ 2 ^ 62
  pub dormancy : IsWithinDormantBound l
  pub activity : (params_of l).drep_activity ≤ 2 ^ 32

-- the lovelace of an entry: its output stake and its reward balance
abbrev pub held_by : Entry → ℕ
held_by e = e.stake + amount (λ (r : Registered). r.rewards) e.registered

-- what is frozen: its maps are maps; the lovelace of its entries and the deposits of its proposals
-- together are at most the supply
pub record IsSoundSnapshot (supply : ℕ) (f : Snapshot) : Type 0 where
  pub entries : IsMap credential_cmp f.entries
  pub dreps : IsMap credential_cmp f.dreps
  pub pool_accounts : IsMap pool_cmp f.pool_accounts
  pub hot : IsMap credential_cmp f.hot
  pub proposals : AreSoundProposals f.proposals
  pub committee : IsMap credential_cmp (members_of f.start.committee)
  pub held : sum_values held_by f.entries + deposits_of f.proposals ≤ supply
  pub activity : f.start.params.drep_activity ≤ 2 ^ 32

-- the stakes of pools at a boundary: each pool once, in order, and all together at most the supply
pub record AreSoundStakes (supply : ℕ) (stakes : List (PoolId × ℕ)) : Type 0 where
  pub pools : IsMap pool_cmp stakes
  pub sum : sum_values (λ n. n) stakes ≤ supply

-- the state: ledger, frozen part and pool snapshots are sound, the ledger is as frozen, and no more
-- was counted than there is to count
pub record IsSoundWorld (w : World) : Type 0 where
  pub ledger : IsSoundLedger w.ledger
  pub frozen : IsSoundSnapshot w.ledger.supply w.frozen
  pub stands : IsAsFrozen w
  pub marked : w.frozen.mark ≡ w.mark
  pub mark : AreSoundStakes w.ledger.supply w.mark
  pub set : AreSoundStakes w.ledger.supply w.set
  pub go : AreSoundStakes w.ledger.supply w.go
  pub fees : w.noted_fees ≤ w.ledger.supply
  pub counted : w.counted ≤ entry_count w.frozen
