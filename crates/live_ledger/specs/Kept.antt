-- What the program's ledger keeps true, and the ledger that its parts make. (Own)
use Rattle.std.specs.Prelude.{◌≡◌, ◌≤◌, ◌^◌, true}
use Rattle.std.specs.List.{AllByRecursion}
use Rattle.ledger_model.specs.Ledger.{Ledger, params_of}
use Rattle.ledger_model.specs.Sound.{IsSound}
use Rattle.ledger_model.specs.Supply.{supply_of}
use Rattle.dormant_laws.specs.of_run_model.Laws.{IsWithinDormantBound}
use Rattle.coin_frac.specs.declared.TheConstants.{SUPPLY_LIMIT}
use Rattle.gov_actions.specs.declared.action.Proposal.{Proposal}
use Rattle.gov_ids.specs.Orders.{credential_cmp, txid_cmp}
use Rattle.gov_model.specs.Sides.{members_of}
use Rattle.maps.specs.Maps.{IsMap, has_member}
use Rattle.proposal_store.specs.Store.{AllOrdered}
use Rattle.draft_changes.specs.of_ledger_books.Parts.{frozen_entries, ledger_of_books}
use Rattle.live_ledger.specs.Standing.{Standing}
use Rattle.live_ledger.specs.declared.state.LiveLedger.TheInside.{Inside}

-- its maps are maps; its pots hold the supply, within its limit; epoch, expiries and activity fit
-- each proposal has the id of a used transaction, and the votes of each voter once
-- the members of the committee are in order
pub record IsLiveLedger (l : Ledger) : Type 0 where
  pub sound : IsSound l
  pub balanced : supply_of l ≡ l.supply
  pub within : l.supply ≤ SUPPLY_LIMIT
  pub early : l.epoch ≤ 2 ^ 62
  pub timely : IsWithinDormantBound l
  pub active : (params_of l).drep_activity ≤ 2 ^ 32
  pub proposed : AllByRecursion (λ (p : Proposal). has_member txid_cmp l.used p.id.tx ≡ true) l.proposals
  pub voted : AllOrdered l.proposals
  pub seated : IsMap credential_cmp (members_of l.state.committee)

-- the ledger that these parts make
abbrev pub ledger_view : Inside → Ledger
ledger_view a = ledger_of_books a.books.value

-- the ledger that these parts make, and the frozen entries
abbrev pub standing_view : Inside → Standing
standing_view a = record { ledger = ledger_view a; frozen = frozen_entries a.books.value }
