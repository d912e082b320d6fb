-- The World of a ledger's parts, together with what is frozen and counted.
-- (NewEpochState of the formal specification)
use Rattle.std.specs.Prelude.{◌≡◌, ◌≤◌, ℕ, List}
use Rattle.cert_pool.specs.of_book_records.declared.Entry.{Entry}
use Rattle.gov_ids.specs.declared.Credential.{Credential}
use Rattle.gov_ids.specs.Orders.{credential_cmp}
use Rattle.run_model.specs.of_gov_model.Snapshot.{Snapshot}
use Rattle.ledger_books.specs.declared.Books.{Books}
use Rattle.run_model.specs.of_ledger_model.Ledger.{Ledger}
use Rattle.run_model.specs.of_ledger_model.Supply.{supply_of}
use Rattle.run_model.specs.World.{World}
use Rattle.stake_book.specs.Stakes.{registrations}
use Rattle.coin_frac.specs.declared.TheConstants.{SUPPLY_LIMIT}
use Rattle.view_map.specs.View.{frozen_of}

-- the ledger of these parts
abbrev pub ledger_of_books : Books → Ledger
ledger_of_books b = record {
  network = b.network;
  epoch_length = b.length;
  supply = b.supply;
  slot = b.slot;
  epoch = b.epoch;
  dormant = b.dreps.dormant;
  reserves = b.reserves;
  fees = b.fees;
  donations = b.donations;
  state = b.state;
  outputs = b.stake.outputs.outputs;
  used = b.stake.outputs.used;
  accounts = registrations b.stake.accounts.live;
  pools = b.pools;
  dreps = b.dreps.dreps;
  hot = b.hot;
  proposals = b.proposals;
}

-- the World of these parts, with so many counted entries of this snapshot
abbrev pub world_of_books : Books → ℕ → Snapshot → World
world_of_books b counted f = record {
  ledger = ledger_of_books b;
  pending = b.pending;
  counted = counted;
  mark = b.snapshots.mark;
  set = b.snapshots.set;
  go = b.snapshots.go;
  noted_fees = b.snapshots.fees;
  frozen = f;
}

-- the account entries of the last freeze
abbrev pub frozen_entries : Books → List (Credential × Entry)
frozen_entries b = frozen_of credential_cmp b.stake.accounts

-- its pots hold the supply, which is within its limit
pub record HoldsSupply (b : Books) : Type 0 where
  pub balanced : supply_of (ledger_of_books b) ≡ b.supply
  pub within : b.supply ≤ SUPPLY_LIMIT

-- the World of the parts after a step is the step of the World before, for each snapshot and count
abbrev pub IsStep : (World → World) → Books → Books → Type 0
IsStep step before after =
    (counted : ℕ) (f : Snapshot) → world_of_books after counted f ≡ step (world_of_books before counted f)
