-- The World of plain lists. (Own)
use Rattle.gov_actions.specs.declared.state.EnactState.{EnactState}
use Rattle.gov_model.specs.Snapshot.{Snapshot}
use Rattle.ledger_model.specs.Ledger.{Ledger}
use Rattle.ledger_model.specs.Supply.{total_of}
use Rattle.run_model.specs.World.{World}
use Rattle.state_lists.specs.declared.lists.StateLists.{StateLists}

-- its ledger; the supply is the sum of the pots
abbrev pub ledger_of_lists : StateLists → Ledger
ledger_of_lists s = record {
  network = s.clock.network;
  epoch_length = s.clock.epoch_length;
  supply = total_of s.pots;
  slot = s.clock.slot;
  epoch = s.clock.epoch;
  dormant = s.clock.dormant;
  reserves = s.pots.reserves;
  fees = s.pots.fees;
  donations = s.pots.donations;
  state = s.state;
  outputs = s.books.outputs;
  used = s.books.used;
  accounts = s.books.accounts;
  pools = s.books.pools;
  dreps = s.books.dreps;
  hot = s.books.hot;
  proposals = s.books.proposals;
}

-- what is frozen: epoch and mark are the current ones, and so is the state except for the treasury
abbrev pub frozen_of_lists : StateLists → Snapshot
frozen_of_lists s = record {
  epoch = s.clock.epoch;
  entries = s.frozen.entries;
  dreps = s.frozen.dreps;
  mark = s.stakes.mark;
  pool_accounts = s.frozen.pool_accounts;
  hot = s.frozen.hot;
  proposals = s.frozen.proposals;
  start = record s.state { treasury = s.frozen.treasury };
}

-- the whole state
abbrev pub world_of_lists : StateLists → World
world_of_lists s = record {
  ledger = ledger_of_lists s;
  pending = s.pending;
  counted = s.counted;
  mark = s.stakes.mark;
  set = s.stakes.set;
  go = s.stakes.go;
  noted_fees = s.stakes.fees;
  frozen = frozen_of_lists s;
}
