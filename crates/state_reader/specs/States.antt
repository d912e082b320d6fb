-- States that are sound to be resumed, as plain lists. (Own)
use Rattle.std.specs.Prelude.{ℕ, ◌^◌, ◌≤◌}
use Rattle.ledger_model.specs.Supply.{pots_of}
use Rattle.run_model.specs.World.{World}
use Rattle.checkpoint_model.specs.Resumable.{IsResumable}
use Rattle.state_lists.specs.declared.lists.StateLists.{StateLists}
use Rattle.state_lists.specs.Worlds.{world_of_lists}
use Rattle.told_lists.specs.Told.{IsListed}

-- a state that the lines of its checkpoint say and that can be resumed, with the line after which
-- they were made
pub record IsSoundState (x : StateLists × ℕ) : Type 0 where
  pub listed : IsListed x.0
  pub sound : IsResumable (world_of_lists x.0)
  pub within : x.1 ≤ 2 ^ 48

-- the lists of a World
abbrev pub lists_of_world : World → StateLists
lists_of_world w = record {
  clock = record { network = w.ledger.network; epoch_length = w.ledger.epoch_length; slot = w.ledger.slot; epoch = w.ledger.epoch; dormant = w.ledger.dormant };
  counted = w.counted;
  pots = pots_of w.ledger;
  state = w.ledger.state;
  books = record {
    outputs = w.ledger.outputs;
    used = w.ledger.used;
    accounts = w.ledger.accounts;
    pools = w.ledger.pools;
    dreps = w.ledger.dreps;
    hot = w.ledger.hot;
    proposals = w.ledger.proposals;
  };
  pending = w.pending;
  stakes = record { mark = w.mark; set = w.set; go = w.go; fees = w.noted_fees };
  frozen = record {
    treasury = w.frozen.start.treasury;
    entries = w.frozen.entries;
    dreps = w.frozen.dreps;
    pool_accounts = w.frozen.pool_accounts;
    hot = w.frozen.hot;
    proposals = w.frozen.proposals;
  };
}
