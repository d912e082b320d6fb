-- The old values of both kinds together.
use Rattle.undo_model.specs.Undone.{Before}
use Rattle.undo_records.specs.declared.OldEntries.{OldEntries}
use Rattle.undo_records.specs.declared.OldValues.{OldValues}

-- the old values of which a ledger has one, with those at names
abbrev pub before_of : OldValues → OldEntries → Before
before_of values entries = record {
  slot = values.slot;
  dormant = values.dormant;
  fees = values.fees;
  donations = values.donations;
  had_pending = values.had_pending;
  proposals = values.proposals;
  unused = values.unused;
  outputs = entries.outputs;
  accounts = entries.accounts;
  pools = entries.pools;
  dreps = entries.dreps;
  hot = entries.hot;
  votes = entries.votes;
}
