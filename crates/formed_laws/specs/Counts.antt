-- How many entries can be frozen: each is a registered account or holds lovelace. (Own)
use Rattle.std.specs.Prelude.{ℕ, ◌+◌, ◌≤◌, length, sum_by}
use Rattle.tx_records.specs.declared.record.Record.{Record}
use Rattle.tx_records.specs.declared.record.Record.TheVariants as records
use Rattle.gov_model.specs.Snapshot.{entry_count}
use Rattle.run_model.specs.Runs.{IsReached}
use Rattle.run_model.specs.World.{World}

-- how many accounts a record registers at most: one a certificate
abbrev pub registrations_of : Record → ℕ
registrations_of (records.Tx tx) = length tx.certs
registrations_of r = 0

-- the entries that are frozen when records reach a World are at most the accounts of the genesis,
-- the registrations of the records, and the supply
abbrev pub EntriesAreFew : Type 0
EntriesAreFew = (w : World) (reached : IsReached w) →
    entry_count w.frozen ≤ length reached.genesis.accounts + sum_by registrations_of reached.records + reached.genesis.supply
