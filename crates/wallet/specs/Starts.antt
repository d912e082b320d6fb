-- The ledger of a line, or why there is none. (Own)
use Rattle.std.specs.Prelude.{◌≡◌, ◌≢◌, ℕ, Bool, false, true, List, None, Some, Result, Ok, Err, ⊤}
use Rattle.tx_records.specs.declared.genesis.Genesis.{Genesis}
use Rattle.tx_records.specs.declared.genesis.GenesisRule.{GenesisRule}
use Rattle.tx_records.specs.declared.record.Record.{Record}
use Rattle.tx_records.specs.declared.record.Record.TheVariants as records
use Rattle.run_model.specs.Genesis.{genesis_fault, world_of_genesis}
use Rattle.run_model.specs.World.{World}
use Rattle.record_read.specs.Lines.{record_of_line}
use Rattle.record_read.specs.Reads.{ReadsRecord}
use Rattle.record_read.specs.declared.fault.RecordFault.TheVariants as record_faults
use Rattle.wallet.specs.declared.start.StartFault.{StartFault}
use Rattle.wallet.specs.declared.start.StartFault.TheVariants as faults

-- the line is a genesis that breaks no rule, and this is its whole state
pub record IsLedgerOf (line : List ℕ) (w : World) : Type 0 where
  pub genesis : Genesis
  pub reads : record_of_line line ≡ Ok (records.Genesis genesis)
  pub no_fault : genesis_fault genesis ≡ None
  pub begins : w ≡ world_of_genesis genesis

-- whether a record is a genesis
abbrev pub is_genesis : Record → Bool
is_genesis (records.Genesis g) = true
is_genesis _ = false

-- the line is a record of another kind
pub record IsNoGenesis (line : List ℕ) : Type 0 where
  pub found : Record
  pub reads : record_of_line line ≡ Ok found
  pub other : is_genesis found ≡ false

-- the line is a genesis, and this is the first rule that it breaks
pub record IsBroken (line : List ℕ) (rule : GenesisRule) : Type 0 where
  pub genesis : Genesis
  pub reads : record_of_line line ≡ Ok (records.Genesis genesis)
  pub fault : genesis_fault genesis ≡ Some rule

-- the ledger of the line, or why there is none, unless memory ran out
abbrev pub Starts : List ℕ → Result World StartFault → Type 0
Starts line (Ok w) = IsLedgerOf line w
Starts line (Err (faults.Unreadable fault)) = (fault ≢ record_faults.NoMemory) × ReadsRecord {A = Record} (Err fault) (record_of_line line)
Starts line (Err faults.NoGenesis) = IsNoGenesis line
Starts line (Err (faults.Broken rule)) = IsBroken line rule
Starts line (Err faults.NoMemory) = ⊤
