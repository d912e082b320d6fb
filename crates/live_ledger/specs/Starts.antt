-- The ledger of a genesis.
use Rattle.std.specs.Prelude.{◌≡◌, Result, Ok, Err, Some, None}
use Rattle.tx_records.specs.declared.genesis.Genesis.{Genesis}
use Rattle.dormant_laws.specs.of_run_model.Freeze.{entries_of}
use Rattle.dormant_laws.specs.of_run_model.Genesis.{genesis_fault, ledger_of_genesis}
use Rattle.live_ledger.specs.declared.fault.GenesisFault.{GenesisFault}
use Rattle.live_ledger.specs.declared.fault.GenesisFault.TheVariants as faults
use Rattle.live_ledger.specs.Standing.{Standing}

-- the ledger of a genesis that breaks no rule, with its own entries frozen
-- otherwise the first rule that it breaks, or `NoMemory`
abbrev pub StartsAs : Result Standing GenesisFault → Genesis → Type 0
StartsAs (Ok s) g = (genesis_fault g ≡ None) × (s ≡ record { ledger = ledger_of_genesis g; frozen = entries_of (ledger_of_genesis g) })
StartsAs (Err (faults.Broken rule)) g = genesis_fault g ≡ Some rule
StartsAs (Err faults.NoMemory) g = Unit {0}
