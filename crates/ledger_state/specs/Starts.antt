-- The ledger of a genesis.
use Rattle.std.specs.Prelude.{◌≡◌, Result, Ok, Err, Some, None}
use Rattle.tx_records.specs.declared.genesis.Genesis.{Genesis}
use Rattle.run_model.specs.Genesis.{genesis_fault, world_of_genesis}
use Rattle.run_model.specs.World.{World}
use Rattle.live_ledger.specs.declared.fault.GenesisFault.{GenesisFault}
use Rattle.live_ledger.specs.declared.fault.GenesisFault.TheVariants as faults

-- the World of a genesis that breaks no rule, or the first broken rule, unless memory ran out
abbrev pub StartsAs : Result World GenesisFault → Genesis → Type 0
StartsAs (Ok w) g = (genesis_fault g ≡ None) × (w ≡ world_of_genesis g)
StartsAs (Err (faults.Broken rule)) g = genesis_fault g ≡ Some rule
StartsAs (Err faults.NoMemory) g = Unit {0}
