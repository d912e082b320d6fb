-- The World that a whole run leaves. (Own)
use Rattle.std.specs.Prelude.{ℕ, List, ◌∷◌, Option, Some, None, fold}
use Rattle.text_model.specs.of_tx_records.declared.genesis.Genesis.{Genesis}
use Rattle.text_model.specs.of_tx_records.declared.genesis.GenesisRule.{GenesisRule}
use Rattle.text_model.specs.of_tx_records.declared.record.Reading.{Reading}
use Rattle.text_model.specs.of_tx_records.declared.record.Reading.TheVariants.{Read}
use Rattle.text_model.specs.of_tx_records.declared.record.Record.TheVariants as records
use Rattle.text_model.specs.of_run_model.Genesis.{genesis_fault, world_of_genesis}
use Rattle.text_model.specs.of_run_model.World.{World}
use Rattle.text_model.specs.Runs.{world_after_reading}

-- the World after these readings
abbrev pub world_after_readings : World → List (ℕ × Reading) → World
world_after_readings w rs = fold (λ v r. world_after_reading v r.1) w rs

-- the World of a run, by the first genesis rule that is broken
abbrev pub world_by : Option GenesisRule → Genesis → List (ℕ × Reading) → Option World
world_by (Some rule) g rs = None
world_by None g rs = Some (world_after_readings (world_of_genesis g) rs)

-- the World of a run that begins with a genesis without a broken genesis rule
abbrev pub world_of_readings : List (ℕ × Reading) → Option World
world_of_readings ((n, Read (records.Genesis g)) ∷ rs) = world_by (genesis_fault g) g rs
world_of_readings _ = None
