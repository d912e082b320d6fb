-- Laws of runs: whatever bytes are read, records reach the ledger by the rules. (Own)
use Rattle.std.specs.Prelude.{◌≡◌, ℕ, Bool, true, List, None, fold}
use Rattle.std.specs.List.{list_all}
use Rattle.ledger_model.specs.Supply.{supply_of}
use Rattle.run_model.specs.Genesis.{genesis_fault, world_of_genesis}
use Rattle.run_model.specs.Runs.{IsReached}
use Rattle.run_model.specs.Step.{step}
use Rattle.run_model.specs.World.{World}
use Rattle.text_model.specs.Runs.{world_after_reading}
use Rattle.tx_records.specs.GenesisLimits as genesis_limits
use Rattle.tx_records.specs.declared.genesis.Genesis.{Genesis}
use Rattle.tx_records.specs.declared.record.Reading.{Reading}
use Rattle.tx_records.specs.declared.record.Reading.TheVariants.{Read}
use Rattle.tx_records.specs.declared.record.Record.{Record}
use Rattle.tx_records.specs.declared.reply.Reply.TheVariants.{Refused}
use Rattle.tx_records.specs.declared.reply.Rule.{Rule}
use Rattle.record_stream.specs.Records.{is_within, records_of}
use Rattle.load_options.specs.declared.command.LoadCommand.{LoadCommand}
use Rattle.replay_loop.specs.Endings.{Finished}
use Rattle.replay_loop.specs.Loads.{summary_of_load}
use Rattle.text_model.specs.Words.{Text}

-- the World after what was read
abbrev pub world_after_readings : World → List (ℕ × Reading) → World
world_after_readings w rs = fold (λ (v : World) (r : ℕ × Reading). world_after_reading v r.1) w rs

-- all that was read is within the limits of records
abbrev pub are_within : List (ℕ × Reading) → Bool
are_within rs = list_all (λ (r : ℕ × Reading). is_within r.1) rs

-- whatever the bytes are, what is read of them is within the limits
abbrev pub LinesAreWithin : Type 0
LinesAreWithin = (bytes : List ℕ) → are_within (records_of bytes) ≡ true

-- whatever is read, records reach the World from the genesis: each law of runs holds of it
abbrev pub LinesReach : Type 0
LinesReach = (g : Genesis) (rs : List (ℕ × Reading))
    → genesis_limits.is_within_limits g ≡ true → genesis_fault g ≡ None → are_within rs ≡ true
    → IsReached (world_after_readings (world_of_genesis g) rs)

-- the pots sum to the supply of the genesis
abbrev pub SupplyStays : Type 0
SupplyStays = (g : Genesis) (rs : List (ℕ × Reading))
    → genesis_limits.is_within_limits g ≡ true → genesis_fault g ≡ None → are_within rs ≡ true
    → supply_of (world_after_readings (world_of_genesis g) rs).ledger ≡ g.supply

-- a refused record changes nothing
abbrev pub RefusedChangesNothing : Type 0
RefusedChangesNothing = (w : World) (r : Record) (rule : Rule) → (step w r).1 ≡ Refused rule → world_after_reading w (Read r) ≡ w

-- replays that read the same bytes to their end wrote the same text, for any number of workers
abbrev pub TextsAreOne : Type 0
TextsAreOne = (bytes rest other : List ℕ) (written again : Text) → Finished bytes rest written → Finished bytes other again → written ≡ again

-- `load` has the same summary for any number of workers
abbrev pub SummariesAreOne : Type 0
SummariesAreOne = (c : LoadCommand) (workers : ℕ) → summary_of_load (record c { workers = workers }) ≡ summary_of_load c
