-- The laws on the form of Worlds, each proved where a public call cites it. (Own)
use Rattle.std.specs.Prelude.{◌≡◌, None, true}
use Rattle.std.specs.List.{list_all}
use Rattle.tx_records.specs.declared.genesis.Genesis.{Genesis}
use Rattle.tx_records.specs.declared.record.Record.{Record}
use Rattle.tx_records.specs.GenesisLimits as genesis_limits
use Rattle.tx_records.specs.RecordLimits.{is_within_limits}
use Rattle.run_model.specs.Genesis.{genesis_fault, world_of_genesis}
use Rattle.run_model.specs.Runs.{IsReached}
use Rattle.run_model.specs.SoundWorld.{IsSoundWorld}
use Rattle.run_model.specs.Step.{step}
use Rattle.run_model.specs.World.{World}
use Rattle.checkpoint_model.specs.Resumable.{has_form}
use Rattle.formed_laws.specs.Records.{is_formed, is_formed_genesis}
use Rattle.formed_laws.specs.Worlds.{keeps_form}

-- a genesis that has the form and breaks no rule gives a World that has it, with what is frozen
abbrev pub GenesisHasForm : Type 0
GenesisHasForm = (g : Genesis) → genesis_limits.is_within_limits g ≡ true → genesis_fault g ≡ None → is_formed_genesis g ≡ true →
    keeps_form (world_of_genesis g) ≡ true

-- each record that has the form leaves it to a sound World, with what is frozen
abbrev pub RecordsKeepForm : Type 0
RecordsKeepForm = (w : World) (r : Record) → IsSoundWorld w → keeps_form w ≡ true → is_within_limits r ≡ true → is_formed r ≡ true →
    keeps_form (step w r).0 ≡ true

-- every World that records of the form reach has the form
abbrev pub ReachedHasForm : Type 0
ReachedHasForm = (w : World) (reached : IsReached w) → is_formed_genesis reached.genesis ≡ true → list_all is_formed reached.records ≡ true →
    has_form w ≡ true
