-- The records that remain of a stream after rollbacks, and the World that they leave. (Own)
use Rattle.std.specs.Prelude.{ℕ, ◌==◌, Bool, false, ◌&&◌, List, [], ◌∷◌, ◌++◌, filter_map, min, sum_by, if◌then◌else◌}
use Rattle.std.specs.List.{list_any}
use Rattle.tx_records.specs.declared.record.Record.{Record}
use Rattle.tx_records.specs.declared.record.Record.TheVariants as records
use Rattle.run_model.specs.of_gov_model.Snapshot.{entry_count}
use Rattle.run_model.specs.Runs.{pulse_in, world_after_all}
use Rattle.run_model.specs.Step.{epoch_at}
use Rattle.run_model.specs.World.{World}

-- the accepted records that remain, in order, and all ever accepted, also those taken back
pub record Chain : Type 0 where
  pub kept : List Record
  pub accepted : List Record

-- no record yet
abbrev pub no_records : Chain
no_records = record { kept = []; accepted = [] }

-- one more accepted record
abbrev pub with_record : Record → Chain → Chain
with_record r c = record { kept = c.kept ++ r ∷ []; accepted = c.accepted ++ r ∷ [] }

-- ---- the World

-- the count of the accepted blocks of the World's epoch:
-- the lesser of the number of entries and the sum of their pulses
abbrev pub counted_by : World → List Record → ℕ
counted_by w rs = min (entry_count w.frozen) (sum_by (λ n. n) (filter_map (pulse_in w) rs))

-- the World of the records that remain, with the count of all accepted blocks of its epoch,
-- also those taken back
abbrev pub world_of_chain : World → Chain → World
world_of_chain start c =
    let w : World = world_after_all start c.kept in
    record w { counted = counted_by w c.accepted }

-- ---- rollbacks

-- whether a record is a block of this slot
abbrev pub is_block_of : ℕ → Record → Bool
is_block_of slot (records.Block s pulse) = s == slot
is_block_of slot _ = false

-- whether a block of the World's epoch that remains has this slot
abbrev pub is_known_block : World → Chain → ℕ → Bool
is_known_block w c slot = epoch_at w.ledger slot == w.ledger.epoch && list_any (is_block_of slot) c.kept

-- the records up to the block of this slot
abbrev pub up_to_block : ℕ → List Record → List Record
up_to_block slot [] = []
up_to_block slot (r ∷ rs) = r ∷ (if is_block_of slot r then [] else up_to_block slot rs)

-- the chain without the records after the block of this slot
abbrev pub taken_back_to : ℕ → Chain → Chain
taken_back_to slot c = record c { kept = up_to_block slot c.kept }
