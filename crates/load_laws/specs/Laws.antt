-- Laws of benchmark streams. (Own)
use Rattle.std.specs.Prelude.{◌≡◌, ℕ, ◌≤◌, List, ◌∷◌, None, length}
use Rattle.load_model.specs.Stream.{bytes_of_load}
use Rattle.load_options.specs.declared.command.TheConstants.{MOST_ACCOUNTS, MOST_EPOCHS}
use Rattle.record_stream.specs.Records.{records_of}
use Rattle.run_model.specs.Genesis.{genesis_fault}
use Rattle.tx_records.specs.declared.genesis.Genesis.{Genesis}
use Rattle.tx_records.specs.declared.limits.TheConstants.{STREAM_LIMIT}
use Rattle.tx_records.specs.declared.record.Reading.{Reading}
use Rattle.tx_records.specs.declared.record.Reading.TheVariants.{Read}
use Rattle.tx_records.specs.declared.record.Record.TheVariants as records

-- the first record is on the first line and is a genesis that breaks no rule
pub record BeginWell (rs : List (ℕ × Reading)) : Type 0 where
  pub genesis : Genesis
  pub others : List (ℕ × Reading)
  pub start : rs ≡ (1, Read (records.Genesis genesis)) ∷ others
  pub no_fault : genesis_fault genesis ≡ None

-- the records of a benchmark stream begin so, for all its parameters
abbrev pub StreamsBeginWell : Type 0
StreamsBeginWell = (seed accounts epochs : ℕ) → BeginWell (records_of (bytes_of_load seed accounts epochs))

-- a stream that `load` may ask for is within the limit of streams
abbrev pub StreamsAreShort : Type 0
StreamsAreShort = (seed accounts epochs : ℕ) → accounts ≤ MOST_ACCOUNTS → epochs ≤ MOST_EPOCHS
    → length (bytes_of_load seed accounts epochs) ≤ STREAM_LIMIT
