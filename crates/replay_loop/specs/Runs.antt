-- The text of a whole run over bytes, and why there may be none. (Own)
use Rattle.std.specs.Prelude.{ℕ, List, [], ◌∷◌, Option, Some, option_map, unwrap_or}
use Rattle.run_model.specs.Genesis.{genesis_fault}
use Rattle.text_model.specs.Runs.{text_of_readings}
use Rattle.text_model.specs.Words.{Text}
use Rattle.tx_records.specs.declared.genesis.Genesis.{Genesis}
use Rattle.tx_records.specs.declared.record.Reading.{Reading}
use Rattle.tx_records.specs.declared.record.Reading.TheVariants.{Read, Malformed, TooLong}
use Rattle.tx_records.specs.declared.record.Record.TheVariants as records
use Rattle.replay_loop.specs.declared.status.GenesisCause.{GenesisCause}
use Rattle.replay_loop.specs.declared.status.GenesisCause.TheVariants as causes
use Rattle.record_stream.specs.Records.{records_of}

-- ---- the start

-- why a genesis gives no ledger, where it gives none
abbrev pub genesis_cause : Genesis → Option GenesisCause
genesis_cause g = option_map causes.Broken (genesis_fault g)

-- why what was read first is no genesis to begin with, where it is not
abbrev pub reading_fault : Reading → Option GenesisCause
reading_fault TooLong = Some causes.TooLong
reading_fault (Malformed field place) = Some (causes.Malformed field place)
reading_fault (Read (records.Genesis g)) = genesis_cause g
reading_fault (Read (records.Block slot pulse)) = Some causes.NoGenesis
reading_fault (Read (records.Rewards u)) = Some causes.NoGenesis
reading_fault (Read (records.Tx tx)) = Some causes.NoGenesis
reading_fault (Read (records.Print _)) = Some causes.NoGenesis

-- why a stream's first record is no genesis to begin with, where it is not
abbrev pub start_fault : List (ℕ × Reading) → Option GenesisCause
start_fault [] = Some causes.Missing
start_fault ((n, r) ∷ rs) = reading_fault r

-- ---- the text

-- the text of what was read, nothing where it has none
abbrev pub text_so_far : List (ℕ × Reading) → Text
text_so_far rs = unwrap_or (text_of_readings rs) []

-- the text of a run over these bytes
abbrev pub text_of_run : List ℕ → Option Text
text_of_run bytes = text_of_readings (records_of bytes)

-- the text of a run over these bytes, nothing where there is none
abbrev pub text_or_nothing : List ℕ → Text
text_or_nothing bytes = text_so_far (records_of bytes)
