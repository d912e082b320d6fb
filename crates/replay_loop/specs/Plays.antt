-- What a command does with the records of a ledger, by what it tells of each. (Own)
use Rattle.std.specs.Prelude.{ℕ, ◌++◌, List, [], Option, Some, None, Result, Ok, Err}
use Rattle.line_runs.specs.Plays.{Goes, Play, Stops, Turn}
use Rattle.line_runs.specs.Runs.{Run}
use Rattle.record_stream.specs.Records.{reading_of_line}
use Rattle.run_model.specs.Genesis.{genesis_fault, world_of_genesis}
use Rattle.run_model.specs.World.{World}
use Rattle.text_forms.specs.Lines.{text_of_bare}
use Rattle.text_model.specs.Runs.{world_after_reading}
use Rattle.text_model.specs.Words.{Text}
use Rattle.tx_records.specs.declared.genesis.Genesis.{Genesis}
use Rattle.tx_records.specs.declared.genesis.GenesisRule.{GenesisRule}
use Rattle.tx_records.specs.declared.limits.TheConstants.{LINE_LIMIT, STREAM_LIMIT}
use Rattle.tx_records.specs.declared.record.Reading.{Reading}
use Rattle.tx_records.specs.declared.record.Reading.TheVariants.{Malformed, Read, TooLong}
use Rattle.tx_records.specs.declared.record.Record.TheVariants as records
use Rattle.replay_loop.specs.declared.outcome.Outcome.{Outcome}
use Rattle.replay_loop.specs.declared.status.GenesisCause.{GenesisCause}
use Rattle.replay_loop.specs.declared.status.GenesisCause.TheVariants as causes
use Rattle.replay_loop.specs.Outcomes.{genesis_outcome, outcome_of}

-- ---- what is answered

-- to a genesis, by the first genesis rule that it breaks
abbrev pub genesis_answered : Option GenesisRule → Genesis → Result (World × Outcome) GenesisCause
genesis_answered (Some rule) g = Err (causes.Broken rule)
genesis_answered None g = Ok (world_of_genesis g, genesis_outcome g)

-- to what was read first
abbrev pub first_answered : Reading → Result (World × Outcome) GenesisCause
first_answered TooLong = Err causes.TooLong
first_answered (Malformed field place) = Err (causes.Malformed field place)
first_answered (Read (records.Genesis g)) = genesis_answered (genesis_fault g) g
first_answered (Read _) = Err causes.NoGenesis

-- to what was read, over the World before it, if there is one
abbrev pub answered : Option World → Reading → Result (World × Outcome) GenesisCause
answered None r = first_answered r
answered (Some w) r = Ok (world_after_reading w r, outcome_of w r)

-- ---- what it tells

-- a command tells texts, and keeps something from record to record
pub record Telling (Kept : Type 0) : Type 0 where
  -- the text ahead of a record, by the World before it and what was read of it
  pub aheads : Kept → World → Reading → Text
  -- what it keeps after a record of this line, by the World after it and its outcome
  pub keeps : Kept → ℕ → World → Outcome → Kept
  -- the text of that record
  pub tells : Kept → ℕ → World → Outcome → Text
  -- the text at the end, by the last World and the number of lines
  pub closes : Kept → World → ℕ → Text

-- nothing ahead of a record
abbrev pub nothing_ahead : {Kept : Type 0} → Kept → World → Reading → Text
nothing_ahead k w r = []

-- lines at the end alone, over the last World and the number of lines, themselves without numbers
abbrev pub last_told : (World → ℕ → List (List Text)) → Telling (Unit {0})
last_told lines = record { aheads = nothing_ahead; keeps = λ k n w o. tt; tells = λ k n w o. []; closes = λ k w n. text_of_bare (lines w n) }

-- the present World, if there is one, and what the command keeps
pub record Stood (Kept : Type 0) : Type 0 where
  pub state : Option World
  pub kept : Kept

module _ {Kept : Type 0} (t : Telling Kept) where
  -- what it tells before there is an answer; before the genesis nothing
  abbrev pub ahead_by : Kept → Option World → Reading → Text
  ahead_by k None r = []
  ahead_by k (Some w) r = t.aheads k w r

  -- what it does with an answer behind such a text, or the cause for which it stops
  abbrev pub turn_by : Kept → ℕ → Text → Result (World × Outcome) GenesisCause → Turn (Stood Kept) GenesisCause
  turn_by k n ahead (Ok (w, o)) = Goes (record { state = Some w; kept = t.keeps k n w o }) (ahead ++ t.tells k n w o)
  turn_by k n ahead (Err cause) = Stops cause

  -- what it does at the end; without a World there was no genesis
  abbrev pub last_by : Kept → ℕ → Option World → Turn (Unit {0}) GenesisCause
  last_by k n None = Stops causes.Missing
  last_by k n (Some w) = Goes tt (t.closes k w n)

  -- the command that tells so
  abbrev pub play_of : Play Reading (Stood Kept) GenesisCause
  play_of = record {
    says = reading_of_line;
    turn = λ s n r. turn_by s.kept n (ahead_by s.kept s.state r) (answered s.state r);
    last = λ s n. last_by s.kept n s.state;
  }

  -- from the first line on
  abbrev pub run_of : Kept → Run Reading (Stood Kept) GenesisCause
  run_of k = record { play = play_of; first = record { state = None; kept = k }; passed = 0; line_max = LINE_LIMIT; stream_max = STREAM_LIMIT }
