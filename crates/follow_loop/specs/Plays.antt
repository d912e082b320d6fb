-- What `follow` does with the records of its stream. (Own)
use Rattle.std.specs.Prelude.{ℕ, List, [], ◌∷◌, Option, Some, None, Result, Ok, Err, codes}
use Rattle.ledger_model.specs.Supply.{pots_of}
use Rattle.line_runs.specs.Plays.{Goes, Play, Stops, Turn}
use Rattle.line_runs.specs.Runs.{Run}
use Rattle.run_model.specs.Genesis.{genesis_fault, world_of_genesis}
use Rattle.run_model.specs.World.{World}
use Rattle.text_model.specs.Replies.{pots_words}
use Rattle.text_model.specs.Runs.{text_of_lines}
use Rattle.tx_records.specs.declared.genesis.Genesis.{Genesis}
use Rattle.tx_records.specs.declared.genesis.GenesisRule.{GenesisRule}
use Rattle.tx_records.specs.declared.limits.TheConstants.{LINE_LIMIT, STREAM_LIMIT}
use Rattle.tx_records.specs.declared.record.Record.TheVariants as records
use Rattle.replay_loop.specs.declared.status.GenesisCause.{GenesisCause}
use Rattle.replay_loop.specs.declared.status.GenesisCause.TheVariants as causes
use Rattle.follow_records.specs.declared.record.FollowReading.{FollowReading}
use Rattle.follow_records.specs.declared.record.FollowReading.TheVariants.{Read, Malformed, TooLong}
use Rattle.follow_records.specs.declared.record.FollowRecord.TheVariants.{Plain}
use Rattle.follow_model.specs.Chain.{Chain, no_records}
use Rattle.follow_model.specs.FollowLines.{chain_after_reading, follow_reading_lines}
use Rattle.follow_loop.specs.Readings.{follow_reading_of_line}

-- where a followed stream is: the World of its genesis, and its chain
pub record Position : Type 0 where
  pub start : World
  pub chain : Chain

-- ---- the start

-- the genesis, by the first genesis rule that it breaks
abbrev pub genesis_by : Option GenesisRule → Genesis → Result Genesis GenesisCause
genesis_by (Some rule) g = Err (causes.Broken rule)
genesis_by None g = Ok g

-- the genesis to begin with, if what was read first is one
abbrev pub genesis_read : FollowReading → Result Genesis GenesisCause
genesis_read TooLong = Err causes.TooLong
genesis_read (Malformed field place) = Err (causes.Malformed field place)
genesis_read (Read (Plain (records.Genesis g))) = genesis_by (genesis_fault g) g
genesis_read (Read _) = Err causes.NoGenesis

-- the position after a genesis
abbrev pub begun : Genesis → Position
begun g = record { start = world_of_genesis g; chain = no_records }

-- the text of a genesis: its pots
abbrev pub genesis_text : ℕ → Genesis → List ℕ
genesis_text n g = text_of_lines n (pots_words (codes "genesis") (pots_of (world_of_genesis g).ledger) ∷ [])

-- ---- the command

-- the position after a reading
abbrev pub after_reading : Position → FollowReading → Position
after_reading p r = record p { chain = chain_after_reading p.start p.chain r }

-- what it does first, or the cause for which it stops
abbrev pub first_turn : ℕ → Result Genesis GenesisCause → Turn (Option Position) GenesisCause
first_turn n (Ok g) = Goes (Some (begun g)) (genesis_text n g)
first_turn n (Err cause) = Stops cause

-- what it does with a reading
abbrev pub follow_turn : Option Position → ℕ → FollowReading → Turn (Option Position) GenesisCause
follow_turn None n r = first_turn n (genesis_read r)
follow_turn (Some p) n r = Goes (Some (after_reading p r)) (text_of_lines n (follow_reading_lines p.start p.chain r))

-- what it does at the end: nothing, if there was a genesis
abbrev pub follow_last : Option Position → Turn (Unit {0}) GenesisCause
follow_last None = Stops causes.Missing
follow_last (Some p) = Goes tt []

-- the command `follow`
abbrev pub follow_play : Play FollowReading (Option Position) GenesisCause
follow_play = record { says = follow_reading_of_line; turn = follow_turn; last = λ s n. follow_last s }

-- from the first line on
abbrev pub follow_run : Run FollowReading (Option Position) GenesisCause
follow_run = record { play = follow_play; first = None; passed = 0; line_max = LINE_LIMIT; stream_max = STREAM_LIMIT }
