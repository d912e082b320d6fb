-- Laws of followed streams, whatever their bytes are. (Own)
use Rattle.std.specs.Prelude.{◌≡◌, ◌⊎◌, ◌≤◌, ℕ, List, [], ◌∷◌, Option, Some, None, Result, Ok, Err, fold, length, unwrap_or}
use Rattle.std.specs.Io.KnownBytes.{append_known}
use Rattle.line_runs.specs.Runs.{IsRunOf, played_over}
use Rattle.line_runs.specs.declared.fault.RunFault.TheVariants as faults
use Rattle.run_model.specs.Genesis.{genesis_fault}
use Rattle.run_model.specs.World.{World}
use Rattle.text_model.specs.Words.{Text}
use Rattle.tx_records.specs.declared.genesis.Genesis.{Genesis}
use Rattle.tx_records.specs.declared.limits.TheConstants.{STREAM_LIMIT}
use Rattle.tx_records.specs.declared.record.Record.TheVariants as records
use Rattle.replay_loop.specs.Statuses.{ReplayFault}
use Rattle.follow_records.specs.declared.record.FollowReading.{FollowReading}
use Rattle.follow_records.specs.declared.record.FollowReading.TheVariants.{Read}
use Rattle.follow_records.specs.declared.record.FollowRecord.TheVariants.{Plain}
use Rattle.follow_model.specs.Chain.{Chain}
use Rattle.follow_model.specs.Follow.{chain_after_all}
use Rattle.follow_model.specs.FollowLines.{chain_after_reading, follow_of_readings}
use Rattle.follow_model.specs.Laws.{IsFollowed}
use Rattle.follow_loop.specs.Plays.{follow_run}
use Rattle.follow_loop.specs.Readings.{follow_readings_of, records_read}

-- ---- the text

-- no byte is left, and the whole text of the followed stream was written
pub record IsWhole (bytes : List ℕ) (left had has : Option (List ℕ)) : Type 0 where
  pub read : left ≡ Some []
  pub text : Text
  pub is : follow_of_readings (follow_readings_of bytes) ≡ Some text
  pub wrote : has ≡ append_known had text

-- a run that is done wrote the text of its stream
abbrev pub DoneFollowIsWhole : Type 0
DoneFollowIsWhole = (bytes : List ℕ) (left had has : Option (List ℕ)) → IsRunOf follow_run bytes left had has (Ok tt) → IsWhole bytes left had has

-- the text of a run over what was read is that of a followed stream, nothing if there is none
abbrev pub TextIsFollowed : Type 0
TextIsFollowed = (rs : List (ℕ × FollowReading)) → (played_over follow_run rs).text ≡ unwrap_or (follow_of_readings rs) []

-- over a stream within its limit that has a text, only a fault or too little memory stops a run
abbrev pub FollowIsComplete : Type 0
FollowIsComplete =
    (bytes : List ℕ) (text : Text) (left had has : Option (List ℕ)) (result : Result (Unit {0}) ReplayFault)
    → follow_of_readings (follow_readings_of bytes) ≡ Some text → length bytes ≤ STREAM_LIMIT → IsRunOf follow_run bytes left had has result
    → (¬ (result ≡ Err faults.ReadFault)) → (¬ (result ≡ Err faults.WriteFault)) → (result ≡ Ok tt) ⊎ (result ≡ Err faults.NoMemory)

-- ---- the ledger

-- the chain after what was read
abbrev pub chain_after_readings : World → Chain → List (ℕ × FollowReading) → Chain
chain_after_readings start c rs = fold (λ (d : Chain) (r : ℕ × FollowReading). chain_after_reading start d r.1) c rs

-- it is the chain after the records that were read
abbrev pub ReadingsLeaveChain : Type 0
ReadingsLeaveChain = (start : World) (c : Chain) (rs : List (ℕ × FollowReading)) → chain_after_readings start c rs ≡ chain_after_all start c (records_read rs)

-- whatever the bytes are, what follows a genesis without a broken rule can be followed: the laws of
-- followed streams hold of it
abbrev pub LinesAreFollowed : Type 0
LinesAreFollowed =
    (bytes : List ℕ) (n : ℕ) (g : Genesis) (rs : List (ℕ × FollowReading))
    → follow_readings_of bytes ≡ (n, Read (Plain (records.Genesis g))) ∷ rs → genesis_fault g ≡ None → IsFollowed g (records_read rs)
