-- A command that only a fault of its sink or too little memory can stop. (Own)
use Rattle.std.specs.Prelude.{◌≡◌, ◌⊎◌, ℕ, ◌≤◌, ◌^◌, List, Option, Some, None, String, length}
use Rattle.std.specs.declared.alloc.Global.{Global}
use Rattle.byte_lines.specs.Faults.{Rose}
use Rattle.record_stream.specs.Records.{records_of}
use Rattle.tx_records.specs.declared.limits.TheConstants.{STREAM_LIMIT}
use Rattle.follow_loop.specs.Readings.{follow_readings_of}
use Rattle.follow_model.specs.FollowLines.{follow_of_readings}
use Rattle.replay_loop.specs.Runs.{start_fault}
use Rattle.resume_laws.specs.Laws.{Resumes}
use Rattle.checkpoint_model.specs.Resumable.{IsResumable}
use Rattle.run_model.specs.World.{World}
use Rattle.text_model.specs.Words.{Text}
use Rattle.command_runs.specs.Tasks.{IsCheckCommand, IsExplainCommand, IsFollowCommand, IsLoadCommand, IsResumeCommand, ReadsRecords}

-- the source held a stream within the limit that begins with a genesis to begin with; no read
-- failed
pub record IsGoodStream (left : Option (List ℕ)) (faults faults' : ℕ) : Type 0 where
  pub bytes : List ℕ
  pub told : left ≡ Some bytes
  pub start : start_fault (records_of bytes) ≡ None
  pub short : length bytes ≤ STREAM_LIMIT
  pub unfailing : ¬ Rose faults faults'

-- the source held a stream within the limit that, with rollbacks, has a text; no read failed
pub record IsGoodFollow (left : Option (List ℕ)) (faults faults' : ℕ) : Type 0 where
  pub bytes : List ℕ
  pub told : left ≡ Some bytes
  pub text : Text
  pub is : follow_of_readings (follow_readings_of bytes) ≡ Some text
  pub short : length bytes ≤ STREAM_LIMIT
  pub unfailing : ¬ Rose faults faults'

-- the source held a stream within the limit that begins with the lines of a checkpoint; no read
-- failed
pub record IsGoodResume (left : Option (List ℕ)) (faults faults' : ℕ) : Type 0 where
  pub bytes : List ℕ
  pub told : left ≡ Some bytes
  pub world : World
  pub line : ℕ
  pub more : List ℕ
  pub sound : IsResumable world
  pub within : line ≤ 2 ^ 48
  pub begins : Resumes bytes world line more
  pub short : length bytes ≤ STREAM_LIMIT
  pub unfailing : ¬ Rose faults faults'

-- the source held a stream within the limit; no read failed
pub record IsGoodCheck (left : Option (List ℕ)) (faults faults' : ℕ) : Type 0 where
  pub bytes : List ℕ
  pub told : left ≡ Some bytes
  pub short : length bytes ≤ STREAM_LIMIT
  pub unfailing : ¬ Rose faults faults'

-- the words are those of a command that reads such a stream, or of `load`
abbrev pub HasGoodInput : List (String Global) → Option (List ℕ) → ℕ → ℕ → Type 0
HasGoodInput words left faults faults' =
    (ReadsRecords words × IsGoodStream left faults faults') ⊎ (IsExplainCommand words × IsGoodStream left faults faults')
    ⊎ (IsFollowCommand words × IsGoodFollow left faults faults')
    ⊎ (IsResumeCommand words × IsGoodResume left faults faults') ⊎ (IsCheckCommand words × IsGoodCheck left faults faults') ⊎ IsLoadCommand words
