-- How a run of `resume` may end, and what it has written then. (Own)
use Rattle.std.specs.Prelude.{◌≡◌, ◌⊎◌, ◌↔◌, ℕ, ◌<◌, ◌++◌, true, false, List, [], Option, Some, Ok, Err, length, ⊤}
use Rattle.byte_lines.specs.Pieces.{lines_of, whole_of}
use Rattle.byte_lines.specs.Reader.{heeded}
use Rattle.ended_lines.specs.Ended.{has_end, up_to_end}
use Rattle.line_runs.specs.Runs.{IsRunOf}
use Rattle.line_runs.specs.declared.fault.RunFault.TheVariants as faults
use Rattle.run_model.specs.World.{World}
use Rattle.text_model.specs.Words.{Text}
use Rattle.tx_records.specs.declared.limits.TheConstants.{LINE_LIMIT, STREAM_LIMIT}
use Rattle.resume_loop.specs.Heads.{IsCheckpointOf, IsNoCheckpointOf, IsOfNoOther}
use Rattle.resume_loop.specs.Plays.{ResumeResult, resumed_run}

-- the lines of bytes within the limits of records
abbrev pub lines_in : List ℕ → List (Option Text)
lines_in bytes = lines_of LINE_LIMIT bytes

-- the first lines are a checkpoint, up to and with the first `end`; the run goes on from its World,
-- and its lines have the numbers after the checkpoint's line
pub record GoesOn (bytes : List ℕ) (left had has : Option (List ℕ)) (result : ResumeResult) : Type 0 where
  pub head : List (Option Text)
  pub later : List (Option Text)
  pub first : lines_in bytes ≡ head ++ later
  pub front : up_to_end head ≡ head
  pub ended : has_end head ≡ true
  pub world : World
  pub line : ℕ
  pub is : IsCheckpointOf head world line
  pub only : IsOfNoOther head world line
  pub run : IsRunOf (resumed_run (length head) world line) bytes left had has result

-- the lines up to the first `end` are no checkpoint: that line was taken whole or, if no byte is
-- left,
-- at the end; or no byte is left, and none of all lines is `end`
pub record IsRefused (came rest : List ℕ) : Type 0 where
  pub head : List (Option Text)
  pub later : List (Option Text)
  pub first : (lines_in (whole_of came) ≡ head ++ later) ⊎ ((rest ≡ []) × (lines_in came ≡ head ++ later))
  pub front : up_to_end head ≡ head
  pub through : has_end head ≡ false → (rest ≡ []) × (lines_in came ≡ head)
  pub none : IsNoCheckpointOf head

-- what each result says of what came and is left, if there is no World to go on from
abbrev pub EndsBefore : List ℕ → List ℕ → ResumeResult → Type 0
EndsBefore came rest (Ok done) = ⊥
EndsBefore came rest (Err (faults.Stop cause)) = IsRefused came rest
-- no whole line that came is `end`
EndsBefore came rest (Err faults.ReadFault) = has_end (lines_in (whole_of came)) ≡ false
EndsBefore came rest (Err faults.TooMuch) = has_end (lines_in (whole_of (heeded STREAM_LIMIT came))) ≡ false
EndsBefore came rest (Err faults.WriteFault) = ⊥
EndsBefore came rest (Err faults.NoMemory) = ⊤

-- the run has not begun, and nothing was written
pub record HasNotBegun (bytes : List ℕ) (left had has : Option (List ℕ)) (result : ResumeResult) : Type 0 where
  pub came : List ℕ
  pub rest : List ℕ
  pub cut : bytes ≡ came ++ rest
  pub told : left ≡ Some rest
  pub nothing : has ≡ had
  pub ending : EndsBefore came rest result
  -- the result is TooMuch if and only if the stream went on past its limit
  pub too_much : (result ≡ Err faults.TooMuch) ↔ (STREAM_LIMIT < length came)

-- how a run of `resume` ended, if its source gave its bytes
abbrev pub IsResumed : List ℕ → Option (List ℕ) → Option (List ℕ) → Option (List ℕ) → ResumeResult → Type 0
IsResumed bytes left had has result = GoesOn bytes left had has result ⊎ HasNotBegun bytes left had has result
