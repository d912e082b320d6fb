-- Laws of resumed runs, over bytes. (Own)
use Rattle.std.specs.Prelude.{◌≡◌, ◌⊎◌, ℕ, ◌+◌, ◌≤◌, ◌^◌, ◌++◌, List, [], Option, Some, Ok, Err, length, option_map}
use Rattle.std.specs.Io.KnownBytes.{append_known}
use Rattle.byte_lines.specs.Pieces.{open_of}
use Rattle.checkpoint_model.specs.Checkpoint.{checkpoint_lines, checkpoint_text}
use Rattle.checkpoint_model.specs.Resumable.{IsResumable}
use Rattle.checkpoint_model.specs.Resumed.{text_of_resume}
use Rattle.line_giver.specs.OfList.{whole_lines}
use Rattle.line_runs.specs.declared.fault.RunFault.TheVariants as faults
use Rattle.record_stream.specs.Records.{records_from}
use Rattle.resume_loop.specs.of_replay_loop.Runs.{text_of_run}
use Rattle.run_model.specs.World.{World}
use Rattle.stream_laws.specs.Laws.{world_of_bytes}
use Rattle.text_forms.specs.Lines.{joined_lines}
use Rattle.text_model.specs.Words.{Text}
use Rattle.tx_records.specs.declared.limits.TheConstants.{STREAM_LIMIT}
use Rattle.tx_records.specs.declared.record.Reading.{Reading}
use Rattle.resume_loop.specs.Heads.{IsCheckpointOf}
use Rattle.resume_loop.specs.Plays.{ResumeResult}
use Rattle.resume_loop.specs.Resumed.{IsResumed, lines_in}

-- how many lines bytes have: blank, refused and long ones count
abbrev pub line_count : List ℕ → ℕ
line_count bytes = length (lines_in bytes)

-- the records of bytes whose lines have the numbers after a line
abbrev pub records_after : ℕ → List ℕ → List (ℕ × Reading)
records_after line bytes = records_from (line + 1) (lines_in bytes)

-- the run over bytes that end with a line feed and then over more bytes writes what the run over
-- the first writes, and then what a resume of their World writes of the others
abbrev pub RunIsResumed : Type 0
RunIsResumed = (a b : List ℕ) (w : World) → open_of a ≡ [] → world_of_bytes a ≡ Some w
    → text_of_run (a ++ b) ≡ option_map (λ t. t ++ text_of_resume w (records_after (line_count a) b)) (text_of_run a)

-- the World that a stream within its limit leaves is resumable, after as many lines as it has
abbrev pub RunLeavesCheckpoint : Type 0
RunLeavesCheckpoint = (a : List ℕ) (w : World) → length a ≤ STREAM_LIMIT → world_of_bytes a ≡ Some w
    → IsCheckpointOf (whole_lines (joined_lines (checkpoint_lines w (line_count a)))) w (line_count a)

-- no byte is left, and this text was written
pub record HasWritten (text : Text) (left had has : Option (List ℕ)) : Type 0 where
  pub read : left ≡ Some []
  pub wrote : has ≡ append_known had text

-- the lines of bytes are those of a checkpoint of a World after a line, then those of more bytes
abbrev pub Resumes : List ℕ → World → ℕ → List ℕ → Type 0
Resumes bytes w line more = lines_in bytes ≡ whole_lines (joined_lines (checkpoint_lines w line)) ++ lines_in more

-- the text of a checkpoint, and more bytes behind it, are such bytes
abbrev pub CheckpointIsCut : Type 0
CheckpointIsCut = (w : World) (line : ℕ) (more : List ℕ) → IsResumable w → line ≤ 2 ^ 48 → Resumes (checkpoint_text w line ++ more) w line more

-- a resume of them that is done wrote what a resume of that World writes of the others
abbrev pub DoneResumeIsWhole : Type 0
DoneResumeIsWhole = (bytes : List ℕ) (w : World) (line : ℕ) (more : List ℕ) (left had has : Option (List ℕ)) → IsResumable w → line ≤ 2 ^ 48
    → Resumes bytes w line more → IsResumed bytes left had has (Ok tt) → HasWritten (text_of_resume w (records_after line more)) left had has

-- no byte is left, and a text was written that the run over all bytes, first ones and more, writes
-- after the text of the first ones
pub record HasWrittenRest (a b : List ℕ) (left had has : Option (List ℕ)) : Type 0 where
  pub text : Text
  pub written : HasWritten text left had has
  pub rest : text_of_run (a ++ b) ≡ option_map (λ t. t ++ text) (text_of_run a)

-- bytes that end with a line feed leave a World; a resume of its checkpoint and of more bytes that
-- is done wrote the rest of the text of all
abbrev pub CutRunIsWhole : Type 0
CutRunIsWhole = (a b : List ℕ) (w : World) (left had has : Option (List ℕ)) → open_of a ≡ [] → length a ≤ STREAM_LIMIT → world_of_bytes a ≡ Some w
    → IsResumed (checkpoint_text w (line_count a) ++ b) left had has (Ok tt) → HasWrittenRest a b left had has

-- over a checkpoint and more, within the limit of a stream, only a fault or too little memory
-- stops a resume
abbrev pub ResumeIsComplete : Type 0
ResumeIsComplete = (bytes : List ℕ) (w : World) (line : ℕ) (more : List ℕ) (left had has : Option (List ℕ)) (result : ResumeResult) → IsResumable w → line ≤ 2 ^ 48
    → Resumes bytes w line more → length bytes ≤ STREAM_LIMIT → IsResumed bytes left had has result
    → (¬ (result ≡ Err faults.ReadFault)) → (¬ (result ≡ Err faults.WriteFault)) → (result ≡ Ok tt) ⊎ (result ≡ Err faults.NoMemory)
