-- What the commands tell that write at their end alone, and how their runs end. (Own)
use Rattle.std.specs.Prelude.{◌≡◌, ℕ, List, [], Option, Some, Result, length}
use Rattle.std.specs.Io.KnownBytes.{append_known}
use Rattle.byte_lines.specs.Pieces.{lines_of}
use Rattle.checkpoint_model.specs.Checkpoint.{checkpoint_lines}
use Rattle.checkpoint_model.specs.Resumed.{checkpoint_of_readings}
use Rattle.line_runs.specs.Runs.{IsRunOf}
use Rattle.outlook_model.specs.Outlook.{outlook_lines, outlook_of_readings}
use Rattle.record_stream.specs.Records.{records_of}
use Rattle.shortfall_model.specs.ShortLines.{shortfall_lines, shortfall_of_readings}
use Rattle.text_model.specs.Words.{Text}
use Rattle.tx_records.specs.declared.limits.TheConstants.{LINE_LIMIT}
use Rattle.tx_records.specs.declared.record.Reading.{Reading}
use Rattle.replay_loop.specs.declared.status.Status.{Status}
use Rattle.replay_loop.specs.declared.status.Status.TheVariants as statuses
use Rattle.replay_loop.specs.Plays.{Telling, last_told, run_of}
use Rattle.replay_loop.specs.Statuses.{ReplayFault, status_by}

-- nothing of a record, and at the end what the frozen proposals of the last World lack
abbrev pub short_told : Telling (Unit {0})
short_told = last_told (λ w n. shortfall_lines w.frozen)

-- nothing of a record, and at the end the tallies of the next two boundaries
abbrev pub outlook_told : Telling (Unit {0})
outlook_told = last_told (λ w n. outlook_lines w)

-- nothing of a record, and at the end the last World, after so many lines
abbrev pub checkpoint_told : Telling (Unit {0})
checkpoint_told = last_told checkpoint_lines

-- how a run that tells so ended, if its source gave its bytes, by its status
pub record IsToldRun (told : Telling (Unit {0})) (status : Status) (bytes : List ℕ) (left had has : Option (List ℕ)) : Type 0 where
  pub ended : Result (Unit {0}) ReplayFault
  pub is : status ≡ status_by ended
  pub run : IsRunOf (run_of told tt) bytes left had has ended

-- no byte is left, and the whole text of the records was written
pub record IsWhole (text_of : List (ℕ × Reading) → Option Text) (bytes : List ℕ) (left had has : Option (List ℕ)) : Type 0 where
  pub read : left ≡ Some []
  pub text : Text
  pub is : text_of (records_of bytes) ≡ Some text
  pub wrote : has ≡ append_known had text

-- a run that is done wrote what the frozen proposals lack after the records of all its bytes
abbrev pub DoneShortfallIsWhole : Type 0
DoneShortfallIsWhole = (bytes : List ℕ) (left had has : Option (List ℕ)) → IsToldRun short_told statuses.Done bytes left had has
    → IsWhole shortfall_of_readings bytes left had has

-- or the tallies of the two boundaries after them
abbrev pub DoneOutlookIsWhole : Type 0
DoneOutlookIsWhole = (bytes : List ℕ) (left had has : Option (List ℕ)) → IsToldRun outlook_told statuses.Done bytes left had has
    → IsWhole outlook_of_readings bytes left had has

-- or the checkpoint after them, with the number of its lines: blank, refused and long ones count
abbrev pub DoneCheckpointIsWhole : Type 0
DoneCheckpointIsWhole = (bytes : List ℕ) (left had has : Option (List ℕ)) → IsToldRun checkpoint_told statuses.Done bytes left had has
    → IsWhole (checkpoint_of_readings (length (lines_of LINE_LIMIT bytes))) bytes left had has
