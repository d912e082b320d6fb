-- Laws of explanations, whatever their bytes are. (Own)
use Rattle.std.specs.Prelude.{◌≡◌, ◌⊎◌, ◌≤◌, ℕ, List, [], Option, Some, None, Result, Ok, Err, length}
use Rattle.std.specs.Io.KnownBytes.{append_known}
use Rattle.explain_print.specs.of_explain_model.Explained.{explained_of_readings}
use Rattle.explain_print.specs.of_explain_model.of_record_notes.Lines.{Noted, notes_of}
use Rattle.explain_print.specs.of_explain_model.of_record_notes.of_record_stream.Records.{records_of}
use Rattle.line_runs.specs.Runs.{IsRunOf, played_over}
use Rattle.line_runs.specs.declared.fault.RunFault.TheVariants as faults
use Rattle.replay_loop.specs.Runs.{start_fault}
use Rattle.replay_loop.specs.Statuses.{ReplayFault}
use Rattle.replay_loop.specs.declared.status.GenesisCause.{GenesisCause}
use Rattle.tx_records.specs.declared.limits.TheConstants.{STREAM_LIMIT}
use Rattle.explain_loop.specs.Plays.{explain_run}

-- the text of a run over what was read is all that is wrong with it; behind a first reading that
-- gave no World it is only what is wrong with that
abbrev pub TextIsExplained : Type 0
TextIsExplained = (rs : List (ℕ × Noted)) → (played_over explain_run rs).text ≡ explained_of_readings rs

-- no byte is left, and the whole text was written
pub record IsWhole (bytes : List ℕ) (left had has : Option (List ℕ)) : Type 0 where
  pub read : left ≡ Some []
  pub wrote : has ≡ append_known had (explained_of_readings (notes_of bytes))

-- a run that is done wrote all that is wrong with its stream
abbrev pub DoneExplainIsWhole : Type 0
DoneExplainIsWhole = (bytes : List ℕ) (left had has : Option (List ℕ)) → IsRunOf explain_run bytes left had has (Ok tt) → IsWhole bytes left had has

-- the stream begins with no genesis without fault, for this cause, and the whole text was written
pub record IsStoppedWhole (bytes : List ℕ) (cause : GenesisCause) (had has : Option (List ℕ)) : Type 0 where
  pub fault : start_fault (records_of bytes) ≡ Some cause
  pub wrote : has ≡ append_known had (explained_of_readings (notes_of bytes))

-- so did one that stops, which is where what was read first is no genesis to begin with
abbrev pub StoppedExplainIsWhole : Type 0
StoppedExplainIsWhole =
    (bytes : List ℕ) (left had has : Option (List ℕ)) (cause : GenesisCause) → IsRunOf explain_run bytes left had has (Err (faults.Stop cause)) → IsStoppedWhole bytes cause had has

-- over a stream within its limit that begins with a genesis without fault, only a fault of source
-- or sink or too little memory stops a run
abbrev pub ExplainIsComplete : Type 0
ExplainIsComplete =
    (bytes : List ℕ) (left had has : Option (List ℕ)) (result : Result (Unit {0}) ReplayFault)
    → start_fault (records_of bytes) ≡ None → length bytes ≤ STREAM_LIMIT → IsRunOf explain_run bytes left had has result
    → (¬ (result ≡ Err faults.ReadFault)) → (¬ (result ≡ Err faults.WriteFault)) → (result ≡ Ok tt) ⊎ (result ≡ Err faults.NoMemory)
