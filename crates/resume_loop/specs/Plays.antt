-- What the command `resume` does with the records after a checkpoint. (Own)
use Rattle.std.specs.Prelude.{ℕ, ◌+◌, ◌-◌, [], Result, Ok, Err}
use Rattle.line_runs.specs.Plays.{Goes, Play}
use Rattle.line_runs.specs.Runs.{Run}
use Rattle.line_runs.specs.declared.fault.RunFault.{RunFault}
use Rattle.line_runs.specs.declared.fault.RunFault.TheVariants as faults
use Rattle.record_stream.specs.Records.{reading_of_line}
use Rattle.replay_loop.specs.Statuses.{ReplayFault}
use Rattle.run_model.specs.World.{World}
use Rattle.text_model.specs.Runs.{reading_lines, text_of_lines, world_after_reading}
use Rattle.tx_records.specs.declared.limits.TheConstants.{LINE_LIMIT, STREAM_LIMIT}
use Rattle.tx_records.specs.declared.record.Reading.{Reading}
use Rattle.resume_loop.specs.declared.fault.NoCheckpoint.{NoCheckpoint}

-- the present World, how many lines the checkpoint has, and the line after which it was made
pub record Resumed : Type 0 where
  pub world : World
  pub passed : ℕ
  pub line : ℕ

-- it writes the text of each record, as a replay does; the first line behind the checkpoint has the
-- number after the line of the checkpoint; at the end nothing is written
abbrev pub resumed_play : Play Reading Resumed NoCheckpoint
resumed_play = record {
  says = reading_of_line;
  turn = λ s n r. Goes (record s { world = world_after_reading s.world r }) (text_of_lines ((n - s.passed) + s.line) (reading_lines s.world r));
  last = λ s n. Goes tt [];
}

-- from the World of the checkpoint on, behind its lines
abbrev pub resumed_run : ℕ → World → ℕ → Run Reading Resumed NoCheckpoint
resumed_run passed w line = record {
  play = resumed_play;
  first = record { world = w; passed = passed; line = line };
  passed = passed;
  line_max = LINE_LIMIT;
  stream_max = STREAM_LIMIT;
}

-- how a run of `resume` comes to its end, or why it does not
abbrev pub ResumeResult : Type 0
ResumeResult = Result (Unit {0}) (RunFault NoCheckpoint)

-- of the records: a resume has a World, so none of them stops it
abbrev pub resume_result : Result (Unit {0}) ReplayFault → ResumeResult
resume_result (Ok done) = Ok done
resume_result (Err (faults.Stop cause)) = Err (faults.Stop (record {}))
resume_result (Err faults.ReadFault) = Err faults.ReadFault
resume_result (Err faults.WriteFault) = Err faults.WriteFault
resume_result (Err faults.NoMemory) = Err faults.NoMemory
resume_result (Err faults.TooMuch) = Err faults.TooMuch
