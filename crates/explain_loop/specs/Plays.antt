-- What `explain` does with what is read of its stream. (Own)
use Rattle.std.specs.Prelude.{ℕ, [], Result, Ok, Err}
use Rattle.explain_print.specs.of_explain_model.Explained.{explained_lines, first_lines}
use Rattle.explain_print.specs.of_explain_model.of_record_notes.Lines.{Noted, noted_of_line}
use Rattle.line_runs.specs.Plays.{Goes, Play, Stops, Turn}
use Rattle.line_runs.specs.Runs.{Run}
use Rattle.replay_loop.specs.declared.outcome.Outcome.{Outcome}
use Rattle.replay_loop.specs.declared.status.GenesisCause.{GenesisCause}
use Rattle.replay_loop.specs.declared.status.GenesisCause.TheVariants as causes
use Rattle.replay_loop.specs.Plays.{first_answered}
use Rattle.run_model.specs.World.{World}
use Rattle.text_model.specs.Runs.{text_of_lines, world_after_reading}
use Rattle.tx_records.specs.declared.limits.TheConstants.{LINE_LIMIT, STREAM_LIMIT}

-- how far an explanation is: before any reading, over a World, or behind a first reading that
-- gave none
pub data Standing : Type 0 where
  Unbegun : Standing
  Over : World → Standing
  Failed : GenesisCause → Standing

-- behind the first reading, by the answer to it
abbrev pub begun : Result (World × Outcome) GenesisCause → Standing
begun (Ok (w, outcome)) = Over w
begun (Err cause) = Failed cause

-- it says what is wrong and goes on; where there is no World it stops at the next reading
abbrev pub explain_turn : Standing → ℕ → Noted → Turn Standing GenesisCause
explain_turn Unbegun n r = Goes (begun (first_answered r.reading)) (text_of_lines n (first_lines r))
explain_turn (Over w) n r = Goes (Over (world_after_reading w r.reading)) (text_of_lines n (explained_lines w r))
explain_turn (Failed cause) n r = Stops cause

-- or at the end
abbrev pub explain_last : Standing → Turn (Unit {0}) GenesisCause
explain_last Unbegun = Stops causes.Missing
explain_last (Over w) = Goes tt []
explain_last (Failed cause) = Stops cause

-- the command `explain`
abbrev pub explain_play : Play Noted Standing GenesisCause
explain_play = record { says = noted_of_line; turn = explain_turn; last = λ s n. explain_last s }

-- from the first line on
abbrev pub explain_run : Run Noted Standing GenesisCause
explain_run = record { play = explain_play; first = Unbegun; passed = 0; line_max = LINE_LIMIT; stream_max = STREAM_LIMIT }
