-- What a command that tells lines at its end alone tells of a run is the lines of its last World.
use Rattle.std.proofs.Common.{◌≡◌, ℕ, List, [], ◌∷◌, ◌++◌, Option, Some, None, Result, Ok, Err, length, refl, ap, sym, subst, ◌∙◌}
use Rattle.std.specs.Prelude.{fold, option_map}
use Rattle.std.proofs.lemmas.List.{append-nil}
use Rattle.byte_lines.specs.Pieces.{lines_of}
use Rattle.line_runs.specs.Plays.{Played, after_turn, ended, with_record}
use Rattle.line_runs.specs.Runs.{IsRunOf, played_over}
use Rattle.line_runs.specs.declared.fault.RunFault.TheVariants as faults
use Rattle.checkpoint_model.specs.Checkpoint.{checkpoint_lines}
use Rattle.outlook_model.specs.Outlook.{outlook_lines}
use Rattle.record_stream.specs.Records.{records_of}
use Rattle.run_model.specs.Genesis.{genesis_fault, world_of_genesis}
use Rattle.run_model.specs.World.{World}
use Rattle.shortfall_model.specs.ShortLines.{shortfall_lines}
use Rattle.text_forms.specs.Lines.{text_of_bare}
use Rattle.text_forms.specs.Worlds.{world_after_readings, world_by, world_of_readings}
use Rattle.text_model.specs.Runs.{world_after_reading}
use Rattle.text_model.specs.Words.{Text}
use Rattle.tx_records.specs.declared.genesis.Genesis.{Genesis}
use Rattle.tx_records.specs.declared.genesis.GenesisRule.{GenesisRule}
use Rattle.tx_records.specs.declared.limits.TheConstants.{LINE_LIMIT}
use Rattle.tx_records.specs.declared.record.Reading.{Reading}
use Rattle.tx_records.specs.declared.record.Reading.TheVariants as readings
use Rattle.tx_records.specs.declared.record.Record.TheVariants as kinds
use Rattle.replay_loop.specs.declared.status.GenesisCause.{GenesisCause}
use Rattle.replay_loop.specs.declared.status.GenesisCause.TheVariants as causes
use Rattle.replay_loop.specs.declared.status.Status.TheVariants as statuses
use Rattle.replay_loop.specs.Lasts.{DoneCheckpointIsWhole, DoneOutlookIsWhole, DoneShortfallIsWhole, IsToldRun, IsWhole}
use Rattle.replay_loop.specs.Plays.{Stood, genesis_answered, last_told, play_of, run_of, turn_by}
use Rattle.replay_loop.specs.Runs.{start_fault}
use Rattle.replay_loop.specs.Statuses.{ReplayFault, status_by}
use Rattle.replay_loop.proofs.Played.{begun, done_begun}

pub ended_ok : (r : Result (Unit {0}) ReplayFault) → statuses.Done ≡ status_by r → r ≡ Ok tt
ended_ok (Ok done) is = refl
ended_ok (Err (faults.Stop cause)) is = cc
ended_ok (Err faults.ReadFault) is = cc
ended_ok (Err faults.WriteFault) is = cc
ended_ok (Err faults.NoMemory) is = cc
ended_ok (Err faults.TooMuch) is = cc

-- the records leave a World, and no text yet
record LeavesWorld (left : Option World) (x : Played (Stood (Unit {0})) GenesisCause) : Type 0 where
  pub last : World
  pub is : left ≡ Some last
  pub plays : x ≡ record { text = []; stand = Ok (record { state = Some last; kept = tt }) }

module _ (lines : World → ℕ → List (List Text)) where
  -- the text of such a command
  abbrev whole_of : ℕ → List (ℕ × Reading) → Option Text
  whole_of n rs = option_map (λ (w : World). text_of_bare (lines w n)) (world_of_readings rs)

  -- further records have no text
  goes_on : (w : World) (rs : List (ℕ × Reading))
      → fold (with_record (play_of (last_told lines))) (record { text = []; stand = Ok (record { state = Some w; kept = tt }) }) rs
      ≡ record { text = []; stand = Ok (record { state = Some (world_after_readings w rs); kept = tt }) }
  goes_on w [] = refl
  goes_on w ((n, r) ∷ rs) = goes_on (world_after_reading w r) rs

  by_rule : (found : Option GenesisRule) (n : ℕ) (g : Genesis) (rs : List (ℕ × Reading)) → option_map causes.Broken found ≡ None
      → LeavesWorld (world_by found g rs) (fold (with_record (play_of (last_told lines))) (after_turn [] (turn_by (last_told lines) tt n [] (genesis_answered found g))) rs)
  by_rule None n g rs good = record { last = world_after_readings (world_of_genesis g) rs; is = refl; plays = goes_on (world_of_genesis g) rs }
  by_rule (Some rule) n g rs good = cc

  leaves : (rs : List (ℕ × Reading)) → start_fault rs ≡ None → LeavesWorld (world_of_readings rs) (played_over (run_of (last_told lines) tt) rs)
  leaves [] good = cc
  leaves ((n, readings.Read (kinds.Genesis g)) ∷ rs) good = by_rule (genesis_fault g) n g rs good
  leaves ((n, readings.TooLong) ∷ rs) good = cc
  leaves ((n, readings.Malformed field place) ∷ rs) good = cc
  leaves ((n, readings.Read (kinds.Block slot pulse)) ∷ rs) good = cc
  leaves ((n, readings.Read (kinds.Rewards u)) ∷ rs) good = cc
  leaves ((n, readings.Read (kinds.Tx tx)) ∷ rs) good = cc
  leaves ((n, readings.Read (kinds.Print what)) ∷ rs) good = cc

  -- a run of these records that is done told all
  all_told : (rs : List (ℕ × Reading)) (n : ℕ) (text : List ℕ) → ended (play_of (last_told lines)) n (played_over (run_of (last_told lines) tt) rs) ≡ record { text = text; stand = Ok tt }
      → whole_of n rs ≡ Some text
  all_told rs n text done =
      let b = done_begun (last_told lines) tt (start_fault rs) n (played_over (run_of (last_told lines) tt) rs) text (begun (last_told lines) tt rs) done in
      let l = leaves rs b.start in
      ap (λ (o : Option World). option_map (λ (w : World). text_of_bare (lines w n)) o) l.is
      ∙ ap Some (ap (λ (x : Played (Unit {0}) GenesisCause). x.text) (sym (ap (λ (x : Played (Stood (Unit {0})) GenesisCause). ended (play_of (last_told lines)) n x) l.plays) ∙ done))

  done_is_whole : (bytes : List ℕ) (left had has : Option (List ℕ)) → IsToldRun (last_told lines) statuses.Done bytes left had has
      → IsWhole (whole_of (length (lines_of LINE_LIMIT bytes))) bytes left had has
  done_is_whole bytes left had has h =
      let run = subst (λ (r : Result (Unit {0}) ReplayFault). IsRunOf (run_of (last_told lines) tt) bytes left had has r) (ended_ok h.ended h.is) h.run in record {
        read = run.told ∙ ap Some run.ending.read;
        text = run.written;
        is =
            ap (λ (xs : List ℕ). whole_of (length (lines_of LINE_LIMIT xs)) (records_of xs)) (run.cut ∙ ap (λ (xs : List ℕ). run.came ++ xs) run.ending.read ∙ append-nil run.came)
            ∙ all_told (records_of run.came) (length (lines_of LINE_LIMIT run.came)) run.written run.ending.text;
        wrote = run.wrote;
      }

pub shortfall_is_whole : DoneShortfallIsWhole
shortfall_is_whole bytes left had has h = done_is_whole (λ w n. shortfall_lines w.frozen) bytes left had has h

pub outlook_is_whole : DoneOutlookIsWhole
outlook_is_whole bytes left had has h = done_is_whole (λ w n. outlook_lines w) bytes left had has h

pub checkpoint_is_whole : DoneCheckpointIsWhole
checkpoint_is_whole bytes left had has h = done_is_whole checkpoint_lines bytes left had has h
