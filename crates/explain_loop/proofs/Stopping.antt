-- A run that stops told all that is wrong with its stream.
use Rattle.std.proofs.Common.{◌≡◌, ◌∙◌, ◌+◌, ℕ, List, [], ◌∷◌, ◌++◌, Option, Some, None, Result, Ok, Err, ap, inl, inr, length, refl, sym}
use Rattle.std.specs.Io.KnownBytes.{append_known}
use Rattle.byte_lines.specs.Laws.{LinesAddUp}
use Rattle.byte_lines.specs.Pieces.{lines_of, open_of, whole_of}
use Rattle.explain_print.specs.of_explain_model.of_record_notes.Laws.{NotesAreOfRecords, readings_of}
use Rattle.explain_print.specs.of_explain_model.of_record_notes.Lines.{Noted, noted_of_line, notes_of}
use Rattle.explain_print.specs.of_explain_model.Explained.{explained_behind, explained_of_readings, first_lines}
use Rattle.line_runs.specs.Plays.{records_from}
use Rattle.line_runs.specs.Runs.{IsStopped}
use Rattle.line_runs.proofs.Fronts.{records_both}
use Rattle.run_model.specs.World.{World}
use Rattle.text_model.specs.Runs.{text_of_lines}
use Rattle.tx_records.specs.declared.limits.TheConstants.{LINE_LIMIT}
use Rattle.replay_loop.specs.Plays.{first_answered}
use Rattle.replay_loop.specs.Runs.{reading_fault, start_fault}
use Rattle.replay_loop.specs.declared.outcome.Outcome.{Outcome}
use Rattle.replay_loop.specs.declared.status.GenesisCause.{GenesisCause}
use Rattle.replay_loop.specs.declared.status.GenesisCause.TheVariants as causes
use Rattle.replay_loop.proofs.Played.{FirstBy, read_first}
use Rattle.replay_loop.proofs.Texts.{all_came}
use Rattle.explain_loop.specs.Laws.{StoppedExplainIsWhole}
use Rattle.explain_loop.specs.Plays.{explain_run}
use Rattle.explain_loop.proofs.Explaining.{Comes, IsStart, bad_start, ended_text, first_world, stop_start, text_is_explained, world_in}

-- behind a first reading that gave no World nothing more is told
none_behind : (a : Result (World × Outcome) GenesisCause) (fault : Option GenesisCause) (cause : GenesisCause) (rs more : List (ℕ × Noted)) → FirstBy a fault → fault ≡ Some cause
    → explained_behind (world_in a) (rs ++ more) ≡ explained_behind (world_in a) rs
none_behind (Ok p) fault cause rs more first is = let both : None ≡ Some cause = sym first ∙ is in cc
none_behind (Err c) fault cause rs more first is = refl

nothing_more : (rs more : List (ℕ × Noted)) (cause : GenesisCause) → IsStart (start_fault (readings_of rs)) cause → explained_of_readings (rs ++ more) ≡ explained_of_readings rs
nothing_more [] more cause is = let same : Some causes.Missing ≡ Some cause = is.0 in absurd (is.1 (let e : cause ≡ causes.Missing = cc in e))
nothing_more ((n, r) ∷ rs) more cause is =
    let told : List ℕ = text_of_lines n (first_lines r) in
    ap (λ (o : Option World). told ++ explained_behind o (rs ++ more)) (first_world n r.reading)
    ∙ ap (λ (t : List ℕ). told ++ t) (none_behind (first_answered r.reading) (reading_fault r.reading) cause rs more (read_first r.reading) is.0)
    ∙ ap (λ (o : Option World). told ++ explained_behind o rs) (sym (first_world n r.reading))

module _ (law : LinesAddUp) (bytes : List ℕ) where
  all_told : (came rest written : List ℕ) (cause : GenesisCause) → bytes ≡ came ++ rest → IsStopped explain_run cause came rest written → written ≡ explained_of_readings (notes_of bytes)
  all_told came rest written cause cut (inl stopped) =
      let rs : List (ℕ × Noted) = notes_of (whole_of came) in
      let later : List (Option (List ℕ)) = lines_of LINE_LIMIT (open_of came ++ rest) in
      let more : List (ℕ × Noted) = records_from noted_of_line (1 + length (lines_of LINE_LIMIT (whole_of came))) later in
      let all : notes_of (came ++ rest) ≡ rs ++ more =
      ap (λ (ls : List (Option (List ℕ))). records_from noted_of_line 1 ls) (law LINE_LIMIT came rest)
      ∙ records_both noted_of_line 1 (lines_of LINE_LIMIT (whole_of came)) later in
      sym (ap (λ (x : Comes). x.text) stopped)
      ∙ text_is_explained rs
      ∙ sym (nothing_more rs more cause (stop_start rs written cause stopped))
      ∙ sym (ap (λ (xs : List (ℕ × Noted)). explained_of_readings xs) all)
      ∙ sym (ap (λ (xs : List ℕ). explained_of_readings (notes_of xs)) cut)
  all_told came rest written cause cut (inr (none, stopped)) =
      ended_text (length (lines_of LINE_LIMIT came)) (notes_of came) written (Err cause) stopped
      ∙ ap (λ (xs : List ℕ). explained_of_readings (notes_of xs)) (sym (all_came law bytes came rest cut none))

pub stopped_is_whole : LinesAddUp → NotesAreOfRecords → StoppedExplainIsWhole
stopped_is_whole law same bytes left had has cause run = record {
  fault = bad_start law same bytes run.came run.rest run.written cause run.cut run.ending;
  wrote = run.wrote ∙ ap (λ (t : List ℕ). append_known had t) (all_told law bytes run.came run.rest run.written cause run.cut run.ending);
}
