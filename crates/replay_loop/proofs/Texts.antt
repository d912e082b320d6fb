-- What a replay tells of a run is its text.
use Rattle.std.proofs.Common.{◌≡◌, ℕ, ◌+◌, ◌⊎◌, List, [], ◌∷◌, ◌++◌, Option, Some, None, Result, Ok, Err, length, refl, sym, ap, subst, ◌∙◌, append_assoc, arith, inl, inr}
use Rattle.std.specs.Prelude.{IsOk, fold, option_map, unwrap_or}
use Rattle.std.proofs.lemmas.List.{append-nil}
use Rattle.byte_lines.specs.Laws.{LinesAddUp}
use Rattle.byte_lines.specs.Pieces.{lines_of, open_of, whole_of}
use Rattle.byte_lines.specs.Reader.{heeded}
use Rattle.line_runs.specs.Batches.{IsFront}
use Rattle.line_runs.specs.Plays.{Played, after_turn, ended, records_from, with_record}
use Rattle.line_runs.specs.Runs.{BreaksAtEnd, BreaksAtLine, Run, IsPart, IsRunOf, IsStopped, StandFirst, ended_in, played_in, played_over}
use Rattle.line_runs.specs.declared.fault.RunFault.TheVariants as faults
use Rattle.line_runs.proofs.Fronts.{front_more, records_both, text_grows}
use Rattle.record_stream.specs.Come.{Begin}
use Rattle.record_stream.specs.Records.{reading_of_line, records_of}
use Rattle.run_model.specs.Genesis.{genesis_fault, world_of_genesis}
use Rattle.run_model.specs.World.{World}
use Rattle.text_model.specs.Runs.{text_from, text_of_genesis, text_of_lines, text_of_readings, world_after_reading}
use Rattle.text_model.specs.Words.{Text}
use Rattle.tx_records.specs.declared.genesis.GenesisRule.{GenesisRule}
use Rattle.tx_records.specs.declared.genesis.Genesis.{Genesis}
use Rattle.tx_records.specs.declared.limits.TheConstants.{LINE_LIMIT, STREAM_LIMIT}
use Rattle.tx_records.specs.declared.record.Reading.{Reading}
use Rattle.tx_records.specs.declared.record.Reading.TheVariants as readings
use Rattle.tx_records.specs.declared.record.Record.TheVariants as kinds
use Rattle.replay_loop.specs.declared.outcome.Outcome.{Outcome}
use Rattle.replay_loop.specs.declared.status.GenesisCause.{GenesisCause}
use Rattle.replay_loop.specs.declared.status.GenesisCause.TheVariants as causes
use Rattle.replay_loop.specs.Endings as endings
use Rattle.replay_loop.specs.Endings.{CutShort, IsDecided, IsMissingOnly, IsPartOfText, IsReplayed}
use Rattle.replay_loop.specs.Outcomes.{genesis_outcome, outcome_of, outcome_text}
use Rattle.replay_loop.specs.Plays.{Stood, first_answered, genesis_answered, last_by, play_of, run_of, turn_by}
use Rattle.replay_loop.specs.Runs.{start_fault, text_or_nothing, text_so_far}
use Rattle.replay_loop.specs.Statuses.{ReplayFault, status_by}
use Rattle.replay_loop.specs.Texts.{texts_told}
use Rattle.replay_loop.proofs.Lines.{lines_are}
use Rattle.replay_loop.proofs.Played.{begun, done_begun, end_begun, going_begun, started, stop_begun}

-- ---- the text of records

-- a command that has stopped tells nothing
silent : (cause : GenesisCause) (rs : List (ℕ × Reading)) → (fold (with_record (play_of texts_told)) (record { text = []; stand = Err cause }) rs).text ≡ []
silent cause [] = refl
silent cause (r ∷ rs) = silent cause rs

-- no text at the end
no_end : (n : ℕ) (text : List ℕ) (stand : Result (Stood (Unit {0})) GenesisCause) → (ended (play_of texts_told) n (record { text = text; stand = stand })).text ≡ text
no_end n text (Err cause) = refl
no_end n text (Ok s) = no_last text s.state where
  no_last : (t : List ℕ) (state : Option World) → (after_turn t (last_by texts_told tt n state)).text ≡ t
  no_last t None = refl
  no_last t (Some w) = append-nil t

-- of further ones
from_is : (text : List ℕ) (w : World) (k : Unit {0}) (rs : List (ℕ × Reading))
    → (fold (with_record (play_of texts_told)) (record { text = text; stand = Ok (record { state = Some w; kept = k }) }) rs).text ≡ text ++ text_from w rs
from_is text w k [] = sym (append-nil text)
from_is text w k ((n, r) ∷ rs) =
    from_is (text ++ outcome_text n (world_after_reading w r) (outcome_of w r)) (world_after_reading w r) tt rs
    ∙ append_assoc text (outcome_text n (world_after_reading w r) (outcome_of w r)) (text_from (world_after_reading w r) rs)
    ∙ ap (λ (ls : List (List Text)). text ++ (text_of_lines n ls ++ text_from (world_after_reading w r) rs)) (lines_are w r)

abbrev text_by : List (ℕ × Reading) → List ℕ
text_by rs = (played_over (run_of texts_told tt) rs).text

pub record HasText (rs : List (ℕ × Reading)) (text : List ℕ) : Type 0 where
  pub so_far : text_so_far rs ≡ text
  pub all : start_fault rs ≡ None → text_of_readings rs ≡ Some text

by_rule : (found : Option GenesisRule) (n : ℕ) (g : Genesis) (rs : List (ℕ × Reading))
    → (unwrap_or (text_of_genesis n g found rs) [] ≡ (fold (with_record (play_of texts_told)) (after_turn [] (turn_by texts_told tt n [] (genesis_answered found g))) rs).text)
    × (option_map causes.Broken found ≡ None → text_of_genesis n g found rs ≡ Some ((fold (with_record (play_of texts_told)) (after_turn [] (turn_by texts_told tt n [] (genesis_answered found g))) rs).text))
by_rule (Some rule) n g rs = (sym (silent (causes.Broken rule) rs), λ e. cc)
by_rule None n g rs =
    let told = sym (from_is (outcome_text n (world_of_genesis g) (genesis_outcome g)) (world_of_genesis g) tt rs) in
    (told, λ e. ap Some told)

other_text : (n : ℕ) (r : Reading) (rs : List (ℕ × Reading)) (cause : GenesisCause) → first_answered r ≡ Err cause → [] ≡ text_by ((n, r) ∷ rs)
other_text n r rs cause is =
    sym (ap (λ (a : Result (World × Outcome) GenesisCause). (fold (with_record (play_of texts_told)) (after_turn [] (turn_by texts_told tt n [] a)) rs).text) is ∙ silent cause rs)

has_text : (rs : List (ℕ × Reading)) → HasText rs (text_by rs)
has_text [] = record { so_far = refl; all = λ e. cc }
has_text ((n, readings.Read (kinds.Genesis g)) ∷ rs) = let by = by_rule (genesis_fault g) n g rs in record { so_far = by.0; all = by.1 }
has_text ((n, readings.TooLong) ∷ rs) = record { so_far = other_text n readings.TooLong rs causes.TooLong refl; all = λ e. cc }
has_text ((n, readings.Malformed field place) ∷ rs) = record { so_far = other_text n (readings.Malformed field place) rs (causes.Malformed field place) refl; all = λ e. cc }
has_text ((n, readings.Read (kinds.Block slot pulse)) ∷ rs) = record { so_far = other_text n (readings.Read (kinds.Block slot pulse)) rs causes.NoGenesis refl; all = λ e. cc }
has_text ((n, readings.Read (kinds.Rewards u)) ∷ rs) = record { so_far = other_text n (readings.Read (kinds.Rewards u)) rs causes.NoGenesis refl; all = λ e. cc }
has_text ((n, readings.Read (kinds.Tx tx)) ∷ rs) = record { so_far = other_text n (readings.Read (kinds.Tx tx)) rs causes.NoGenesis refl; all = λ e. cc }
has_text ((n, readings.Read (kinds.Print what)) ∷ rs) = record { so_far = other_text n (readings.Read (kinds.Print what)) rs causes.NoGenesis refl; all = λ e. cc }

-- ---- the records of a stream that what came begins

bad_first : (rs more : List (ℕ × Reading)) (fault : Option GenesisCause) → (fault ≡ Some causes.Missing → ⊥) → start_fault rs ≡ fault → start_fault (rs ++ more) ≡ fault
bad_first [] more fault other is = absurd (other (sym is))
bad_first (r ∷ rs) more fault other is = is

whole_begins : LinesAddUp → (came rest : List ℕ) → Begin (records_of (whole_of came)) (records_of (came ++ rest))
whole_begins law came rest =
    let later = lines_of LINE_LIMIT (open_of came ++ rest) in (
      records_from reading_of_line (1 + length (lines_of LINE_LIMIT (whole_of came))) later,
      ap (λ (ls : List (Option (List ℕ))). records_from reading_of_line 1 ls) (law LINE_LIMIT came rest) ∙ records_both reading_of_line 1 (lines_of LINE_LIMIT (whole_of came)) later,
    )

-- ---- the endings

module _ (law : LinesAddUp) (bytes came rest : List ℕ) (cut : bytes ≡ came ++ rest) where
  abbrev run : Run Reading (Stood (Unit {0})) GenesisCause
  run = run_of texts_told tt

  pub all_came : rest ≡ [] → bytes ≡ came
  all_came none = cut ∙ ap (λ (xs : List ℕ). came ++ xs) none ∙ append-nil came

  -- a start that is decided is that of the stream
  pub start_of_whole : (fault : Option GenesisCause) → (fault ≡ Some causes.Missing → ⊥) → start_fault (records_of (whole_of came)) ≡ fault → start_fault (records_of bytes) ≡ fault
  start_of_whole fault other is =
      let b = whole_begins law came rest in
      ap (λ (xs : List ℕ). start_fault (records_of xs)) cut ∙ ap (λ (rs : List (ℕ × Reading)). start_fault rs) b.1 ∙ bad_first (records_of (whole_of came)) b.0 fault other is

  written_is : (xs : List ℕ) → text_or_nothing xs ≡ text_by (records_of xs)
  written_is xs = (has_text (records_of xs)).so_far

  finished : (written : List ℕ) → rest ≡ [] → ended_in run came ≡ record { text = written; stand = Ok tt } → endings.Finished bytes rest written
  finished written none done =
      let b = done_begun texts_told tt (start_fault (records_of came)) (length (lines_of LINE_LIMIT came)) (played_in run came) written (begun texts_told tt (records_of came)) done in record {
        read = none;
        text =
            ap (λ (xs : List ℕ). text_of_readings (records_of xs)) (all_came none)
            ∙ (has_text (records_of came)).all b.start
            ∙ ap Some (sym (b.all ∙ append-nil (text_by (records_of came))));
      }

  not_begun : (cause : GenesisCause) (written : List ℕ) → IsStopped run cause came rest written → endings.NotBegun cause bytes came rest written
  not_begun cause written (inl stopped) =
      let b = stop_begun texts_told tt (start_fault (records_of (whole_of came))) (played_in run (whole_of came)) written cause (begun texts_told tt (records_of (whole_of came))) stopped in record {
        fault = start_of_whole (Some cause) (λ e. b.1 (let same : Some cause ≡ Some causes.Missing = e in cc)) b.0;
        decided = inl (b.1, b.0);
        nothing = b.2;
      }
  not_begun cause written (inr (none, stopped)) =
      let b = end_begun texts_told tt (start_fault (records_of came)) (length (lines_of LINE_LIMIT came)) (played_in run came) written cause (begun texts_told tt (records_of came)) stopped in record {
        fault = ap (λ (xs : List ℕ). start_fault (records_of xs)) (all_came none) ∙ b.0;
        decided = inr (none, b.0);
        nothing = b.1;
      }

  part_of_text : (written : List ℕ) → IsPart run came rest written → IsPartOfText came rest written
  part_of_text written (inl front) = inl (subst (λ (t : List ℕ). endings.IsFront written t) (sym (written_is (whole_of came))) front)
  part_of_text written (inr (none, front)) = inr (none, subst (λ (t : List ℕ). endings.IsFront written t) (ended_text ∙ sym (written_is came)) front) where
    ended_text : (ended_in run came).text ≡ text_by (records_of came)
    ended_text = no_end (length (lines_of LINE_LIMIT came)) (text_by (records_of came)) (played_in run came).stand

-- whole lines that came, and why they are none to begin with
pub broken_off : (came written : List ℕ) (stand : Stood (Unit {0})) → played_in (run_of texts_told tt) (whole_of came) ≡ record { text = written; stand = Ok stand } → endings.BrokenOff came written
broken_off came written stand played = record {
  text = sym (ap (λ (x : Played (Stood (Unit {0})) GenesisCause). x.text) played) ∙ sym (has_text (records_of (whole_of came))).so_far;
  start = going_begun texts_told tt (start_fault (records_of (whole_of came))) (played_in (run_of texts_told tt) (whole_of came)) (begun texts_told tt (records_of (whole_of came)))
      (subst (λ (x : Played (Stood (Unit {0})) GenesisCause). IsOk x.stand) (sym played) refl);
}

-- ---- where writing broke off

-- the last of some records
last_of : (rs : List (ℕ × Reading)) → (rs ≡ []) ⊎ ((before : List (ℕ × Reading)) × (last : ℕ × Reading) × (rs ≡ before ++ last ∷ []))
last_of [] = inl refl
last_of (r ∷ rs) = elim (last_of rs) [
  | inl none ↦ inr ([], r, ap (λ (l : List (ℕ × Reading)). r ∷ l) none)
  | inr some ↦ inr (r ∷ some.0, some.1, ap (λ (l : List (ℕ × Reading)). r ∷ l) some.2)
]

ended_goes : (n : ℕ) (text : List ℕ) (stand : Result (Stood (Unit {0})) GenesisCause) → IsOk (ended (play_of texts_told) n (record { text = text; stand = stand })).stand → IsOk stand
ended_goes n text (Ok s) goes = refl
ended_goes n text (Err cause) goes = goes

going_start : (before : List (ℕ × Reading)) (last : ℕ × Reading) → IsOk (played_over (run_of texts_told tt) (before ++ last ∷ [])).stand → start_fault (before ++ last ∷ []) ≡ None
going_start before last goes =
    started before last (going_begun texts_told tt (start_fault (before ++ last ∷ [])) (played_over (run_of texts_told tt) (before ++ last ∷ [])) (begun texts_told tt (before ++ last ∷ [])) goes)

module _ (law : LinesAddUp) (bytes came rest : List ℕ) (cut : bytes ≡ came ++ rest) where
  start_by : (rs : List (ℕ × Reading)) → StandFirst (run_of texts_told tt) came rest rs → start_fault rs ≡ None → start_fault (records_of bytes) ≡ None
  start_by rs (inl b) good =
      start_of_whole law bytes came rest cut None (λ e. cc)
      (ap (λ (l : List (ℕ × Reading)). start_fault l) b.1 ∙ bad_first rs b.0 None (λ e. cc) good)
  start_by rs (inr b) good =
      ap (λ (xs : List ℕ). start_fault (records_of xs)) (all_came law bytes came rest cut b.0)
      ∙ ap (λ (l : List (ℕ × Reading)). start_fault l) b.2
      ∙ bad_first rs b.1 None (λ e. cc) good

  so_far : (rs : List (ℕ × Reading)) → text_so_far rs ≡ text_by rs
  so_far rs = (has_text rs).so_far

  cut_by : (written : List ℕ) → IsPart (run_of texts_told tt) came rest written → BreaksAtLine (run_of texts_told tt) came rest written ⊎ BreaksAtEnd (run_of texts_told tt) came rest written
      → CutShort bytes came rest written
  cut_by written part (inl place) = record {
    part = part_of_text law bytes came rest cut written part;
    answered = place.before;
    last = place.line;
    read = record { upto = place.read.upto; ahead = place.read.ahead; cut = place.read.cut; less = place.read.less; whole = place.read.whole; all = place.read.all };
    after = subst (λ (t : List ℕ). endings.IsFront t written) (sym (so_far place.before)) place.after;
    before = subst (λ (t : List ℕ). endings.IsFront written t) (sym (so_far (place.before ++ place.line ∷ []))) place.upto;
    start = start_by (place.before ++ place.line ∷ []) place.come (going_start place.before place.line place.goes);
  }
  cut_by written part (inr place) = elim (last_of (records_of came)) [
    | inl none ↦ absurd (
        let goes : IsOk (ended (play_of texts_told) (length (lines_of LINE_LIMIT came)) (played_over (run_of texts_told tt) [])).stand =
        subst (λ (l : List (ℕ × Reading)). IsOk (ended (play_of texts_told) (length (lines_of LINE_LIMIT came)) (played_over (run_of texts_told tt) l)).stand) none place.goes in cc)
    | inr some ↦
        let rs = some.0 ++ some.1 ∷ [] in
        let ended_is : (ended_in (run_of texts_told tt) came).text ≡ text_by (records_of came) =
        no_end (length (lines_of LINE_LIMIT came)) (text_by (records_of came)) (played_in (run_of texts_told tt) came).stand in
        let goes : IsOk (played_over (run_of texts_told tt) rs).stand =
        subst (λ (l : List (ℕ × Reading)). IsOk (played_over (run_of texts_told tt) l).stand) some.2
        (ended_goes (length (lines_of LINE_LIMIT came)) (text_by (records_of came)) (played_in (run_of texts_told tt) came).stand place.goes) in
        record {
          part = part_of_text law bytes came rest cut written part;
          answered = some.0;
          last = some.1;
          read = record { upto = came; ahead = []; cut = sym (append-nil came); less = omega arith; whole = inr place.read; all = sym some.2 };
          after = subst (λ (t : List ℕ). endings.IsFront t written) (sym (so_far some.0))
              (front_more (text_by some.0) (text_by rs) written (text_grows (play_of texts_told) (run_of texts_told tt).first some.0 (some.1 ∷ []))
              (subst (λ (l : List (ℕ × Reading)). IsFront (text_by l) written) some.2 place.after));
          before = subst (λ (t : List ℕ). endings.IsFront written t) (ended_is ∙ ap (λ (l : List (ℕ × Reading)). text_by l) some.2 ∙ sym (so_far rs)) place.upto;
          start = start_by rs (inr (place.read, [], some.2 ∙ sym (append-nil rs))) (going_start some.0 some.1 goes);
        }
  ]

-- a run that tells the texts is a replay
pub replayed : LinesAddUp → (bytes : List ℕ) (left had has : Option (List ℕ)) (result : Result (Unit {0}) ReplayFault) → IsRunOf (run_of texts_told tt) bytes left had has result
    → IsReplayed (status_by result) bytes left had has
replayed law bytes left had has (Ok done) h = record {
  come = record { came = h.came; rest = h.rest; cut = h.cut; told = h.told };
  written = h.written;
  wrote = h.wrote;
  ending = finished law bytes h.came h.rest h.cut h.written h.ending.read h.ending.text;
  too_much = (λ e. cc, λ over. let e = h.too_much.1 over in cc);
}
replayed law bytes left had has (Err (faults.Stop cause)) h = record {
  come = record { came = h.came; rest = h.rest; cut = h.cut; told = h.told };
  written = h.written;
  wrote = h.wrote;
  ending = not_begun law bytes h.came h.rest h.cut cause h.written h.ending;
  too_much = (λ e. cc, λ over. let e = h.too_much.1 over in cc);
}
replayed law bytes left had has (Err faults.ReadFault) h = record {
  come = record { came = h.came; rest = h.rest; cut = h.cut; told = h.told };
  written = h.written;
  wrote = h.wrote;
  ending = broken_off h.came h.written h.ending.stand h.ending.text;
  too_much = (λ e. cc, λ over. let e = h.too_much.1 over in cc);
}
replayed law bytes left had has (Err faults.TooMuch) h = record {
  come = record { came = h.came; rest = h.rest; cut = h.cut; told = h.told };
  written = h.written;
  wrote = h.wrote;
  ending = broken_off (heeded STREAM_LIMIT h.came) h.written h.ending.stand h.ending.text;
  too_much = (λ e. h.too_much.0 refl, λ over. refl);
}
replayed law bytes left had has (Err faults.WriteFault) h = record {
  come = record { came = h.came; rest = h.rest; cut = h.cut; told = h.told };
  written = h.written;
  wrote = h.wrote;
  ending = cut_by law bytes h.came h.rest h.cut h.written h.ending.part h.ending.place;
  too_much = (λ e. cc, λ over. let e = h.too_much.1 over in cc);
}
replayed law bytes left had has (Err faults.NoMemory) h = record {
  come = record { came = h.came; rest = h.rest; cut = h.cut; told = h.told };
  written = h.written;
  wrote = h.wrote;
  ending = part_of_text law bytes h.came h.rest h.cut h.written h.ending;
  too_much = (λ e. cc, λ over. let e = h.too_much.1 over in cc);
}
