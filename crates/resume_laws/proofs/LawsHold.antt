-- A run that is cut in two and resumed.
use Rattle.std.proofs.Common.{◌≡◌, ◌⊎◌, ℕ, ◌+◌, ◌<◌, ◌≤◌, ◌==◌, ◌^◌, Bool, true, false, List, [], ◌∷◌, ◌++◌, Option, Some, Ok, Err, ap, append_assoc, arith, cond, drop, inl, inr, length, refl, subst, sym, ◌∙◌}
use Rattle.std.specs.Io.KnownBytes.{append_known}
use Rattle.std.proofs.lemmas.Bool.{false≢true}
use Rattle.std.proofs.lemmas.List.{append-nil, length-append, length-map}
use Rattle.byte_lines.specs.Laws.{CutsInTwo, LinesAddUp}
use Rattle.byte_lines.specs.Pieces.{kept, line_feed, open_of, pieces_of, whole_of, with_first}
use Rattle.checkpoint_model.specs.Checkpoint.{checkpoint_lines, checkpoint_text}
use Rattle.checkpoint_model.specs.Laws.{ReplayIsResumed}
use Rattle.checkpoint_model.specs.Resumable.{IsResumable}
use Rattle.checkpoint_model.specs.Resumed.{text_of_resume}
use Rattle.ended_lines.specs.Ended.{has_end, up_to_end}
use Rattle.ended_lines.proofs.Passing.{front_of_text}
use Rattle.line_runs.specs.Plays.{Played}
use Rattle.line_runs.specs.Runs.{IsStopped}
use Rattle.line_runs.specs.declared.fault.RunFault.TheVariants as faults
use Rattle.line_runs.proofs.Fronts.{records_both}
use Rattle.record_stream.specs.Records.{reading_of_line, records_from, records_of}
use Rattle.run_model.specs.World.{World}
use Rattle.stream_laws.specs.Laws.{BytesAreResumable}
use Rattle.text_forms.specs.Lines.{joined_lines}
use Rattle.text_model.specs.Runs.{text_of_readings}
use Rattle.text_model.specs.Words.{Text}
use Rattle.tx_records.specs.declared.limits.TheConstants.{LINE_LIMIT, STREAM_LIMIT}
use Rattle.tx_records.specs.declared.record.Reading.{Reading}
use Rattle.resume_loop.specs.Heads.{IsCheckpointOf}
use Rattle.resume_laws.specs.Laws.{CheckpointIsCut, CutRunIsWhole, HasWritten, Resumes, RunIsResumed, RunLeavesCheckpoint, line_count, records_after}
use Rattle.resume_loop.specs.Plays.{ResumeResult, Resumed, resumed_run}
use Rattle.resume_loop.specs.Resumed.{GoesOn, IsRefused, IsResumed, lines_in}
use Rattle.resume_loop.specs.declared.fault.NoCheckpoint.{NoCheckpoint}
use Rattle.resume_loop.proofs.Ends.{ends_once, has_first, lines_of_checkpoint}
use Rattle.resume_loop.proofs.Played.{resumed_in, resumed_to_end}

-- ---- the text

-- bytes that end with a line feed are their whole lines
whole_bytes : CutsInTwo → (a : List ℕ) → open_of a ≡ [] → whole_of a ≡ a
whole_bytes law a none = sym (append-nil (whole_of a)) ∙ ap (λ (t : List ℕ). whole_of a ++ t) (sym none) ∙ (law a).0

-- their lines, and then those of more bytes
lines_both : LinesAddUp → CutsInTwo → (a b : List ℕ) → open_of a ≡ [] → lines_in (a ++ b) ≡ lines_in a ++ lines_in b
lines_both adds cuts a b none =
    adds LINE_LIMIT a b
    ∙ ap (λ (x : List ℕ). lines_in x ++ lines_in (open_of a ++ b)) (whole_bytes cuts a none)
    ∙ ap (λ (x : List ℕ). lines_in a ++ lines_in (x ++ b)) none

-- their records, and then those of the others
records_then : LinesAddUp → CutsInTwo → (a b : List ℕ) → open_of a ≡ [] → records_of (a ++ b) ≡ records_of a ++ records_after (line_count a) b
records_then adds cuts a b none =
    ap (λ (ls : List (Option Text)). records_from 1 ls) (lines_both adds cuts a b none)
    ∙ records_both reading_of_line 1 (lines_in a) (lines_in b)
    ∙ (let same : 1 + length (lines_in a) ≡ line_count a + 1 = omega arith in ap (λ (n : ℕ). records_of a ++ records_from n (lines_in b)) same)

pub run_is_resumed : LinesAddUp → CutsInTwo → ReplayIsResumed → RunIsResumed
run_is_resumed adds cuts law a b w none is =
    ap (λ (rs : List (ℕ × Reading)). text_of_readings rs) (records_then adds cuts a b none) ∙ law (records_of a) (records_after (line_count a) b) w is

-- ---- the checkpoint

-- there are no more lines than bytes
first_few : (b : ℕ) (ps : List (List ℕ)) → length (with_first b ps) ≤ 1 + length ps
first_few b [] = omega arith
first_few b (p ∷ ps) = omega arith

few_by : (c : Bool) (b : ℕ) (ps : List (List ℕ)) (n : ℕ) → length ps ≤ n → length (cond c ([] ∷ ps) (with_first b ps)) ≤ 1 + n
few_by true b ps n few = omega (arith, few)
few_by false b ps n few = omega (arith, few, first_few b ps)

pieces_few : (bytes : List ℕ) → length (pieces_of bytes) ≤ length bytes
pieces_few [] = omega arith
pieces_few (b ∷ bs) = omega (arith, few_by (b == line_feed) b (pieces_of bs) (length bs) (pieces_few bs))

lines_few : (bytes : List ℕ) → line_count bytes ≤ length bytes
lines_few bytes = let same = length-map (pieces_of bytes) (kept LINE_LIMIT) in omega (arith, same, pieces_few bytes)

pub run_leaves_checkpoint : BytesAreResumable → RunLeavesCheckpoint
run_leaves_checkpoint law a w short is = record {
  texts = joined_lines (checkpoint_lines w (line_count a));
  whole = refl;
  is = record { sound = law a w short is; within = omega (arith, lines_few a, short); text = refl };
}

-- ---- a resume

is_checkpoint : (w : World) (line : ℕ) → IsResumable w → line ≤ 2 ^ 48 → IsCheckpointOf (lines_of_checkpoint w line) w line
is_checkpoint w line sound within = record { texts = joined_lines (checkpoint_lines w line); whole = refl; is = record { sound = sound; within = within; text = refl } }

-- two texts that begin the same lines are the same
same_text : (head later text more : List (Option Text)) → head ++ later ≡ text ++ more → up_to_end head ≡ head → has_end head ≡ true → up_to_end text ≡ text → has_end text ≡ true → head ≡ text
same_text head later text more same front ended front' ended' =
    sym (front_of_text head later front ended) ∙ ap up_to_end same ∙ front_of_text text more front' ended'

-- behind the same lines the same follow
drop_front : (head later : List (Option Text)) → drop (length head) (head ++ later) ≡ later
drop_front [] later = refl
drop_front (l ∷ ls) later = drop_front ls later

-- the bytes that came are all of them
all_came : (bytes came rest : List ℕ) → bytes ≡ came ++ rest → rest ≡ [] → came ≡ bytes
all_came bytes came rest cut none = sym (cut ∙ ap (λ (x : List ℕ). came ++ x) none ∙ append-nil came)

-- a run that is done, with its text
abbrev done : List ℕ → Played (Unit {0}) NoCheckpoint
done text = record { text = text; stand = Ok tt }

ended_by : (text written : List ℕ) → done text ≡ done written → text ≡ written
ended_by text written e = ap (λ (x : Played (Unit {0}) NoCheckpoint). x.text) e

-- what goes on has not stopped
not_both : {A : Type 0} (a : A) (cause : NoCheckpoint) → Ok a ≡ Err cause → ⊥
not_both a cause e = cc

not_over : (bytes came rest : List ℕ) → bytes ≡ came ++ rest → length bytes ≤ STREAM_LIMIT → STREAM_LIMIT < length came → ⊥
not_over bytes came rest cut short over = let e : length bytes ≡ length came + length rest = ap length cut ∙ length-append came rest in omega (arith, e, short, over)

module _ (bytes : List ℕ) (w : World) (line : ℕ) (more : List ℕ) (sound : IsResumable w) (within : line ≤ 2 ^ 48) (lines : Resumes bytes w line more) where
  abbrev ck : List (Option Text)
  ck = lines_of_checkpoint w line

  -- a text at the beginning is the checkpoint
  is_ck : (head later : List (Option Text)) → lines_in bytes ≡ head ++ later → up_to_end head ≡ head → has_end head ≡ true → head ≡ ck
  is_ck head later first front ended = same_text head later ck (lines_in more) (sym first ∙ lines) front ended (ends_once w line).front (ends_once w line).ended

  later_is : (head later : List (Option Text)) → lines_in bytes ≡ head ++ later → head ≡ ck → drop (length head) (lines_in bytes) ≡ lines_in more
  later_is head later first is =
      ap (λ (h : List (Option Text)). drop (length h) (lines_in bytes)) is
      ∙ ap (λ (ls : List (Option Text)). drop (length ck) ls) lines
      ∙ drop_front ck (lines_in more)

  module _ (left had has : Option (List ℕ)) where
    -- it is that World and that line
    at_ck : {result : ResumeResult} (h : GoesOn bytes left had has result) → (w ≡ h.world) × (line ≡ h.line)
    at_ck h = h.only w line (subst (λ (ls : List (Option Text)). IsCheckpointOf ls w line) (sym (is_ck h.head h.later h.first h.front h.ended)) (is_checkpoint w line sound within))

    done_by : GoesOn bytes left had has (Ok tt) → HasWritten (text_of_resume w (records_after line more)) left had has
    done_by h =
        let came : h.run.came ≡ bytes = all_came bytes h.run.came h.run.rest h.run.cut h.run.ending.read in
        let same = at_ck h in
        let text : text_of_resume w (records_after line more) ≡ h.run.written =
        ap (λ (ls : List (Option Text)). text_of_resume w (records_from (line + 1) ls)) (sym (later_is h.head h.later h.first (is_ck h.head h.later h.first h.front h.ended)))
        ∙ ap (λ (x : World × ℕ). text_of_resume x.0 (records_from (x.1 + 1) (drop (length h.head) (lines_in bytes)))) (ap (λ (v : World). (v, line)) same.0 ∙ ap (λ (l : ℕ). (h.world, l)) same.1)
        ∙ ap (λ (x : List ℕ). text_of_resume h.world (records_from (h.line + 1) (drop (length h.head) (lines_in x)))) (sym came)
        ∙ ended_by _ h.run.written (sym (resumed_to_end (length h.head) h.world h.line h.run.came) ∙ h.run.ending.text) in
        record {
          read = h.run.told ∙ ap Some h.run.ending.read;
          wrote = h.run.wrote ∙ ap (λ (t : List ℕ). append_known had t) (sym text);
        }

    pub done_is_whole : IsResumed bytes left had has (Ok tt) → HasWritten (text_of_resume w (records_after line more)) left had has
    done_is_whole (inl h) = done_by h
    done_is_whole (inr h) = absurd h.ending

    -- no record stops it
    never_stops : (passed : ℕ) (v : World) (l : ℕ) (came rest written : List ℕ) (cause : NoCheckpoint) → IsStopped (resumed_run passed v l) cause came rest written → ⊥
    never_stops passed v l came rest written cause (inl h) =
        not_both _ cause (ap (λ (x : Played Resumed NoCheckpoint). x.stand) (sym (resumed_in passed v l (whole_of came)) ∙ h))
    never_stops passed v l came rest written cause (inr h) =
        not_both tt cause (ap (λ (x : Played (Unit {0}) NoCheckpoint). x.stand) (sym (resumed_to_end passed v l came) ∙ h.1))

    -- nor are its first lines no checkpoint
    not_refused : LinesAddUp → (came rest : List ℕ) → bytes ≡ came ++ rest → IsRefused came rest → ⊥
    not_refused adds came rest cut h = by_end (has_end h.head) refl
      where
        first_by : (lines_in (whole_of came) ≡ h.head ++ h.later) ⊎ ((rest ≡ []) × (lines_in came ≡ h.head ++ h.later)) → (later : List (Option Text)) × (lines_in bytes ≡ h.head ++ later)
        first_by (inl e) = (
          h.later ++ lines_in (open_of came ++ rest),
          ap (λ (x : List ℕ). lines_in x) cut ∙ adds LINE_LIMIT came rest ∙ ap (λ (ls : List (Option Text)). ls ++ lines_in (open_of came ++ rest)) e
              ∙ append_assoc h.head h.later (lines_in (open_of came ++ rest)),
        )
        first_by (inr e) = (h.later, ap (λ (x : List ℕ). lines_in x) (sym (all_came bytes came rest cut e.0)) ∙ e.1)

        by_end : (b : Bool) → has_end h.head ≡ b → ⊥
        by_end true ended =
            let f = first_by h.first in
            h.none w line (subst (λ (ls : List (Option Text)). IsCheckpointOf ls w line) (sym (is_ck h.head f.0 f.1 h.front ended)) (is_checkpoint w line sound within))
        by_end false none =
            let t = h.through none in
            let all : h.head ≡ ck ++ lines_in more = sym t.1 ∙ ap (λ (x : List ℕ). lines_in x) (all_came bytes came rest cut t.0) ∙ lines in
            false≢true (sym none ∙ ap has_end all ∙ has_first ck (lines_in more) (ends_once w line).ended)

    pub complete : LinesAddUp → length bytes ≤ STREAM_LIMIT → (result : ResumeResult) → IsResumed bytes left had has result → (¬ (result ≡ Err faults.ReadFault)) → (¬ (result ≡ Err faults.WriteFault))
        → (result ≡ Ok tt) ⊎ (result ≡ Err faults.NoMemory)
    complete adds short (Ok done) h no_read no_write = inl refl
    complete adds short (Err faults.NoMemory) h no_read no_write = inr refl
    complete adds short (Err faults.ReadFault) h no_read no_write = absurd (no_read refl)
    complete adds short (Err faults.WriteFault) h no_read no_write = absurd (no_write refl)
    complete adds short (Err (faults.Stop cause)) (inl h) no_read no_write = absurd (never_stops (length h.head) h.world h.line h.run.came h.run.rest h.run.written cause h.run.ending)
    complete adds short (Err (faults.Stop cause)) (inr h) no_read no_write = absurd (not_refused adds h.came h.rest h.cut h.ending)
    complete adds short (Err faults.TooMuch) (inl h) no_read no_write = absurd (not_over bytes h.run.came h.run.rest h.run.cut short (h.run.too_much.0 refl))
    complete adds short (Err faults.TooMuch) (inr h) no_read no_write = absurd (not_over bytes h.came h.rest h.cut short (h.too_much.0 refl))

-- ---- a run that is cut, from its bytes to what a resume writes

pub cut_run_is_whole : RunIsResumed → RunLeavesCheckpoint → CheckpointIsCut → CutRunIsWhole
cut_run_is_whole resumed leaves cut a b w left had has ends short e run =
    let c = leaves a w short e in
    record {
      text = text_of_resume w (records_after (line_count a) b);
      written = done_is_whole (checkpoint_text w (line_count a) ++ b) w (line_count a) b c.is.sound c.is.within (cut w (line_count a) b c.is.sound c.is.within) left had has run;
      rest = resumed a b w ends e;
    }
