-- One turn of the loop: a way is made, a line is read, and the command takes it.
use Rattle.std.proofs.Common.{◌≡◌, ℕ, ◌<◌, ◌≤◌, true, List, [], ◌++◌, Option, Some, None, Ok, Err, refl, sym, ap, subst, ◌∙◌, arith}
use Rattle.std.proofs.lemmas.List.{append-nil}
use Rattle.std.specs.Prelude.{⊤}
use Rattle.byte_lines.specs.Answers.{Advances, IsAnswer, Passes, line_given}
use Rattle.byte_lines.specs.Laws.{BreakGivesWhole, EndGivesAll, GivesFirst, NothingBeyond}
use Rattle.byte_lines.specs.Pieces.{has_feed}
use Rattle.byte_lines.specs.Progress.{HasRead}
use Rattle.byte_lines.specs.Reader.{Reader}
use Rattle.byte_lines.specs.declared.lines.Line.{Line}
use Rattle.byte_lines.specs.declared.lines.Line.TheVariants.{End, TooLong, Whole}
use Rattle.byte_lines.specs.declared.lines.LineFault.{LineFault}
use Rattle.line_runs.specs.Batches.{Gathered}
use Rattle.line_runs.specs.Loop.{IsCleared, IsTaken, Leaves, Stands}
use Rattle.line_runs.specs.Runs.{Run}
use Rattle.line_runs.specs.Turns.{fault_of_line}
use Rattle.line_runs.specs.declared.fault.RunFault.{RunFault}
use Rattle.line_runs.proofs.Exits.{leaves_end, leaves_fault}
use Rattle.line_runs.proofs.Fronts.{front_self, took_none}
use Rattle.line_runs.proofs.Lines.{goes_line, leaves_line}
use Rattle.line_runs.proofs.Steps.{cleared}

not_above : (m n : ℕ) → (n < m → ⊥) → m ≤ n
not_above m n h = omega arith

-- a line came, so not too much did
pub not_over_at : (line : Line) (old new : Reader) → IsAnswer old new (Ok line) → new.taken ≤ new.stream_max
not_over_at line old new answer = not_above new.taken new.stream_max (λ over. let e = answer.too_much.1 over in cc)

module _ {Said Stand Cause : Type 0} (run : Run Said Stand Cause) (all : EndGivesAll) (whole : BreakGivesWhole) (first : GivesFirst) (beyond : NothingBeyond)
    (bytes : List ℕ) (given : List (Option (List ℕ))) (r : Reader) (left had : Option (List ℕ)) (before g : Gathered) (s : Stand) (stands : Stands run bytes given r left had before s)
    (way : IsCleared (has_feed r.ahead) before g) (new : Reader) (left' : Option (List ℕ)) (stays : has_feed r.ahead ≡ true → left' ≡ left) where
  -- no line came
  pub leaves_at_fault : (fault : LineFault)
      → ((xs : List (Option (List ℕ))) → HasRead bytes r left xs → HasRead bytes new left' (xs ++ line_given (Err fault) new))
      → Advances r new (Err fault) → IsAnswer r new (Err fault) → (has_feed r.ahead ≡ true → Passes r new (Err fault)) → Leaves run bytes left' had g (Err (fault_of_line fault))
  leaves_at_fault fault read advances answer passes =
      let state = cleared run first bytes given r left had before s stands g way in
      leaves_fault run first whole bytes given r left had g s state.0 new left' state.1 stays fault read advances answer passes

  within : (line : Line) → IsAnswer r new (Ok line) → new.taken ≤ new.stream_max
  within line answer = not_over_at line r new answer

  -- a line came, or the end, and the turn did not end well
  pub leaves_at_line : (line : Line) → ((xs : List (Option (List ℕ))) → HasRead bytes r left xs → HasRead bytes new left' (xs ++ line_given (Ok line) new))
      → Advances r new (Ok line) → IsAnswer r new (Ok line) → (holds : Stand → Type 0) (g' : Gathered) (fault : RunFault Cause) → IsTaken run.play holds s new line g g' (Err fault)
      → Leaves run bytes left' had g' (Err fault)
  leaves_at_line Whole read advances answer holds g' fault is =
      let state = cleared run first bytes given r left had before s stands g way in
      leaves_line run first bytes given r left had g s state.0 beyond new left' state.1 stays (Some new.text) (Ok Whole) refl refl (within Whole answer) read advances answer
      (run.play.says (Some new.text)) refl holds g' fault is
  leaves_at_line TooLong read advances answer holds g' fault is =
      let state = cleared run first bytes given r left had before s stands g way in
      leaves_line run first bytes given r left had g s state.0 beyond new left' state.1 stays None (Ok TooLong) refl refl (within TooLong answer) read advances answer
      (run.play.says None) refl holds g' fault is
  leaves_at_line End read advances answer holds g' fault is =
      let state = cleared run first bytes given r left had before s stands g way in
      leaves_end run first bytes given r left had g s state.0 new left' state.1 stays (Ok End) refl read advances answer all refl (λ _. ⊤) g' (Err fault) is

  -- it was the end
  pub leaves_at_end : (line : Line) → line ≡ End → ((xs : List (Option (List ℕ))) → HasRead bytes r left xs → HasRead bytes new left' (xs ++ line_given (Ok line) new))
      → Advances r new (Ok line) → IsAnswer r new (Ok line) → (holds : Stand → Type 0) (g' : Gathered) → IsTaken run.play holds s new line g g' (Ok tt) → Leaves run bytes left' had g' (Ok tt)
  leaves_at_end Whole end read advances answer holds g' is = cc
  leaves_at_end TooLong end read advances answer holds g' is = cc
  leaves_at_end End end read advances answer holds g' is =
      let state = cleared run first bytes given r left had before s stands g way in
      leaves_end run first bytes given r left had g s state.0 new left' state.1 stays (Ok End) refl read advances answer all refl (λ _. ⊤) g' (Ok tt) is

  -- it was none
  pub goes_at_line : (line : Line) → (line ≡ End → ⊥) → ((xs : List (Option (List ℕ))) → HasRead bytes r left xs → HasRead bytes new left' (xs ++ line_given (Ok line) new))
      → Advances r new (Ok line) → IsAnswer r new (Ok line) → (holds : Stand → Type 0) (g' : Gathered) → IsTaken run.play holds s new line g g' (Ok tt)
      → (t : Stand) × holds t × Stands run bytes given new left' had g' t
  goes_at_line Whole more read advances answer holds g' is =
      let state = cleared run first bytes given r left had before s stands g way in
      goes_line run first bytes given r left had g s state.0 beyond new left' state.1 stays (Some new.text) (Ok Whole) refl refl (within Whole answer) read advances answer
      (run.play.says (Some new.text)) refl holds g' is
  goes_at_line TooLong more read advances answer holds g' is =
      let state = cleared run first bytes given r left had before s stands g way in
      goes_line run first bytes given r left had g s state.0 beyond new left' state.1 stays None (Ok TooLong) refl refl (within TooLong answer) read advances answer
      (run.play.says None) refl holds g' is
  goes_at_line End more read advances answer holds g' is = absurd (more refl)

-- a reader that has not stopped has a first state
pub stands_first : {Said Stand Cause : Type 0} (run : Run Said Stand Cause) (bytes : List ℕ) (given : List (Option (List ℕ))) (r : Reader) (left had : Option (List ℕ)) (batch : List ℕ)
    → batch ≡ [] → HasRead bytes r left given → r.number ≡ run.passed → r.line_max ≡ run.line_max → r.stream_max ≡ run.stream_max → r.taken ≤ r.stream_max
    → Stands run bytes given r left had (record { taken = had; batch = batch }) run.first
stands_first run bytes given r left had batch empty read passed line_max stream_max within = record {
  more = [];
  read = subst (λ (xs : List (Option (List ℕ))). HasRead bytes r left xs) (sym (append-nil given)) read;
  passed = sym passed ∙ read.numbered;
  line_max = line_max;
  stream_max = stream_max;
  within = within;
  handed = [];
  took = took_none had;
  old = [];
  new = [];
  are = refl;
  goes = ap (λ (t : List ℕ). record { text = t; stand = Ok run.first }) (sym empty);
  before = front_self [];
  reads = λ c d cut told. tt;
}
