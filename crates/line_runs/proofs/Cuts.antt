-- Where writing broke off.
use Rattle.std.proofs.Common.{◌≡◌, ℕ, ◌⊎◌, List, [], ◌∷◌, ◌++◌, Err, length, sym, ap, subst, ◌∙◌, append_assoc, arith, inl, inr}
use Rattle.std.specs.Prelude.{IsOk}
use Rattle.std.proofs.lemmas.List.{append-nil}
use Rattle.std.proofs.lemmas.Bool.Decides.{leb_tells}
use Rattle.byte_lines.specs.Pieces.{lines_of, whole_of}
use Rattle.line_runs.specs.Batches.{IsFront}
use Rattle.line_runs.specs.Loop.{AreReadTo}
use Rattle.line_runs.specs.Plays.{Played, ended}
use Rattle.line_runs.specs.Runs.{BreaksAtLine, IsPart, IsStopped, ReadTo, Run, StandFirst, ended_in, played_over, records_in}
use Rattle.line_runs.proofs.Fronts.{end_grows, front_more, front_of_front, goes_before, stays_stopped, text_grows}

module _ {Said Stand Cause : Type 0} (run : Run Said Stand Cause) (came rest : List ℕ) where
  abbrev pub text_of : List (ℕ × Said) → List ℕ
  text_of rs = (played_over run rs).text

  -- less of what stands first
  pub stand_before : (records more : List (ℕ × Said)) → StandFirst run came rest (records ++ more) → StandFirst run came rest records
  stand_before records more (inl b) = inl (more ++ b.0, b.1 ∙ append_assoc records more b.0)
  stand_before records more (inr b) = inr (b.0, more ++ b.1, b.2 ∙ append_assoc records more b.1)

  -- at the line of one of these records, or after them all
  pub find : (old new : List (ℕ × Said)) (written all : List ℕ) → StandFirst run came rest (old ++ new) → AreReadTo run came rest old new → IsFront (text_of old) written → IsFront written all → IsFront (text_of (old ++ new)) all
      → IsOk (played_over run (old ++ new)).stand → BreaksAtLine run came rest written ⊎ IsFront (text_of (old ++ new)) written
  find old [] written all first reads after upto text goes = inr (subst (λ (rs : List (ℕ × Said)). IsFront (text_of rs) written) (sym (append-nil old)) after)
  find old (r ∷ rs) written all first reads after upto text goes =
      let same : (old ++ r ∷ []) ++ rs ≡ old ++ r ∷ rs = append_assoc old (r ∷ []) rs in
      let standing : StandFirst run came rest ((old ++ r ∷ []) ++ rs) = subst (λ (l : List (ℕ × Said)). StandFirst run came rest l) (sym same) first in
      let texts : IsFront (text_of ((old ++ r ∷ []) ++ rs)) all = subst (λ (l : List (ℕ × Said)). IsFront (text_of l) all) (sym same) text in
      let going : IsOk (played_over run ((old ++ r ∷ []) ++ rs)).stand = subst (λ (l : List (ℕ × Said)). IsOk (played_over run l).stand) (sym same) goes in
      let this : IsFront (text_of (old ++ r ∷ [])) all =
      front_more (text_of (old ++ r ∷ [])) (text_of ((old ++ r ∷ []) ++ rs)) all (text_grows run.play run.first (old ++ r ∷ []) rs) texts in
      elim (leb_tells (length written) (length (text_of (old ++ r ∷ [])))) [
        | inl e ↦ inl (record {
          before = old;
          line = r;
          come = stand_before (old ++ r ∷ []) rs standing;
          read = reads.0;
          after = after;
          upto = front_of_front written (text_of (old ++ r ∷ [])) all upto this e.1;
          goes = goes_before run.play run.first (old ++ r ∷ []) rs going;
        })
        | inr e ↦ subst (λ (l : List (ℕ × Said)). BreaksAtLine run came rest written ⊎ IsFront (text_of l) written) same
            (find (old ++ r ∷ []) rs written all standing reads.1 (front_of_front (text_of (old ++ r ∷ [])) written all this upto (omega (arith, e.1))) upto texts going)
      ]

  -- a record more
  pub read_more : (old new : List (ℕ × Said)) (r : ℕ × Said) → AreReadTo run came rest old new → ReadTo run came rest ((old ++ new) ++ r ∷ []) → AreReadTo run came rest old (new ++ r ∷ [])
  read_more old [] r reads read = (subst (λ (l : List (ℕ × Said)). ReadTo run came rest (l ++ r ∷ [])) (append-nil old) read, tt)
  read_more old (x ∷ new) r reads read = (
    reads.0,
    read_more (old ++ x ∷ []) new r reads.1
        (subst (λ (l : List (ℕ × Said)). ReadTo run came rest (l ++ r ∷ [])) (sym (append_assoc old (x ∷ []) new)) read),
  )

  -- ---- what stands first

  pub part_of : (records : List (ℕ × Said)) (written : List ℕ) → StandFirst run came rest records → IsFront written (text_of records) → IsPart run came rest written
  part_of records written (inl b) front =
      inl (front_more written (text_of records) (text_of (records_in run (whole_of came))) front
      (subst (λ (l : List (ℕ × Said)). IsFront (text_of records) (text_of l)) (sym b.1) (text_grows run.play run.first records b.0)))
  part_of records written (inr b) front = inr (
    b.0,
    front_more written (text_of (records_in run came)) (ended_in run came).text
        (front_more written (text_of records) (text_of (records_in run came)) front
        (subst (λ (l : List (ℕ × Said)). IsFront (text_of records) (text_of l)) (sym b.2) (text_grows run.play run.first records b.1)))
        (end_grows run.play (length (lines_of run.line_max came)) (played_over run (records_in run came))),
  )

  pub stopped_by : (records : List (ℕ × Said)) (written : List ℕ) (cause : Cause) → StandFirst run came rest records → played_over run records ≡ record { text = written; stand = Err cause }
      → IsStopped run cause came rest written
  stopped_by records written cause (inl b) stopped =
      inl (ap (λ (l : List (ℕ × Said)). played_over run l) b.1 ∙ stays_stopped run.play run.first written cause records b.0 stopped)
  stopped_by records written cause (inr b) stopped = inr (
    b.0,
    ap (λ (x : Played Stand Cause). ended run.play (length (lines_of run.line_max came)) x) (ap (λ (l : List (ℕ × Said)). played_over run l) b.2 ∙ stays_stopped run.play run.first written cause records b.1 stopped),
  )
