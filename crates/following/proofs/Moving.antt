-- A refused record moves nothing, and an accepted block has a later slot.
use Rattle.std.proofs.Common.{◌≡◌, ℕ, ◌<◌, ◌≤◌, List, [], ◌∷◌, Option, Some, None, ap, subst, sym, refl, arith}
use Rattle.std.specs.List.{AllByRecursion}
use Rattle.std.proofs.lemmas.Bool.{leb-false}
use Rattle.ledger_model.proofs.Unbroken.{IsUnbroken, unbroken-cons}
use Rattle.ledger_model.specs.Checks.{first_among}
use Rattle.ledger_model.specs.Ledger.{Ledger}
use Rattle.replay_loop.specs.Outcomes.{outcome_by, outcome_of}
use Rattle.replay_loop.specs.declared.outcome.Outcome.TheVariants.{Answered}
use Rattle.run_model.specs.Step.{block_checks, refusal_of, step_by}
use Rattle.run_model.specs.World.{World}
use Rattle.tx_records.specs.declared.record.Reading.TheVariants.{Read}
use Rattle.tx_records.specs.declared.record.Record.{Record}
use Rattle.tx_records.specs.declared.reply.Reply.TheVariants.{Refused}
use Rattle.tx_records.specs.declared.reply.Rule.{Rule}
use Rattle.undo_log.specs.Logs.{AreMarksBelow, Log}
use Rattle.undo_log.specs.declared.marks.Mark.{Mark}
use Rattle.following.specs.Moves.{IsLogBy, IsMoved}

pub refused : (w : World) (log : Log) (r : Record) (rule : Rule) → refusal_of w r ≡ Some rule → IsMoved w log (Read r) w log × (Answered (Refused rule) ≡ outcome_of w (Read r))
refused w log r rule e = (
  record {
    world = sym (ap (λ (o : Option Rule). (step_by o w r).0) e);
    log = subst (λ (o : Option Rule). IsLogBy o w log r log) (sym e) refl;
  },
  sym (ap (λ (o : Option Rule). outcome_by (step_by o w r).1 r w) e),
)

all_below : (n slot : ℕ) (marks : List Mark) → n < slot → AllByRecursion (λ (m : Mark). m.slot ≤ n) marks → AreMarksBelow slot marks
all_below n slot [] less h = tt
all_below n slot (m ∷ marks) less h = (omega (arith, h.0), all_below n slot marks less h.1)

-- no mark is as late as a block that breaks no rule
pub marks_below : (l : Ledger) (slot pulse : ℕ) (marks : List Mark) → first_among (block_checks l slot pulse) ≡ None → AllByRecursion (λ (m : Mark). m.slot ≤ l.slot) marks → AreMarksBelow slot marks
marks_below l slot pulse marks none h =
    let all : IsUnbroken (block_checks l slot pulse) = record { none = none } in
    all_below l.slot slot marks (leb-false slot l.slot (unbroken-cons _ _ all).0) h
