-- What the reading of a part says, clause by clause.
use Rattle.std.proofs.Common.{◌≡◌, ℕ, ◌++◌, Bool, true, false, List, [], ◌∷◌, Option, Some, None, Result, Ok, Err, IfOk, IfSome, map, refl, ap, sym, ◌∙◌, subst}
use Rattle.gov_actions.specs.declared.action.Proposal.{Proposal}
use Rattle.run_model.specs.World.{World}
use Rattle.text_forms.specs.Snapshots.{action_words}
use Rattle.text_model.specs.ParamLines.{param_lines}
use Rattle.text_model.specs.Words.{Text}
use Rattle.line_giver.specs.Giving.{Giving, HasPassed, lines_of_giving}
use Rattle.line_parts.specs.Parts.{Comes, IsRead, lines_of}
use Rattle.line_parts.specs.Shapes.{Shape, is_next}
use Rattle.checkpoint_model.specs.Checkpoint.{checkpoint_lines}
use Rattle.action_kinds.specs.Lines.{action_line}
use Rattle.checkpoint_reader.specs.Gathered.{action_row, gathered_rows, gathered_shown, has_gathered_form}
use Rattle.checkpoint_reader.specs.declared.read.Gathered.{Gathered}
use Rattle.checkpoint_lists.specs.Rows.{amount_rows, book_rows, frozen_rows, governance_rows, stake_rows}
use Rattle.checkpoint_lists.specs.Shown.{ShownAreOfWorlds, amounts_shown, books_shown, frozen_shown, governance_shown, stakes_shown}

-- no line begins with one of none
pub none_of_none : (more : List (Option Text)) → is_next [] more ≡ false
none_of_none [] = refl
none_of_none (None ∷ more) = refl
none_of_none (Some line ∷ more) = refl

module _ {I Stream : Type 0} (s : Shape) (has_form : I → Bool) (words : I → List (List Text)) (p q : Stream → List (Option Text) → Type 0) (old new : Giving) where
  all_of : (g : Option I) → s.stops ≡ [] → IsRead s has_form words p q old new g → (x : I) (more : List (Option Text)) → has_form x ≡ true → lines_of_giving old ≡ Some (lines_of (words x) ++ more) → g ≡ Some x
  all_of g none reads x more form left = reads.all x more (record { form = form; apart = subst (λ names. is_next names more ≡ false) (sym none) (none_of_none more); left = left })

  module _ {E : Type 0} where
    pub forms_of : (r : Result (Option I) E) → IfOk r (IsRead s has_form words p q old new) → IfOk r (λ g. IfSome g (λ x. has_form x ≡ true))
    forms_of (Ok None) reads = tt
    forms_of (Ok (Some x)) reads = reads.form x refl
    forms_of (Err e) reads = tt

    pub all_passed : (r : Result (Option I) E) → IfOk r (IsRead s has_form words p q old new) → IfOk r (λ g. IfSome g (λ x. HasPassed p q old new (lines_of (words x))))
    all_passed (Ok None) reads = tt
    all_passed (Ok (Some x)) reads = reads.passed x refl
    all_passed (Err e) reads = tt

    pub all_read : (r : Result (Option I) E) → s.stops ≡ [] → IfOk r (IsRead s has_form words p q old new)
        → IfOk r (λ g. (x : I) (more : List (Option Text)) → has_form x ≡ true → lines_of_giving old ≡ Some (lines_of (words x) ++ more) → g ≡ Some x)
    all_read (Ok g) none reads = all_of g none reads
    all_read (Err e) none reads = tt

-- the lines of actions are those of their proposals
actions_same : (ps : List Proposal) → map action_line (map action_row ps) ≡ map action_words ps
actions_same [] = refl
actions_same (p ∷ ps) = ap (λ (t : List (List Text)). action_words p ∷ t) (actions_same ps)

-- the lines of a checkpoint are those of what it says
rows_shown : ShownAreOfWorlds → (w : World) (line : ℕ) → gathered_rows (gathered_shown w line) ≡ checkpoint_lines w line
rows_shown law w line =
    ap (λ t. governance_rows (governance_shown w line) ++ param_lines w.ledger.state.params ++ book_rows (books_shown w) ++ stake_rows (stakes_shown w) ++ amount_rows (amounts_shown w) ++ t ++ frozen_rows (frozen_shown w.frozen)) (actions_same w.ledger.proposals)
    ∙ law w line

-- where the lines of the checkpoint of a World come, what it says is read
pub worlds_read : ShownAreOfWorlds → {E Stream : Type 0} (s : Shape) (p q : Stream → List (Option Text) → Type 0) (old new : Giving) (r : Result (Option Gathered) E) → s.stops ≡ [] → IfOk r (IsRead s has_gathered_form gathered_rows p q old new)
    → IfOk r (λ g. (w : World) (line : ℕ) (more : List (Option Text)) → has_gathered_form (gathered_shown w line) ≡ true → lines_of_giving old ≡ Some (lines_of (checkpoint_lines w line) ++ more) → g ≡ Some (gathered_shown w line))
worlds_read law s p q old new (Ok g) none reads = λ w line more form left.
    all_of s has_gathered_form gathered_rows p q old new g none reads (gathered_shown w line) more form (left ∙ ap (λ (t : List (List Text)). Some (lines_of t ++ more)) (sym (rows_shown law w line)))
worlds_read law s p q old new (Err e) none reads = tt
