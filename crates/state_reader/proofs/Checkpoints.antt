-- The lines that were read are the checkpoint of a World, or of none.
use Rattle.std.proofs.Common.{◌≡◌, ℕ, ◌++◌, List, [], ◌∷◌, Option, Some, None, IfSome, IsSome, map, refl, ap, sym, ◌∙◌, subst}
use Rattle.std.proofs.lemmas.Option.{none-some, same_Some}
use Rattle.gov_actions.specs.declared.action.Proposal.{Proposal}
use Rattle.run_model.specs.World.{World}
use Rattle.text_forms.specs.Lines.{joined_lines}
use Rattle.text_forms.specs.Snapshots.{action_words}
use Rattle.text_model.specs.ParamLines.{param_lines}
use Rattle.text_model.specs.Words.{Text}
use Rattle.checkpoint_model.specs.Checkpoint.{checkpoint_lines}
use Rattle.checkpoint_model.specs.Resumable.{IsResumable}
use Rattle.line_giver.specs.Giving.{Giving, lines_of_giving}
use Rattle.line_parts.specs.Parts.{lines_of}
use Rattle.resume_loop.specs.Heads.{IsCheckpointOf, IsReadAs, ReadsCheckpoint}
use Rattle.action_kinds.specs.Lines.{action_line}
use Rattle.checkpoint_lists.specs.Rows.{amount_rows, book_rows, frozen_rows, governance_rows, stake_rows}
use Rattle.checkpoint_lists.specs.Shown.{ShownAreOfWorlds, amounts_shown, books_shown, frozen_shown, governance_shown, stakes_shown}
use Rattle.checkpoint_reader.specs.declared.read.Gathered.{Gathered}
use Rattle.checkpoint_reader.specs.Gathered.{action_row, gathered_rows, gathered_shown}
use Rattle.shown_lists.specs.Only.{IsOnly}
use Rattle.state_lists.specs.declared.lists.StateLists.{StateLists}
use Rattle.state_lists.specs.Worlds.{world_of_lists}
use Rattle.told_lists.specs.Told.{told_by}
use Rattle.state_reader.specs.Reads.{IsOfEach, ReadsText}
use Rattle.state_reader.specs.States.{IsSoundState, lists_of_world}
use Rattle.state_reader.proofs.States.{listed_of, world_same}

-- the lines of actions with their ids
actions_same : (ps : List Proposal) → map action_line (map action_row ps) ≡ map action_words ps
actions_same [] = refl
actions_same (p ∷ ps) = ap (λ (t : List (List Text)). action_words p ∷ t) (actions_same ps)

-- the lines of what a World shows are those of its checkpoint
rows_same : ShownAreOfWorlds → (w : World) (line : ℕ) → gathered_rows (gathered_shown w line) ≡ checkpoint_lines w line
rows_same law w line =
    ap (λ (t : List (List Text)). governance_rows (governance_shown w line) ++ param_lines w.ledger.state.params ++ book_rows (books_shown w) ++ stake_rows (stakes_shown w) ++ amount_rows (amounts_shown w) ++ t ++ frozen_rows (frozen_shown w.frozen)) (actions_same w.ledger.proposals)
    ∙ law w line

module _ (known : Option (List (Option Text))) (lines : List (Option Text)) where
  -- nothing was read
  read_none : IsOfEach known lines None → IsReadAs world_of_lists known lines None
  read_none each some w line is = none-some (gathered_shown w line) (each some w line is.is.sound is.is.within (is.whole ∙ ap (λ (t : List Text). map Some t) is.is.text))

  module _ (g : Gathered) (each : IsOfEach known lines (Some g)) (read : Option (StateLists × ℕ)) (only : IsOnly IsSoundState told_by g read) where
    -- a World of which they are the checkpoint is that of the lists that were found
    found : IsSome known → (w : World) (line : ℕ) → IsCheckpointOf lines w line → read ≡ Some (lists_of_world w, line)
    found some w line is =
        let sound : IsResumable w = is.is.sound in
        let shown : g ≡ gathered_shown w line = same_Some g (gathered_shown w line) (each some w line sound is.is.within (is.whole ∙ ap (λ (t : List Text). map Some t) is.is.text)) in
        let same : world_of_lists (lists_of_world w) ≡ w = world_same w sound in
        only.all (lists_of_world w, line) (record { listed = listed_of w sound; sound = subst IsResumable (sym same) sound; within = is.is.within })
        (ap (λ (v : World). gathered_shown v line) same ∙ sym shown)

  read_some : ShownAreOfWorlds → (g : Gathered) → IsOfEach known lines (Some g) → lines ≡ lines_of (gathered_rows g) → (read : Option (StateLists × ℕ)) → IsOnly IsSoundState told_by g read → IsReadAs world_of_lists known lines read
  read_some law g each rows None only = λ some w line is. none-some (lists_of_world w, line) (found g each None only some w line is)
  read_some law g each rows (Some x) only =
      let kind = only.kind x refl in (
        record {
          texts = joined_lines (checkpoint_lines (world_of_lists x.0) x.1);
          whole = rows ∙ ap (λ (t : Gathered). lines_of (gathered_rows t)) (sym (only.some x refl)) ∙ ap lines_of (rows_same law (world_of_lists x.0) x.1);
          is = record { sound = kind.sound; within = kind.within; text = refl };
        },
        λ some w line is.
            let same : x ≡ (lists_of_world w, line) = same_Some x (lists_of_world w, line) (found g each (Some x) only some w line is) in
            (sym (world_same w is.is.sound) ∙ ap (λ (y : StateLists × ℕ). world_of_lists y.0) (sym same), ap (λ (y : StateLists × ℕ). y.1) (sym same)),
      )

module _ {Stream : Type 0} {p q : Stream → List (Option Text) → Type 0} {old new : Giving} where
  -- without rows there is no checkpoint
  pub none_is_read : ReadsText p q old new None → ReadsCheckpoint world_of_lists p q old new None
  none_is_read is = record { lines = is.lines; text = is.text; is = read_none (lines_of_giving old) is.lines is.each }

  -- by the state that was found in the rows
  pub checkpoint_is_read : ShownAreOfWorlds → (g : Gathered) → ReadsText p q old new (Some g) → (read : Option (StateLists × ℕ)) → IsOnly IsSoundState told_by g read → ReadsCheckpoint world_of_lists p q old new read
  checkpoint_is_read law g is read only = record { lines = is.lines; text = is.text; is = read_some (lines_of_giving old) is.lines law g is.each (is.rows g refl) read only }

-- what was found can be resumed
pub found_is_sound : (g : Gathered) (read : Option (StateLists × ℕ)) → IsOnly IsSoundState told_by g read → IfSome read (λ x. IsResumable (world_of_lists x.0))
found_is_sound g None only = tt
found_is_sound g (Some x) only = (only.kind x refl).sound
