-- When a state of told lists is sound to be resumed.
use Rattle.std.proofs.Common.{◌≡◌, ℕ, ◌≤◌, ◌^◌, ◌++◌, ◌↔◌, Bool, true, false, List, [], ◌∷◌, Some, None, Result, Ok, Err, IfOk, codes, map, refl, sym, ◌∙◌, subst, true≢false}
use Rattle.std.proofs.lemmas.Bool.{and_parts}
use Rattle.std.proofs.lemmas.List.Folds.{list_all-append}
use Rattle.std.proofs.lemmas.Option.{none-some, same_Some}
use Rattle.run_model.specs.World.{World}
use Rattle.text_forms.specs.Lines.{are_short_lines}
use Rattle.text_forms.specs.Snapshots.{action_words}
use Rattle.text_model.specs.StateLines.{state_lines}
use Rattle.text_model.specs.Words.{Text}
use Rattle.checkpoint_model.specs.Checkpoint.{checkpoint_words, frozen_lines, used_words}
use Rattle.checkpoint_model.specs.Resumable.{IsResumable}
use Rattle.checkpoint_reader.specs.declared.read.Gathered.{Gathered}
use Rattle.shown_lists.specs.Only.{IsOnly}
use Rattle.state_lists.specs.declared.lists.StateLists.{StateLists}
use Rattle.state_lists.specs.Worlds.{world_of_lists}
use Rattle.told_lists.specs.Told.{IsListed, told_by}
use Rattle.state_reader.specs.States.{IsSoundState}

-- ---- lines of actions

short_parts : (xs ys : List (List Text)) → are_short_lines (xs ++ ys) ≡ true → (are_short_lines xs ≡ true) × (are_short_lines ys ≡ true)
short_parts xs ys h = and_parts (are_short_lines xs) (are_short_lines ys) (sym (list_all-append _ xs ys) ∙ h)

-- where no line of a checkpoint is too long, none of an action is
actions_short : (w : World) → IsResumable w → are_short_lines (map action_words w.ledger.proposals) ≡ true
actions_short w sound =
    let a = short_parts (checkpoint_words w 0 ∷ state_lines w ++ map used_words w.ledger.used ++ map action_words w.ledger.proposals ++ frozen_lines w.frozen) ((codes "end" ∷ []) ∷ []) sound.short in
    let b = short_parts (checkpoint_words w 0 ∷ state_lines w ++ map used_words w.ledger.used ++ map action_words w.ledger.proposals) (frozen_lines w.frozen) a.0 in
    (short_parts (checkpoint_words w 0 ∷ state_lines w ++ map used_words w.ledger.used) (map action_words w.ledger.proposals) b.0).1

-- with a line of an action that is too long
pub too_long : (s : StateLists) (line : ℕ) → are_short_lines (map action_words s.books.proposals) ≡ false → (false ≡ true) ↔ (IsResumable (world_of_lists s) × (line ≤ 2 ^ 48))
too_long s line none = (λ e. absurd (true≢false (sym e)), λ is. absurd (true≢false (sym (actions_short (world_of_lists s) is.0) ∙ none)))

-- within the lines the tests decide
pub tests_decide : {E : Type 0} (s : StateLists) (line : ℕ) → line ≤ 2 ^ 48 → (r : Result Bool E) → IfOk r (λ sound. (sound ≡ true) ↔ IsResumable (world_of_lists s))
    → IfOk r (λ sound. (sound ≡ true) ↔ (IsResumable (world_of_lists s) × (line ≤ 2 ^ 48)))
tests_decide s line within (Ok x) is = (λ e. (is.0 e, within), λ both. is.1 both.0)
tests_decide s line within (Err e) is = tt

-- ---- the state that was found

module _ (g : Gathered) where
  -- no lists, so no state
  pub none_told : IsOnly (λ x. IsListed x.0) told_by g None → IsOnly IsSoundState told_by g None
  none_told is = record {
    kind = λ x e. absurd (none-some x e);
    some = λ x e. absurd (none-some x e);
    all = λ x kind shows. is.all x kind.listed shows;
  }

  -- lists of a state that is not sound
  pub none_sound : (x : StateLists × ℕ) → IsOnly (λ x. IsListed x.0) told_by g (Some x) → (IsResumable (world_of_lists x.0) × (x.1 ≤ 2 ^ 48) → ⊥) → IsOnly IsSoundState told_by g None
  none_sound x is none = record {
    kind = λ y e. absurd (none-some y e);
    some = λ y e. absurd (none-some y e);
    all = λ y kind shows.
        let same : x ≡ y = same_Some x y (is.all y kind.listed shows) in
        absurd (none (subst (λ (z : StateLists × ℕ). IsResumable (world_of_lists z.0) × (z.1 ≤ 2 ^ 48)) (sym same) (kind.sound, kind.within)));
  }

  -- lists of a sound one
  pub some_sound : (x : StateLists × ℕ) → IsOnly (λ x. IsListed x.0) told_by g (Some x) → IsResumable (world_of_lists x.0) × (x.1 ≤ 2 ^ 48) → IsOnly IsSoundState told_by g (Some x)
  some_sound x is sound = record {
    kind = λ y e. subst (λ (z : StateLists × ℕ). IsSoundState z) (same_Some x y e) (record { listed = is.kind x refl; sound = sound.0; within = sound.1 });
    some = is.some;
    all = λ y kind shows. is.all y kind.listed shows;
  }
