-- A snapshot is readable by its tests, and what rows show is readable if these pass.
use Rattle.std.proofs.Common.{◌≡◌, ℕ, ◌↔◌, Bool, true, false, List, Option, Some, None, Result, Ok, Err, IfOk, map, option_map, refl, ap, sym, ◌∙◌, subst, arith}
use Rattle.std.specs.Option.{IfSome}
use Rattle.std.proofs.lemmas.Bool.{and_from, and_parts, false≢true, ltb-true}
use Rattle.std.proofs.lemmas.Option.{none-some, same_Some}
use Rattle.gov_actions.specs.of_coin_frac.declared.TheConstants.{SUPPLY_LIMIT}
use Rattle.gov_model.specs.Snapshot.{Snapshot}
use Rattle.tx_records.specs.declared.limits.TheConstants.{SLOT_LIMIT}
use Rattle.tx_records.specs.Limits.{is_slot}
use Rattle.book_kinds.specs.of_checkpoint_model.Resumable.{are_within}
use Rattle.text_forms.specs.Lines.{are_short_lines}
use Rattle.text_forms.specs.Snapshots.{action_words, is_snapshot}
use Rattle.certificate_lists.specs.declared.rows.SnapshotRows.{SnapshotRows}
use Rattle.certificate_lists.specs.Rows.{has_snapshot_form, rows_shown, snapshot_rows}
use Rattle.resume_checks.proofs.Bools.{never}
use Rattle.resume_checks.specs.declared.forms.FrozenLists.{FrozenLists}
use Rattle.resume_checks.specs.Forms.{have_frozen_form, with_lists}
use Rattle.shown_lists.specs.Only.{IsOnly}
use Rattle.shown_lists.proofs.Present.{only_if, only_none}
use Rattle.line_giver.specs.Giving.{Giving, HasPassed}
use Rattle.line_parts.specs.Parts.{lines_of}
use Rattle.text_forms.specs.of_text_model.Words.{Text}
use Rattle.certificate_model.specs.Certificate.{snapshot_lines}
use Rattle.snapshot_counts.specs.declared.plain.PlainSnapshot.{PlainSnapshot}
use Rattle.snapshot_counts.specs.Fitting.{IsFitting, snapshot_in}
use Rattle.stream_laws.proofs.FrozenLines.{snapshot_short}
use Rattle.snapshot_reader.specs.Told.{IsListed}
use Rattle.snapshot_reader.specs.Fitting.{IsReadable, IsTold, has_further_form, is_in_range}
use Rattle.snapshot_reader.proofs.Lines.{actions_short}
use Rattle.snapshot_reader.proofs.Tests.{items_form}
use Rattle.snapshot_reader.proofs.Telling.{further_of, told_of}

-- ---- the tests

-- without what no line shows it has not the form
pub no_form : (f : Snapshot) → has_further_form f ≡ false → false ≡ is_snapshot f
no_form f none = never (is_snapshot f) (λ h. false≢true (sym none ∙ further_of f h))

-- with it the order of its lists tells
pub lists_form : {E : Type 0} (b : FrozenLists) (f : Snapshot) → IsTold f → has_further_form f ≡ true → with_lists b f ≡ f → (r : Result Bool E)
    → IfOk r (λ formed. (g : Snapshot) → have_frozen_form (with_lists b g) ≡ true → formed ≡ is_snapshot (with_lists b g)) → IfOk r (λ formed. formed ≡ is_snapshot f)
lists_form b f told later same (Ok x) is = subst (λ (g : Snapshot). have_frozen_form g ≡ true → x ≡ is_snapshot g) same (is f) (items_form f told later)
lists_form b f told later same (Err e) is = tt

-- all of them
readable_by : (f : Snapshot) → is_in_range f ≡ true → is_snapshot f ≡ true → are_short_lines (map action_words f.proposals) ≡ true → IsReadable f
readable_by f range form short =
    let mark = and_parts _ (are_within SUPPLY_LIMIT f.mark) range in
    let held = and_parts (is_slot f.epoch) _ mark.0 in
    record {
      fits = record { form = form; epoch = held.0; held = held.1; mark = mark.1 };
      short = snapshot_short f form (omega (arith, ltb-true f.epoch SLOT_LIMIT held.0)) short;
    }

range_of : (f : Snapshot) → IsFitting f → is_in_range f ≡ true
range_of f fits = and_from _ (are_within SUPPLY_LIMIT f.mark) (and_from (is_slot f.epoch) _ fits.epoch fits.held) fits.mark

pub not_in_range : (f : Snapshot) → is_in_range f ≡ false → (false ≡ true) ↔ IsReadable f
not_in_range f none = (λ h. absurd (false≢true h), λ is. absurd (false≢true (sym none ∙ range_of f is.fits)))

pub not_formed : (f : Snapshot) → is_snapshot f ≡ false → (false ≡ true) ↔ IsReadable f
not_formed f none = (λ h. absurd (false≢true h), λ is. absurd (false≢true (sym none ∙ is.fits.form)))

-- the lines of actions decide
pub actions_decide : {E : Type 0} (f : Snapshot) → is_in_range f ≡ true → is_snapshot f ≡ true → (r : Result Bool E)
    → IfOk r (λ short. short ≡ are_short_lines (map action_words f.proposals)) → IfOk r (λ readable. (readable ≡ true) ↔ IsReadable f)
actions_decide f range form (Ok b) is = (λ h. readable_by f range form (sym is ∙ h), λ readable. is ∙ actions_short f readable.short)
actions_decide f range form (Err e) is = tt

-- ---- what rows show

told_by : (f : Snapshot) → IsFitting f → IsTold f
told_by f fits = told_of f fits.form fits.epoch

pub form_by : (f : Snapshot) → IsFitting f → has_snapshot_form (rows_shown f) ≡ true
form_by f fits = (told_by f fits).form

module _ (rows : SnapshotRows) where
  abbrev pub OnlyReadable : Option Snapshot → Type 0
  OnlyReadable r = IsOnly IsReadable rows_shown rows r

  pub none_listed : IsOnly IsListed rows_shown rows None → OnlyReadable None
  none_listed only = only_none IsReadable rows_shown rows (λ f k e. none-some f (only.all f (told_by f k.fits).listed e))

  module _ (f : Snapshot) (only : IsOnly IsListed rows_shown rows (Some f)) where
    pub is_told : has_snapshot_form rows ≡ true → IsTold f
    is_told h = record { form = ap has_snapshot_form (only.some f refl) ∙ h; listed = only.kind f refl }

    the_one : (x : Snapshot) → IsReadable x → rows_shown x ≡ rows → f ≡ x
    the_one x k e = same_Some f x (only.all x (told_by x k.fits).listed e)

    pub is_readable : IsReadable f → OnlyReadable (Some f)
    is_readable is = only_if IsReadable rows_shown rows f true (λ t. (is, only.some f refl)) (λ x k e. (the_one x k e, refl))

    pub not_readable : (IsReadable f → ⊥) → OnlyReadable None
    not_readable refused = only_none IsReadable rows_shown rows (λ x k e. refused (subst IsReadable (sym (the_one x k e)) k))

  pub fits_if : (r : Option PlainSnapshot) → OnlyReadable (option_map snapshot_in r) → IfSome r (λ p. IsFitting (snapshot_in p))
  fits_if None only = tt
  fits_if (Some p) only = (only.kind (snapshot_in p) refl).fits

  pub short_if : (r : Option PlainSnapshot) → OnlyReadable (option_map snapshot_in r) → IfSome r (λ p. are_short_lines (snapshot_lines (snapshot_in p)) ≡ true)
  short_if None only = tt
  short_if (Some p) only = (only.kind (snapshot_in p) refl).short

  pub passes_if : ((f : Snapshot) → snapshot_rows (rows_shown f) ≡ snapshot_lines f) → {Stream : Type 0} {before after : Stream → List (Option (List ℕ)) → Type 0} {old new : Giving} (r : Option PlainSnapshot)
      → OnlyReadable (option_map snapshot_in r) → HasPassed before after old new (lines_of (snapshot_rows rows)) → IfSome r (λ p. HasPassed before after old new (lines_of (snapshot_lines (snapshot_in p))))
  passes_if rows_same None only h = tt
  passes_if rows_same {before = before} {after = after} {old = old} {new = new} (Some p) only h =
      let same : snapshot_rows rows ≡ snapshot_lines (snapshot_in p) = ap snapshot_rows (sym (only.some (snapshot_in p) refl)) ∙ rows_same (snapshot_in p) in
      subst (λ (lines : List (List Text)). HasPassed before after old new (lines_of lines)) same h
