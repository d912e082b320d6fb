-- The form of a World by its tests.
use Rattle.std.proofs.Common.{◌≡◌, Bool, true, false, ◌&&◌, List, Result, Ok, Err, IfOk, refl, sym, ◌∙◌, subst}
use Rattle.maps.specs.Words.{none_or}
use Rattle.gov_actions.specs.declared.action.Proposal.{Proposal}
use Rattle.gov_model.specs.Snapshot.{Snapshot}
use Rattle.ledger_model.specs.Ledger.{Ledger}
use Rattle.tx_records.specs.Limits.{is_u64}
use Rattle.text_forms.specs.Snapshots.{are_stakes, is_snapshot}
use Rattle.text_forms.specs.States.{is_state}
use Rattle.checkpoint_model.specs.Resumable.{are_chained, has_book_form, has_form, has_plain_form, is_pending_form}
use Rattle.resume_checks.specs.Forms.{have_frozen_form, have_items_form, with_books, with_lists}
use Rattle.resume_checks.specs.declared.forms.Books.{Books}
use Rattle.resume_checks.specs.declared.forms.FrozenLists.{FrozenLists}
use Rattle.state_lists.specs.declared.lists.StateLists.{StateLists}
use Rattle.state_lists.specs.Worlds.{frozen_of_lists, ledger_of_lists, world_of_lists}
use Rattle.resumable_lists.specs.Shown.{IsShown}
use Rattle.resumable_lists.specs.Sound.{is_sound_form}

-- the lists of a ledger were tested
pub book_form : {E : Type 0} (b : Books) (s : StateLists) → IsShown s → with_books b (ledger_of_lists s) ≡ ledger_of_lists s → (r : Result Bool E)
    → IfOk r (λ formed. (l : Ledger) → have_items_form (with_books b l) ≡ true → formed ≡ has_book_form (with_books b l))
    → IfOk r (λ formed. formed ≡ has_book_form (ledger_of_lists s))
book_form b s shown same (Ok x) is = subst (λ (l : Ledger). have_items_form l ≡ true → x ≡ has_book_form l) same (is (ledger_of_lists s)) shown.items
book_form b s shown same (Err e) is = tt

-- those of what is frozen
pub frozen_form : {E : Type 0} (b : FrozenLists) (s : StateLists) → IsShown s → with_lists b (frozen_of_lists s) ≡ frozen_of_lists s → (r : Result Bool E)
    → IfOk r (λ formed. (f : Snapshot) → have_frozen_form (with_lists b f) ≡ true → formed ≡ is_snapshot (with_lists b f))
    → IfOk r (λ formed. formed ≡ is_snapshot (frozen_of_lists s))
frozen_form b s shown same (Ok x) is = subst (λ (f : Snapshot). have_frozen_form f ≡ true → x ≡ is_snapshot f) same (is (frozen_of_lists s)) shown.frozen
frozen_form b s shown same (Err e) is = tt

-- the chains of proposals
pub chained_is : {E : Type 0} (l : Ledger) (ps : List Proposal) → ps ≡ l.proposals → (r : Result Bool E)
    → IfOk r (λ chained. (m : Ledger) → chained ≡ are_chained (record m { state = record m.state { last = l.state.last }; proposals = ps })) → IfOk r (λ chained. chained ≡ are_chained l)
chained_is l ps same (Ok x) is = is l ∙ (λ i. are_chained (record l { proposals = same i }))
chained_is l ps same (Err e) is = tt

-- the tests, where the rest is true
all_true : (p b pe m s g f : Bool) → (p && b && pe && (m && s && g) && f) ≡ (p && true && b && pe && m && s && g && true && f)
all_true false b pe m s g f = refl
all_true true false pe m s g f = refl
all_true true true false m s g f = refl
all_true true true true false s g f = refl
all_true true true true true false g f = refl
all_true true true true true true false f = refl
all_true true true true true true true f = refl

-- with what is true
all_tests : (p b pe m s g f st u : Bool) → st ≡ true → u ≡ true → (p && b && pe && (m && s && g) && f) ≡ (p && st && b && pe && m && s && g && u && f)
all_tests p b pe m s g f st u hst hu = all_true p b pe m s g f ∙ sym (λ i. p && hst i && b && pe && m && s && g && hu i && f)

-- all tests of the form
pub form_is : (s : StateLists) → IsShown s → is_sound_form (world_of_lists s) ≡ has_form (world_of_lists s)
form_is s shown =
    all_tests (has_plain_form (ledger_of_lists s)) (has_book_form (ledger_of_lists s)) (none_or is_pending_form s.pending) (are_stakes s.stakes.mark) (are_stakes s.stakes.set) (are_stakes s.stakes.go) (is_snapshot (frozen_of_lists s)) (is_state s.state) (is_u64 s.stakes.fees) shown.state shown.noted_fees
