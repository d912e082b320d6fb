-- A World is sound to be resumed by its tests.
use Rattle.std.proofs.Common.{◌≡◌, ◌<◌, ◌^◌, ◌↔◌, Bool, true, false, ◌&&◌, nat_le, Result, Ok, Err, IfOk, refl, sym, ◌∙◌, true≢false}
use Rattle.std.specs.List.{list_all}
use Rattle.std.proofs.lemmas.Bool.{and_parts, ltb-true}
use Rattle.maps.specs.Words.{none_or}
use Rattle.gov_model.specs.Snapshot.{entry_count}
use Rattle.ledger_model.specs.Ledger.{Ledger}
use Rattle.run_model.specs.World.{World}
use Rattle.tx_records.specs.Limits.{is_slot, is_u64}
use Rattle.text_forms.specs.Snapshots.{are_stakes, is_snapshot}
use Rattle.text_forms.specs.States.{is_state}
use Rattle.checkpoint_model.specs.Laws.{ShortByForm}
use Rattle.checkpoint_model.specs.Resumable.{IsResumable, are_chained, delegates_to_registered, has_book_form, has_form, has_plain_form, holds_supply, is_counted_entry, is_covered, is_pending_form, is_timed, is_within_dormant_bound, is_within_supply, uses_ids}
use Rattle.state_lists.specs.declared.lists.StateLists.{StateLists}
use Rattle.state_lists.specs.Worlds.{ledger_of_lists, world_of_lists}
use Rattle.resumable_lists.specs.Shown.{IsShown}
use Rattle.resumable_lists.specs.Sound.{is_sound_epoch, is_sound_form, is_sound_ledger}
use Rattle.resumable_lists.proofs.Forms.{form_is}

-- the tests of the ledger
record OfLedger (l : Ledger) : Type 0 where
  pub time : is_timed l ≡ true
  pub dormancy : is_within_dormant_bound l ≡ true
  pub delegations : delegates_to_registered l ≡ true
  pub supply : holds_supply l ≡ true
  pub ids : uses_ids l ≡ true
  pub chains : are_chained l ≡ true

of_ledger : (l : Ledger) → is_sound_ledger l ≡ true → OfLedger l
of_ledger l h =
    let a = and_parts (is_timed l && is_within_dormant_bound l && delegates_to_registered l && holds_supply l && uses_ids l) (are_chained l) h in
    let b = and_parts _ (uses_ids l) a.0 in
    let c = and_parts _ (holds_supply l) b.0 in
    let d = and_parts _ (delegates_to_registered l) c.0 in
    let e = and_parts (is_timed l) (is_within_dormant_bound l) d.0 in
    record { time = e.0; dormancy = e.1; delegations = d.1; supply = c.1; ids = b.1; chains = a.1 }

-- those of what epochs add
record OfEpoch (w : World) : Type 0 where
  pub pending : none_or (is_covered w.ledger) w.pending ≡ true
  pub within : is_within_supply w ≡ true
  pub entries : list_all is_counted_entry w.frozen.entries ≡ true
  pub counted : nat_le w.counted (entry_count w.frozen) ≡ true
  pub treasury : nat_le w.frozen.start.treasury w.ledger.state.treasury ≡ true

of_epoch : (w : World) → is_sound_epoch w ≡ true → OfEpoch w
of_epoch w h =
    let a = and_parts _ (nat_le w.frozen.start.treasury w.ledger.state.treasury) h in
    let b = and_parts _ (nat_le w.counted (entry_count w.frozen)) a.0 in
    let c = and_parts _ (list_all is_counted_entry w.frozen.entries) b.0 in
    let d = and_parts (none_or (is_covered w.ledger) w.pending) (is_within_supply w) c.0 in
    record { pending = d.0; within = d.1; entries = c.1; counted = b.1; treasury = a.1 }

-- where all tests say so
resumable_by : ShortByForm → (s : StateLists) → IsShown s → has_form (world_of_lists s) ≡ true → is_sound_ledger (ledger_of_lists s) ≡ true → is_sound_epoch (world_of_lists s) ≡ true → IsResumable (world_of_lists s)
resumable_by law s shown form ledger epoch =
    let l = of_ledger (ledger_of_lists s) ledger in
    let e = of_epoch (world_of_lists s) epoch in
    record {
      form = form;
      time = l.time;
      dormancy = l.dormancy;
      delegations = l.delegations;
      supply = l.supply;
      ids = l.ids;
      chains = l.chains;
      pending = e.pending;
      within = e.within;
      entries = e.entries;
      counted = e.counted;
      epoch = refl;
      mark = refl;
      state = refl;
      treasury = e.treasury;
      proposals = shown.proposals;
      short = law (world_of_lists s) form l.time l.supply shown.counted shown.short;
    }

-- what the tests say of a World that is sound
ledger_by : (w : World) → IsResumable w → is_sound_ledger w.ledger ≡ true
ledger_by w is = rw (is.time, is.dormancy, is.delegations, is.supply, is.ids, is.chains) refl

epoch_by : (w : World) → IsResumable w → is_sound_epoch w ≡ true
epoch_by w is = rw (is.pending, is.within, is.entries, is.counted, is.treasury) refl

-- where the form and what epochs add are sound, the ledger decides
pub ledger_decides : ShortByForm → {E : Type 0} (s : StateLists) → IsShown s → is_sound_form (world_of_lists s) ≡ true → is_sound_epoch (world_of_lists s) ≡ true → (r : Result Bool E)
    → IfOk r (λ sound. sound ≡ is_sound_ledger (ledger_of_lists s)) → IfOk r (λ sound. (sound ≡ true) ↔ IsResumable (world_of_lists s))
ledger_decides law s shown form epoch (Ok x) is = (
  λ e. resumable_by law s shown (sym (form_is s shown) ∙ form) (sym is ∙ e) epoch,
  λ sound. is ∙ ledger_by (world_of_lists s) sound,
)
ledger_decides law s shown form epoch (Err e) is = tt

-- without the form
pub no_form : (s : StateLists) → IsShown s → is_sound_form (world_of_lists s) ≡ false → (false ≡ true) ↔ IsResumable (world_of_lists s)
no_form s shown none = (λ e. absurd (true≢false (sym e)), λ is. absurd (true≢false (sym is.form ∙ sym (form_is s shown) ∙ none)))

-- without what epochs add
pub no_epoch : (s : StateLists) → is_sound_epoch (world_of_lists s) ≡ false → (false ≡ true) ↔ IsResumable (world_of_lists s)
no_epoch s none = (λ e. absurd (true≢false (sym e)), λ is. absurd (true≢false (sym (epoch_by (world_of_lists s) is) ∙ none)))

-- the form of the books, by the tests
pub books_formed : (w : World) → is_sound_form w ≡ true → has_book_form w.ledger ≡ true
books_formed w h =
    let a = and_parts _ (is_snapshot w.frozen) h in
    let b = and_parts _ (are_stakes w.mark && are_stakes w.set && are_stakes w.go) a.0 in
    let c = and_parts _ (none_or is_pending_form w.pending) b.0 in
    (and_parts (has_plain_form w.ledger) (has_book_form w.ledger) c.0).1

-- that of the numbers
plain_of : (w : World) → has_form w ≡ true → has_plain_form w.ledger ≡ true
plain_of w h =
    let a = and_parts _ (is_snapshot w.frozen) h in
    let b = and_parts _ (is_u64 w.noted_fees) a.0 in
    let c = and_parts _ (are_stakes w.go) b.0 in
    let d = and_parts _ (are_stakes w.set) c.0 in
    let e = and_parts _ (are_stakes w.mark) d.0 in
    let f = and_parts _ (none_or is_pending_form w.pending) e.0 in
    let g = and_parts _ (has_book_form w.ledger) f.0 in
    (and_parts (has_plain_form w.ledger) (is_state w.ledger.state) g.0).0

-- the supply fits, where the numbers are in their ranges
supply_fits : (l : Ledger) → has_plain_form l ≡ true → l.supply < 2 ^ 64
supply_fits l h =
    let a = and_parts _ (is_u64 l.donations) h in
    let b = and_parts _ (is_u64 l.fees) a.0 in
    let c = and_parts _ (is_u64 l.reserves) b.0 in
    let d = and_parts _ (is_u64 l.dormant) c.0 in
    let e = and_parts _ (is_slot l.slot) d.0 in
    ltb-true l.supply (2 ^ 64) (and_parts _ (is_u64 l.supply) e.0).1

-- with a supply that does not fit
pub no_supply : (w : World) → (w.ledger.supply < 2 ^ 64 → ⊥) → (false ≡ true) ↔ IsResumable w
no_supply w none = (λ e. absurd (true≢false (sym e)), λ is. absurd (none (supply_fits w.ledger (plain_of w is.form))))
