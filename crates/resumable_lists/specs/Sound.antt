-- The tests of a World, in three groups. (Own)
use Rattle.std.specs.Prelude.{Bool, ◌&&◌, nat_le}
use Rattle.std.specs.List.{list_all}
use Rattle.maps.specs.Words.{none_or}
use Rattle.gov_model.specs.Snapshot.{entry_count}
use Rattle.ledger_model.specs.Ledger.{Ledger}
use Rattle.run_model.specs.World.{World}
use Rattle.text_forms.specs.Snapshots.{are_stakes, is_snapshot}
use Rattle.checkpoint_model.specs.Resumable.{are_chained, delegates_to_registered, has_book_form, has_plain_form, holds_supply, is_counted_entry, is_covered, is_pending_form, is_timed, is_within_dormant_bound, is_within_supply, uses_ids}

-- those of its form, if its items have it
abbrev pub is_sound_form : World → Bool
is_sound_form w =
    has_plain_form w.ledger && has_book_form w.ledger && none_or is_pending_form w.pending
    && (are_stakes w.mark && are_stakes w.set && are_stakes w.go) && is_snapshot w.frozen

-- those of its ledger
abbrev pub is_sound_ledger : Ledger → Bool
is_sound_ledger l =
    (is_timed l && is_within_dormant_bound l && delegates_to_registered l && holds_supply l && uses_ids l) && are_chained l

-- those of what epochs add
abbrev pub is_sound_epoch : World → Bool
is_sound_epoch w =
    none_or (is_covered w.ledger) w.pending && is_within_supply w && list_all is_counted_entry w.frozen.entries
    && nat_le w.counted (entry_count w.frozen) && nat_le w.frozen.start.treasury w.ledger.state.treasury
