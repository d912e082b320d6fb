-- A World that crosses a boundary, by the parts that hold it.
use Rattle.std.proofs.Common.{◌≡◌, ◌<◌, ◌^◌, refl, ap, sym, subst, ◌∙◌}
use Rattle.accounts.specs.Accounts.{Accounts}
use Rattle.drep_pulser.specs.Count.{Ended}
use Rattle.drep_pulser.specs.declared.Pulser.{Pulser}
use Rattle.drep_pulser.specs.Facts.{IsCountedOf}
use Rattle.drep_pulser.specs.Pulsers.{GoesOnIn, IsPulserOf, done_by}
use Rattle.epoch_balance.specs.BoundaryLaws.{BoundaryBalances, PaymentsAreCovered}
use Rattle.ledger_state.specs.of_epoch_start.Begun.{begun_of}
use Rattle.gov_ids.specs.Orders.{credential_cmp}
use Rattle.gov_model.specs.Snapshot.{Snapshot}
use Rattle.ledger_books.specs.declared.Books.{Books}
use Rattle.ledger_books.specs.Parts.{frozen_entries, world_of_books}
use Rattle.ledger_model.specs.Moves.{IsMovedBy}
use Rattle.ledger_model.specs.Supply.{pots_of}
use Rattle.ledger_state.specs.Parts.{world_of_parts}
use Rattle.ledger_state.specs.Worlds.{IsHeldBy, snapshot_with}
use Rattle.run_model.specs.Boundary.{world_after_boundary}
use Rattle.run_model.specs.BoundaryFlows.{flows_of_boundary}
use Rattle.run_model.specs.SoundWorld.{IsSoundWorld}
use Rattle.run_model.specs.World.{World}
use Rattle.snapshots.specs.declared.frozen.Frozen.{Frozen}
use Rattle.snapshots.specs.Frozen.{frozen_copy_of}
use Rattle.view_map.specs.View.{frozen_of}
use Rattle.epoch_rule.specs.declared.books.Lists.{Lists}
use Rattle.epoch_rule.specs.Lists.{lists_of}
use Rattle.epoch_rule.specs.Sounds.{AreSoundBooks}
use Rattle.epoch_rule.proofs.Counting.{goes_on}

module _ (w : World) (b : Books) (f : Frozen) (p : Pulser) (parts : world_of_parts b f p ≡ w) (held : IsHeldBy w f p) where
  -- the snapshot that the parts have
  abbrev pub snapshot_held : Snapshot
  snapshot_held = snapshot_with (frozen_entries b) b.snapshots.mark f

  is_frozen : snapshot_held ≡ w.frozen
  is_frozen = ap (λ (v : World). v.frozen) parts

  counts : IsPulserOf snapshot_held p
  counts = subst (λ (g : Snapshot). IsPulserOf g p) (sym is_frozen) held.counts

  pub going : GoesOnIn (frozen_entries b) p
  going = goes_on snapshot_held (frozen_entries b) p refl counts

  -- the books are sound beside the frozen epoch and its count, once this has ended over the entries of their accounts
  pub sound_books : (a : Accounts) → a ≡ b.stake.accounts → (c : Ended) → ((g : Snapshot) → g.entries ≡ frozen_of credential_cmp a → IsPulserOf g p → IsCountedOf g c) → AreSoundBooks b (done_by p) snapshot_held f c
  sound_books a same c finished = record {
    sound = subst (λ (v : World). IsSoundWorld v) (sym parts) held.sound;
    frozen = record {
      frozen = held.copied ∙ ap frozen_copy_of (sym is_frozen);
      counted = finished snapshot_held (ap (λ (x : Accounts). frozen_of credential_cmp x) (sym same)) counts;
    };
  }

  pub early_books : w.ledger.epoch < 2 ^ 62 → b.epoch < 2 ^ 62
  early_books h = subst (λ (v : World). v.ledger.epoch < 2 ^ 62) (sym parts) h

  pub begun_is : (ended : Books) → begun_of ended ≡ world_after_boundary (world_of_books b (done_by p) snapshot_held) → begun_of ended ≡ world_after_boundary w
  begun_is ended is = is ∙ ap world_after_boundary parts

  pub lists_are : (lists : Lists) → lists ≡ lists_of (world_of_books b (done_by p) snapshot_held) → lists ≡ lists_of w
  lists_are lists is = is ∙ ap lists_of parts

-- a boundary moves the pots of a sound World by its flows
pub boundary_moves : BoundaryBalances → PaymentsAreCovered → (w : World) → IsSoundWorld w → IsMovedBy (flows_of_boundary w) (pots_of w.ledger) (pots_of (world_after_boundary w).ledger)
boundary_moves balances covers w sound =
    balances w sound.ledger.maps.accounts sound.stands.pending sound.ledger.proposals.ids (covers w sound.frozen.proposals.ids sound.stands.treasury)
