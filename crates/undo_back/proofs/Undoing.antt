-- The World of the books after an undo, and that it is held by what held it before.
use Rattle.std.proofs.Common.{◌≡◌, ℕ, ◌≤◌, ap, subst, sym, ◌∙◌}
use Rattle.drep_pulser.specs.declared.Pulser.{Pulser}
use Rattle.drep_pulser.specs.Pulsers.{done_by}
use Rattle.gov_model.specs.Snapshot.{Snapshot, entry_count}
use Rattle.ledger_books.specs.declared.Books.{Books}
use Rattle.ledger_books.specs.Parts.{IsStep, frozen_entries, world_of_books}
use Rattle.ledger_state.specs.Parts.{world_of_parts}
use Rattle.ledger_state.specs.Worlds.{IsHeldBy, snapshot_with}
use Rattle.run_model.specs.SoundWorld.{IsSoundWorld}
use Rattle.run_model.specs.World.{World}
use Rattle.snapshots.specs.declared.frozen.Frozen.{Frozen}
use Rattle.undo_model.proofs.Undoing.{undone_is_before}
use Rattle.undo_model.specs.Undone.{Before, undone}
use Rattle.undo_back.specs.Undoable.{IsUndoable}

-- a sound World is sound at any count that is at most the entries
recounted : (n : ℕ) (w : World) → IsSoundWorld w → n ≤ entry_count w.frozen → IsSoundWorld (record w { counted = n })
recounted n w g most = record {
  ledger = g.ledger;
  frozen = g.frozen;
  stands = record { epoch = g.stands.epoch; state = g.stands.state; treasury = g.stands.treasury; pending = g.stands.pending; live = g.stands.live };
  marked = g.marked;
  mark = g.mark;
  set = g.set;
  go = g.go;
  fees = g.fees;
  counted = most;
}

-- a sound World that is undone is sound
pub undone_is_sound : (v : World) (b : Before) → IsSoundWorld v → IsUndoable v b → IsSoundWorld (undone b v)
undone_is_sound v b h u =
    let w : World = u.0 in
    let frozen : v.frozen ≡ w.frozen = ap (λ (x : World). x.frozen) u.2.others in
    subst (λ (x : World). IsSoundWorld x) (sym (undone_is_before w v b u.1 h u.2))
    (recounted v.counted w u.1 (subst (λ (f : Snapshot). v.counted ≤ entry_count f) frozen h.counted))

-- and it is held by what is frozen and the count that held it before
pub undone_is_held : (v : World) (b : Before) (f : Frozen) (p : Pulser) → IsHeldBy v f p → IsUndoable v b → IsHeldBy (undone b v) f p
undone_is_held v b f p h u = record { sound = undone_is_sound v b h.sound u; copied = h.copied; counts = h.counts }

-- the World of books after an undo, with what is frozen and the count, is that of the books before, undone
pub parts_undone : (b : Before) (before after : Books) (f : Frozen) (p : Pulser) → IsStep (undone b) before after → frozen_entries after ≡ frozen_entries before
    → world_of_parts after f p ≡ undone b (world_of_parts before f p)
parts_undone b before after f p step entries =
    let snapshot : Snapshot = snapshot_with (frozen_entries before) before.snapshots.mark f in
    let whole : world_of_books after (done_by p) snapshot ≡ undone b (world_of_books before (done_by p) snapshot) = step (done_by p) snapshot in
    (λ i. world_of_books after (done_by p) (snapshot_with (entries i) (whole i).mark f)) ∙ whole
