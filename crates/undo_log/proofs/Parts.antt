-- The World of the books after old values were put back, and that it is held by what held it before.
use Rattle.std.proofs.Common.{◌≡◌, List, [], ◌∷◌, refl, ap, ◌∙◌}
use Rattle.drep_pulser.specs.declared.Pulser.{Pulser}
use Rattle.drep_pulser.specs.Pulsers.{done_by}
use Rattle.gov_model.specs.Snapshot.{Snapshot}
use Rattle.ledger_books.specs.declared.Books.{Books}
use Rattle.ledger_books.specs.Parts.{IsStep, frozen_entries, world_of_books}
use Rattle.undo_back.specs.of_ledger_state.Parts.{world_of_parts}
use Rattle.undo_back.specs.of_ledger_state.Worlds.{IsHeldBy, snapshot_with}
use Rattle.run_model.specs.World.{World}
use Rattle.snapshots.specs.declared.frozen.Frozen.{Frozen}
use Rattle.undo_back.proofs.Undoing.{undone_is_held}
use Rattle.undo_model.specs.Undone.{Before}
use Rattle.undo_log.specs.Back.{AllUndoable, undone_all}

-- no undo changes the stakes of pools
mark_stays : (bs : List Before) (w : World) → (undone_all bs w).mark ≡ w.mark
mark_stays [] w = refl
mark_stays (b ∷ bs) w = mark_stays bs w

-- the World of books after these undos, with what is frozen and the count
pub parts_undone : (bs : List Before) (before after : Books) (f : Frozen) (p : Pulser) → IsStep (undone_all bs) before after → frozen_entries after ≡ frozen_entries before
    → world_of_parts after f p ≡ undone_all bs (world_of_parts before f p)
parts_undone bs before after f p step entries =
    let snapshot : Snapshot = snapshot_with (frozen_entries before) before.snapshots.mark f in
    let whole : world_of_books after (done_by p) snapshot ≡ undone_all bs (world_of_books before (done_by p) snapshot) = step (done_by p) snapshot in
    let mark : after.snapshots.mark ≡ before.snapshots.mark = ap (λ (w : World). w.mark) whole ∙ mark_stays bs (world_of_books before (done_by p) snapshot) in
    (λ i. world_of_books after (done_by p) (snapshot_with (entries i) (mark i) f)) ∙ whole

-- what held the World holds it after these undos
pub all_held : (bs : List Before) (w : World) (f : Frozen) (p : Pulser) → IsHeldBy w f p → AllUndoable bs w → IsHeldBy (undone_all bs w) f p
all_held [] w f p h u = h
all_held (b ∷ bs) w f p h u = undone_is_held (undone_all bs w) b f p (all_held bs w f p h u.0) u.1
