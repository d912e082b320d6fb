use Rattle.std.proofs.Common.{◌≡◌, ap, drop, subst, sym, ◌∙◌}
use Rattle.std.proofs.lemmas.Result.{IfOk-weaker}
use Rattle.drep_pulser.specs.Pulsers.{done_by}
use Rattle.ledger_books.specs.Parts.{frozen_entries}
use Rattle.undo_back.proofs.proofs_of_ledger_state.Worlds.{held_along}
use Rattle.undo_back.specs.of_ledger_state.Parts.{world_of_parts}
use Rattle.undo_back.specs.of_ledger_state.Worlds.{snapshot_with}
use Rattle.run_model.specs.World.{World}
use Rattle.undo_log.specs.Back.{AllUndoable, undone_all}
use Rattle.undo_log.proofs.Parts.{all_held, parts_undone}
use Rattle.undo_log.proofs.Undone.{undoable_later}
use Rattle.undo_log.proofs.back.undo_later.Goals as goal

pub undo_from_last-requires : goal.undo_from_last-requires
undo_from_last-requires c =
    let parts = c.into_books-books.result in (
      done_by parts.2,
      snapshot_with (frozen_entries parts.0) parts.0.snapshots.mark parts.1,
      subst (λ (w : World). AllUndoable c.args.entries.now.items w) (sym c.into_books-books.ensures.world) c.requires,
    )

pub ledger_of_parts-requires : goal.ledger_of_parts-requires
ledger_of_parts-requires c =
    let parts = c.into_books-books.result in
    let e = c.into_books-books.ensures in
    let later = drop c.args.n c.args.entries.now.items in
    let same = parts_undone later parts.0 c.in-Ok.books parts.1 parts.2 c.in-Ok.ensures.world c.in-Ok.ensures.frozen ∙ ap (λ (w : World). undone_all later w) e.world in
    held_along (undone_all later c.args.s) (world_of_parts c.in-Ok.books parts.1 parts.2) parts.1 parts.2 (sym same)
    (all_held later c.args.s parts.1 parts.2 e.held (undoable_later c.args.n c.args.entries.now.items c.args.s c.requires))

pub returns-in-Ok-clause-state : goal.returns-in-Ok-clause-state
returns-in-Ok-clause-state c =
    let parts = c.into_books-books.result in
    let e = c.into_books-books.ensures in
    let later = drop c.args.n c.args.entries.now.items in
    let same = parts_undone later parts.0 c.in-Ok.books parts.1 parts.2 c.in-Ok.ensures.world c.in-Ok.ensures.frozen ∙ ap (λ (w : World). undone_all later w) e.world in
    IfOk-weaker c.ledger_of_parts.result (λ t. t ≡ world_of_parts c.in-Ok.books parts.1 parts.2) (λ t. t ≡ undone_all later c.args.s) (λ t is. is ∙ same) c.ledger_of_parts.ensures
