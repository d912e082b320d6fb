use Rattle.std.proofs.Common.{◌≡◌, ap, sym, ◌∙◌}
use Rattle.std.proofs.lemmas.Result.{IfOk-weaker}
use Rattle.ledger_state.proofs.Worlds.{held_along}
use Rattle.ledger_state.specs.Parts.{world_of_parts}
use Rattle.run_model.specs.World.{World}
use Rattle.undo_model.specs.Undone.{undone}
use Rattle.undo_back.proofs.Undoing.{parts_undone, undone_is_held}
use Rattle.undo_back.proofs.state.undo.Goals as goal

pub ledger_of_parts-requires : goal.ledger_of_parts-requires
ledger_of_parts-requires c =
    let parts = c.into_books-books.result in
    let e = c.into_books-books.ensures in
    let same = parts_undone c.args.before parts.0 c.in-Ok.books parts.1 parts.2 c.in-Ok.ensures.world c.in-Ok.ensures.frozen ∙ ap (λ (w : World). undone c.args.before w) e.world in
    held_along (undone c.args.before c.args.s) (world_of_parts c.in-Ok.books parts.1 parts.2) parts.1 parts.2 (sym same)
    (undone_is_held c.args.s c.args.before parts.1 parts.2 e.held c.requires)

pub returns-in-Ok : goal.returns-in-Ok
returns-in-Ok c =
    let parts = c.into_books-books.result in
    let e = c.into_books-books.ensures in
    let same = parts_undone c.args.before parts.0 c.in-Ok.books parts.1 parts.2 c.in-Ok.ensures.world c.in-Ok.ensures.frozen ∙ ap (λ (w : World). undone c.args.before w) e.world in
    IfOk-weaker c.ledger_of_parts.result (λ t. t ≡ world_of_parts c.in-Ok.books parts.1 parts.2) (λ t. t ≡ undone c.args.before c.args.s) (λ t is. is ∙ same) c.ledger_of_parts.ensures
