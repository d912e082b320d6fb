use Rattle.std.proofs.Common.{ap, subst, sym, ◌∙◌}
use Rattle.snapshots.specs.declared.frozen.Frozen.{Frozen}
use Rattle.ledger_state.specs.Parts.{world_of_parts}
use Rattle.ledger_state.specs.Worlds.{IsHeldBy}
use Rattle.ledger_state.specs.contracts.state.LedgerState.{the_view}
use Rattle.ledger_state.proofs.Worlds.{held_along, parts_are}
use Rattle.ledger_state.proofs.state.LedgerState.into_books.Goals as goal

pub returns : goal.returns
returns c =
    let a = c.self.inside in
    let e = c.into_books-books.ensures in
    let books = c.into_books-books.result in
    record {
      world = ap (λ (f : Frozen). world_of_parts books f a.pulser) c.into_value.ensures ∙ parts_are books a.live a.snapshots a.pending a.frozen a.pulser e.ledger e.frozen e.snapshots e.pending ∙ c.self.view_is;
      held = subst (λ (f : Frozen). IsHeldBy c.args.self f a.pulser) (sym c.into_value.ensures) (held_along (the_view a) c.args.self a.frozen a.pulser c.self.view_is c.self.invariant);
    }
