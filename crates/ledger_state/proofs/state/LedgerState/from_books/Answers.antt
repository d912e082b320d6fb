use Rattle.std.proofs.Common.{sym}
use Rattle.ledger_state.proofs.Worlds.{held_along, ledger_kept, parts_are}
use Rattle.ledger_state.proofs.state.LedgerState.from_books.Goals as goal

pub of_books-live-requires : goal.of_books-live-requires
of_books-live-requires c = ledger_kept _ c.requires.sound.ledger

pub invariant_of-result : goal.invariant_of-result
invariant_of-result c =
    let e = c.of_books-live.ensures in
    held_along _ _ c.args.f c.args.p (parts_are c.args.b.value _ _ _ c.args.f c.args.p (sym e.ledger) (sym e.frozen) (sym e.snapshots) (sym e.pending)) c.requires

pub returns : goal.returns
returns c =
    let e = c.of_books-live.ensures in
    sym (parts_are c.args.b.value _ _ _ c.args.f c.args.p (sym e.ledger) (sym e.frozen) (sym e.snapshots) (sym e.pending))
