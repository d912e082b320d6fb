use Rattle.std.proofs.Common.{sym, refl}
use Rattle.ledger_books.specs.declared.Books.{Books}
use Rattle.ledger_books.specs.Parts.{ledger_of_books}
use Rattle.ledger_model.specs.Moves.{IsMovedBy}
use Rattle.ledger_model.specs.Supply.{pots_of}
use Rattle.run_model.specs.BoundaryFlows.{flows_of_update}
use Rattle.run_model.specs.Laws.{IsCoveredUpdate}
use Rattle.epoch_books.proofs.Held.{held_after}
use Rattle.epoch_books.proofs.Updates.{rewarded, update_fits, update_has_room, update_is_step, update_moves}
use Rattle.epoch_books.proofs.rewards.update_applied.Goals as goal

pub rewarded-requires : goal.rewarded-requires
rewarded-requires c =
    let covered : IsCoveredUpdate (ledger_of_books c.args.b) c.in-Some.u = c.requires.covered c.in-Some.u (sym c.in-Some.ensures.value) in
    record { room = update_has_room c.args.b c.in-Some.u c.requires.holds covered; fits = update_fits c.args.b c.in-Some.u c.requires.holds covered }

pub overflow_sub-result : goal.overflow_sub-result
overflow_sub-result c = (c.requires.covered c.in-Some.u (sym c.in-Some.ensures.value)).reserves_cover

pub overflow_sub-result-in-Ok : goal.overflow_sub-result-in-Ok
overflow_sub-result-in-Ok c = (c.requires.covered c.in-Some.u (sym c.in-Some.ensures.value)).fees_cover

module _ (c : goal.After-drop-u) where
  -- the books after it
  abbrev after : Books
  after = rewarded c.args.b c.in-Some.u c.in-Ok.stake c.in-Ok.state c.take.new.self

  moved : IsMovedBy (flows_of_update (ledger_of_books c.args.b) c.args.b.pending) (pots_of (ledger_of_books c.args.b)) (pots_of (ledger_of_books after))
  moved = update_moves c.args.b c.in-Some.u c.in-Ok.stake c.in-Ok.state c.take.new.self c.in-Some.ensures.value c.in-Ok.ensures.paid c.in-Ok.ensures.kept.in_order c.requires.covered

pub returns-in-Ok-clause-world : goal.returns-in-Ok-clause-world
returns-in-Ok-clause-world c = update_is_step c.args.b c.in-Some.u c.in-Ok.stake c.in-Ok.state c.take.new.self c.in-Some.ensures.value c.in-Ok.ensures.paid c.take.ensures.after

pub returns-in-Ok-clause-moved : goal.returns-in-Ok-clause-moved
returns-in-Ok-clause-moved c = moved c

pub returns-in-Ok-clause-holds : goal.returns-in-Ok-clause-holds
returns-in-Ok-clause-holds c = held_after c.args.b (after c) (flows_of_update (ledger_of_books c.args.b) c.args.b.pending) c.requires.holds refl (moved c)
