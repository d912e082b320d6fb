use Rattle.std.proofs.Common.{map, refl, ◌∙◌}
use Rattle.ledger_books.specs.declared.Books.{Books}
use Rattle.ledger_books.specs.Parts.{ledger_of_books}
use Rattle.ledger_model.specs.Flows.{deposits}
use Rattle.ledger_model.specs.Ledger.{Ledger}
use Rattle.ledger_model.specs.Moves.{IsMovedBy}
use Rattle.ledger_model.specs.Supply.{pots_of}
use Rattle.run_model.specs.Boundary.{pool_refunds, terms_turned}
use Rattle.run_model.specs.BoundaryFlows.{payment}
use Rattle.epoch_books.proofs.Held.{held_after}
use Rattle.epoch_books.proofs.Refunds.{refunds_have_room, refunds_fit, retired_are, refunded, reaping_is_step, reaping_moves}
use Rattle.epoch_books.proofs.pools.pools_reaped.Goals as goal

pub reaped-requires : goal.reaped-requires
reaped-requires c = record { room = refunds_have_room c.args.b c.requires.holds; fits = refunds_fit c.args.b c.requires.holds }

module _ (c : goal.In-Ok) where
  -- the books after it
  abbrev after : Books
  after = refunded c.args.b c.in-Ok.stake c.in-Ok.state c.reaped.new.pools

  moved : let l : Ledger = terms_turned (ledger_of_books c.args.b) in IsMovedBy (map (payment deposits l) (pool_refunds l)) (pots_of (ledger_of_books c.args.b)) (pots_of (ledger_of_books after))
  moved = reaping_moves c.args.b c.in-Ok.stake c.in-Ok.state c.reaped.new.pools c.in-Ok.ensures.left c.in-Ok.ensures.refunded c.in-Ok.ensures.kept.in_order

pub returns-in-Ok-clause-world : goal.returns-in-Ok-clause-world
returns-in-Ok-clause-world c = reaping_is_step c.args.b c.in-Ok.stake c.in-Ok.state c.reaped.new.pools c.in-Ok.ensures.left c.in-Ok.ensures.refunded

pub returns-in-Ok-clause-retired : goal.returns-in-Ok-clause-retired
returns-in-Ok-clause-retired c = c.in-Ok.ensures.retired ∙ retired_are c.args.b

pub returns-in-Ok-clause-moved : goal.returns-in-Ok-clause-moved
returns-in-Ok-clause-moved c = moved c

pub returns-in-Ok-clause-holds : goal.returns-in-Ok-clause-holds
returns-in-Ok-clause-holds c =
    let l : Ledger = terms_turned (ledger_of_books c.args.b) in
    held_after c.args.b (after c) (map (payment deposits l) (pool_refunds l)) c.requires.holds refl (moved c)
