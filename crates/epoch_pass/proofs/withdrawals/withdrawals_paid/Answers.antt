use Rattle.std.proofs.Common.{◌≡◌, ℕ, List, refl, ap, sym, subst}
use Rattle.gov_ids.specs.declared.Credential.{Credential}
use Rattle.ledger_books.specs.declared.Books.{Books}
use Rattle.ledger_books.specs.Parts.{ledger_of_books, world_of_books}
use Rattle.ledger_model.specs.Ledger.{Ledger}
use Rattle.ledger_model.specs.Moves.{IsMovedBy}
use Rattle.ledger_model.specs.Supply.{pots_of}
use Rattle.run_model.specs.Boundary.{withdrawals_paid}
use Rattle.run_model.specs.BoundaryFlows.{flows_of_targets}
use Rattle.epoch_pass.specs.Reported.{by_credential}
use Rattle.epoch_pass.proofs.Ledgers.{held_after, withdrawn}
use Rattle.epoch_pass.proofs.withdrawals.withdrawals_paid.Goals as goal

module _ (c : goal.In-Ok) where
  abbrev due : List (Credential × ℕ)
  due = by_credential c.args.targets.now

  -- the books after it
  abbrev after : Books
  after = record c.args.b { stake = c.in-Ok.stake; state = c.in-Ok.state }

  ledger_after : ledger_of_books after ≡ withdrawals_paid due (ledger_of_books c.args.b)
  ledger_after =
      let paid = c.in-Ok.ensures.paid in
      withdrawn c.args.b c.in-Ok.stake c.in-Ok.state due paid.credited paid.outputs paid.held

  moved_after : IsMovedBy (flows_of_targets (ledger_of_books c.args.b) due) (pots_of (ledger_of_books c.args.b)) (pots_of (ledger_of_books after))
  moved_after =
      let before : Ledger = ledger_of_books c.args.b in
      subst (λ (l : Ledger). IsMovedBy (flows_of_targets before due) (pots_of before) (pots_of l)) (sym ledger_after)
      (c.payments_balance.ensures before due c.in-Ok.ensures.kept.in_order c.requires.covered)

pub returns-in-Ok-clause-world : goal.returns-in-Ok-clause-world
returns-in-Ok-clause-world c = λ counted f. ap (λ (l : Ledger). record (world_of_books c.args.b counted f) { ledger = l }) (ledger_after c)

pub returns-in-Ok-clause-holds : goal.returns-in-Ok-clause-holds
returns-in-Ok-clause-holds c = held_after c.moves_keep_supply.ensures (flows_of_targets (ledger_of_books c.args.b) (due c)) c.args.b (after c) refl c.requires.holds (moved_after c)

pub returns-in-Ok-clause-moved : goal.returns-in-Ok-clause-moved
returns-in-Ok-clause-moved c = moved_after c
