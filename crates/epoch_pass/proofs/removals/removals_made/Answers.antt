use Rattle.std.proofs.Common.{◌≡◌, ℕ, List, map, refl, ap, sym, subst, ◌∙◌}
use Rattle.gov_ids.specs.declared.ActionId.{ActionId}
use Rattle.gov_ids.specs.declared.Credential.{Credential}
use Rattle.gov_model.specs.Ratified.{ids_of}
use Rattle.ledger_books.specs.declared.Books.{Books}
use Rattle.ledger_books.specs.Parts.{ledger_of_books, world_of_books}
use Rattle.ledger_model.specs.Flows.{deposits}
use Rattle.ledger_model.specs.Ledger.{Ledger}
use Rattle.ledger_model.specs.Moves.{IsMovedBy}
use Rattle.ledger_model.specs.Supply.{pots_of}
use Rattle.run_model.specs.Boundary.{paid_out}
use Rattle.run_model.specs.BoundaryFlows.{payment}
use Rattle.epoch_pass.specs.Removals.{refunds_of}
use Rattle.epoch_pass.proofs.Cuts.{has_room, kept_by, leaving_by, paid_out_is, refunds_are, removed_is, treasury_fits}
use Rattle.epoch_pass.proofs.Ledgers.{held_after, refunded}
use Rattle.epoch_pass.proofs.removals.removals_made.Goals as goal

pub refunded-requires : goal.refunded-requires
refunded-requires c =
    let due : List (Credential × ℕ) = refunds_of (leaving_by c.args.b c.args.ratified.now c.args.expired.now) in
    let ids : List ActionId = ids_of (kept_by c.args.b c.args.ratified.now c.args.expired.now) in
    record { room = has_room c.args.b c.requires.holds ids due refl; fits = treasury_fits c.args.b c.requires.holds ids due refl }

module _ (c : goal.In-Ok) where
  abbrev due : List (Credential × ℕ)
  due = refunds_of (leaving_by c.args.b c.args.ratified.now c.args.expired.now)

  -- the books after it
  abbrev after : Books
  after = record c.args.b { stake = c.in-Ok.stake; state = c.in-Ok.state; proposals = c.refunded.new.proposals }

  ledger_after : ledger_of_books after ≡ paid_out due (record (ledger_of_books c.args.b) { proposals = kept_by c.args.b c.args.ratified.now c.args.expired.now })
  ledger_after =
      let paid = c.in-Ok.ensures.paid in
      refunded c.args.b c.in-Ok.stake c.in-Ok.state due paid.credited paid.outputs c.refunded.new.proposals paid.held
      ∙ (λ i. paid_out due (record (ledger_of_books c.args.b) { proposals = c.in-Ok.ensures.kept i }))

  moved_after : IsMovedBy (map (payment deposits (ledger_of_books c.args.b)) due) (pots_of (ledger_of_books c.args.b)) (pots_of (ledger_of_books after))
  moved_after =
      subst (λ (l : Ledger). IsMovedBy (map (payment deposits (ledger_of_books c.args.b)) due) (pots_of (ledger_of_books c.args.b)) (pots_of l)) (sym ledger_after)
      (c.cuts_balance.ensures (ledger_of_books c.args.b) c.args.ratified.now c.args.expired.now c.in-Ok.ensures.accounts.in_order c.in-Ok.ensures.distinct)

pub returns-in-Ok-clause-world : goal.returns-in-Ok-clause-world
returns-in-Ok-clause-world c = λ counted f decided.
    ap (λ (l : Ledger). record (world_of_books c.args.b counted f) { ledger = l }) (ledger_after c ∙ paid_out_is c.args.b c.args.ratified.now c.args.expired.now counted f decided)

pub returns-in-Ok-clause-removed : goal.returns-in-Ok-clause-removed
returns-in-Ok-clause-removed c = λ counted f decided. c.in-Ok.ensures.removed ∙ removed_is c.args.b c.args.ratified.now c.args.expired.now counted f decided

pub returns-in-Ok-clause-holds : goal.returns-in-Ok-clause-holds
returns-in-Ok-clause-holds c = held_after c.moves_keep_supply.ensures (map (payment deposits (ledger_of_books c.args.b)) (due c)) c.args.b (after c) refl c.requires.holds (moved_after c)

pub returns-in-Ok-clause-moved : goal.returns-in-Ok-clause-moved
returns-in-Ok-clause-moved c = λ counted f decided.
    subst (λ (ps : List (Credential × ℕ)). IsMovedBy (map (payment deposits (ledger_of_books c.args.b)) ps) (pots_of (ledger_of_books c.args.b)) (pots_of (ledger_of_books (after c))))
    (refunds_are c.args.b c.args.ratified.now c.args.expired.now counted f decided) (moved_after c)
