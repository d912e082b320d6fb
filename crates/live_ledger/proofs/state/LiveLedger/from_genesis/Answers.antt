use Rattle.std.proofs.Common.{ℕ, ◌<◌, ap, sym, subst, ◌∙◌}
use Rattle.draft_changes.specs.of_ledger_books.declared.Books.{Books}
use Rattle.draft_changes.specs.of_ledger_books.Parts.{frozen_entries, ledger_of_books}
use Rattle.ledger_model.specs.Ledger.{Ledger}
use Rattle.tx_records.proofs.Parts.{genesis_parts}
use Rattle.live_ledger.specs.Kept.{IsLiveLedger}
use Rattle.live_ledger.proofs.Starting.{genesis_kept, made_ledger}
use Rattle.live_ledger.proofs.state.LiveLedger.from_genesis.Goals as goal

pub first_books-requires : goal.first_books-requires
first_books-requires c = record { unbroken = sym c.in_ok-rule.ensures ∙ c.in_default.is }

pub nonzero_div-books : goal.nonzero_div-books
nonzero_div-books c = subst (λ (n : ℕ). 0 < n) (sym c.from.ensures) (genesis_parts c.args.genesis.now c.requires.within).long

pub invariant_of-result : goal.invariant_of-result
invariant_of-result c =
    let books = c.in-Ok.ensures in
    let made = made_ledger c.args.genesis.now c.in_ok-state.state c.from.result c.in-Ok.stake c.in-Ok.pools c.in-Ok.dreps c.in-Ok.hot c.new.result
    c.in_ok-state.ensures c.from.ensures books.outputs books.used books.accounts books.pools books.dreps books.dormant books.hot c.new.ensures in
    subst (λ (l : Ledger). IsLiveLedger l) (sym (ap (λ (b : Books). ledger_of_books b) c.in_ok-books-in-Ok.ensures ∙ made))
    (genesis_kept c.args.genesis.now c.requires.within (sym c.in_ok-rule.ensures ∙ c.in_default.is))

pub returns-in_ok-books-in-Ok : goal.returns-in_ok-books-in-Ok
returns-in_ok-books-in-Ok c =
    let books = c.in-Ok.ensures in
    let made = made_ledger c.args.genesis.now c.in_ok-state.state c.from.result c.in-Ok.stake c.in-Ok.pools c.in-Ok.dreps c.in-Ok.hot c.new.result
    c.in_ok-state.ensures c.from.ensures books.outputs books.used books.accounts books.pools books.dreps books.dormant books.hot c.new.ensures in
    let held = c.in_ok-books-in-Ok.ensures in
    let ledger = ap (λ (b : Books). ledger_of_books b) held ∙ made in
    let frozen = ap (λ (b : Books). frozen_entries b) held ∙ books.frozen in
    (sym c.in_ok-rule.ensures ∙ c.in_default.is, λ i. record { ledger = ledger i; frozen = frozen i })
