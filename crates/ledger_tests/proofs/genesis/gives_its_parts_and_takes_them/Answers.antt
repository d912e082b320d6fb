use Rattle.std.proofs.Common.{subst, sym}
use Rattle.ledger_books.specs.declared.Books.{Books}
use Rattle.ledger_books.specs.Parts.{ledger_of_books}
use Rattle.ledger_model.specs.Ledger.{Ledger}
use Rattle.live_ledger.specs.Kept.{IsLiveLedger}
use Rattle.ledger_tests.proofs.genesis.gives_its_parts_and_takes_them.Goals as goal

pub of_books-ledger-requires : goal.of_books-ledger-requires
of_books-ledger-requires g c =
    let parts = c.into_books-books.ensures in
    subst (λ (b : Books). IsLiveLedger (ledger_of_books b)) (sym c.in_ok-held.ensures.ok) (subst (λ (l : Ledger). IsLiveLedger l) (sym parts.ledger) parts.kept)
