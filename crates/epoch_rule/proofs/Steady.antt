-- What the first steps of a boundary leave as it is.
use Rattle.std.proofs.Common.{◌≡◌, ℕ, ◌≤◌, List, sym, subst}
use Rattle.gov_ids.specs.declared.Credential.{Credential}
use Rattle.epoch_balance.specs.BoundaryLaws.{CoversPayments}
use Rattle.ledger_books.specs.declared.Books.{Books}
use Rattle.ledger_books.specs.Parts.{ledger_of_books, world_of_books}
use Rattle.gov_model.specs.Snapshot.{Snapshot}
use Rattle.run_model.specs.Boundary.{after_pools, claimed, payments_due}
use Rattle.run_model.specs.World.{World}

-- the treasury covers what is claimed of it already before what was ratified is enacted
pub covered : (b : Books) (counted : ℕ) (s : Snapshot) (w : World) (due : List (Credential × ℕ)) → world_of_books b counted s ≡ after_pools w → due ≡ payments_due w → CoversPayments w
    → claimed (ledger_of_books b) due ≤ b.state.treasury
covered b counted s w due turned are covers =
    subst (λ (v : World). claimed v.ledger due ≤ v.ledger.state.treasury) (sym turned)
    (subst (λ (ps : List (Credential × ℕ)). claimed (after_pools w).ledger ps ≤ (after_pools w).ledger.state.treasury) (sym are) covers)
