-- The ledger of books of which accounts, state and proposals have changed.
use Rattle.std.proofs.Common.{◌≡◌, ℕ, ◌+◌, ◌-◌, List, ◌∙◌, sym, arith}
use Rattle.gov_actions.specs.declared.action.Proposal.{Proposal}
use Rattle.gov_actions.specs.declared.state.EnactState.{EnactState}
use Rattle.gov_ids.specs.declared.Credential.{Credential}
use Rattle.ledger_books.specs.declared.Books.{Books}
use Rattle.ledger_books.specs.Parts.{HoldsSupply, ledger_of_books}
use Rattle.ledger_model.specs.Flows.{Flow}
use Rattle.ledger_model.specs.Moves.{IsMovedBy}
use Rattle.ledger_model.specs.Supply.{pots_of}
use Rattle.payments.specs.Amounts.{accounts_credited, claimed_of, unclaimed_of}
use Rattle.run_model.specs.Boundary.{paid_out, withdrawals_paid}
use Rattle.stake_book.specs.Stakes.{Stakes, accounts_of}
use Rattle.tx_balance.specs.Laws.{MovesKeepSupply}

module _ (b : Books) (stake : Stakes) (state : EnactState) (ps : List (Credential × ℕ)) (accounts : accounts_of stake ≡ accounts_credited ps (accounts_of b.stake)) (outputs : stake.outputs ≡ b.stake.outputs) where
  -- the treasury paid what accounts claim
  pub withdrawn : state ≡ record b.state { treasury = b.state.treasury - claimed_of (accounts_of b.stake) ps }
      → ledger_of_books (record b { stake = stake; state = state }) ≡ withdrawals_paid ps (ledger_of_books b)
  withdrawn is = λ i. record (ledger_of_books b) { outputs = (outputs i).outputs; used = (outputs i).used; accounts = accounts i; state = is i }

  -- the treasury has what no account claims
  pub refunded : (kept : List Proposal) → state ≡ record b.state { treasury = b.state.treasury + unclaimed_of (accounts_of b.stake) ps }
      → ledger_of_books (record b { stake = stake; state = state; proposals = kept }) ≡ paid_out ps (record (ledger_of_books b) { proposals = kept })
  refunded kept is = λ i. record (ledger_of_books b) { outputs = (outputs i).outputs; used = (outputs i).used; accounts = accounts i; state = is i; proposals = kept }

-- what moves by flows holds the supply that it held
pub held_after : MovesKeepSupply → (flows : List Flow) (a b : Books) → b.supply ≡ a.supply → HoldsSupply a → IsMovedBy flows (pots_of (ledger_of_books a)) (pots_of (ledger_of_books b)) → HoldsSupply b
held_after keep flows a b same holds moved = record {
  balanced = keep flows (pots_of (ledger_of_books a)) (pots_of (ledger_of_books b)) moved ∙ holds.balanced ∙ sym same;
  within = omega (arith, same, holds.within);
}
