-- What the pending reward update makes of the parts of a ledger.
use Rattle.std.proofs.Common.{◌≡◌, ◌<◌, ◌^◌, ◌+◌, ◌-◌, ℕ, Option, Some, None, ap, sym, subst, ◌∙◌, arith}
use Rattle.gov_actions.specs.declared.state.EnactState.{EnactState}
use Rattle.ledger_books.specs.declared.Books.{Books}
use Rattle.ledger_books.specs.Parts.{HoldsSupply, IsStep, ledger_of_books, world_of_books}
use Rattle.ledger_model.specs.Ledger.{Ledger}
use Rattle.ledger_model.specs.Moves.{IsMovedBy}
use Rattle.ledger_model.specs.Supply.{pots_of}
use Rattle.tx_records.specs.declared.record.Rewards.{Rewards}
use Rattle.payments.specs.Amounts.{all_amounts}
use Rattle.run_model.specs.Boundary.{after_rewards, update_applied}
use Rattle.run_model.specs.BoundaryFlows.{flows_of_update}
use Rattle.run_model.specs.Laws.{IsCoveredUpdate}
use Rattle.stake_book.specs.Stakes.{Stakes, HasRoom}
use Rattle.epoch_balance.specs.StepLaws.{HasAccounts}
use Rattle.epoch_balance.proofs.StepMoves.{rewards_balance}
use Rattle.epoch_books.specs.Rewarded.{AreRewarded}
use Rattle.epoch_books.proofs.Held.{nothing_frozen}

-- an update that is covered finds room
module _ (b : Books) (u : Rewards) (h : HoldsSupply b) (covered : IsCoveredUpdate (ledger_of_books b) u) where
  pub update_has_room : HasRoom (all_amounts u.rewards) b.stake
  update_has_room = omega (arith, h.balanced, h.within, covered.balanced, covered.reserves_cover, covered.fees_cover)

  pub update_fits : b.state.treasury + u.to_treasury + all_amounts u.rewards < 2 ^ 64
  update_fits = omega (arith, h.balanced, h.within, covered.balanced, covered.reserves_cover, covered.fees_cover)

-- the treasury gains twice
pub gained_twice : (s0 s1 s2 s3 : EnactState) (n m : ℕ) → s1 ≡ s0 → s2 ≡ record s0 { treasury = s1.treasury + n } → s3 ≡ record s2 { treasury = s2.treasury + m } → s3 ≡ record s0 { treasury = s0.treasury + n + m }
gained_twice s0 s1 s2 s3 n m read first second =
    second
    ∙ ap (λ (s : EnactState). let t : EnactState = record s { treasury = s.treasury + m } in t) first
    ∙ ap (λ (s : EnactState). let t : EnactState = record s0 { treasury = s.treasury + n + m } in t) read

module _ (b : Books) (u : Rewards) (stake : Stakes) (state : EnactState) (pending : Option Rewards) where
  -- the parts after the update
  abbrev pub rewarded : Books
  rewarded = record b {
    stake = stake;
    state = state;
    pending = pending;
    reserves = b.reserves - u.from_reserves;
    fees = b.fees - u.from_fees;
  }

  module _ (there : Some u ≡ b.pending) (paid : AreRewarded u b.stake b.state stake state) where
    ledger_after : ledger_of_books rewarded ≡ update_applied b.pending (ledger_of_books b)
    ledger_after =
        let applied : ledger_of_books rewarded ≡ update_applied (Some u) (ledger_of_books b) =
        λ i. record (ledger_of_books b) {
          reserves = b.reserves - u.from_reserves;
          fees = b.fees - u.from_fees;
          state = paid.held i;
          outputs = (paid.outputs i).outputs;
          used = (paid.outputs i).used;
          accounts = paid.credited i;
        } in
        applied ∙ ap (λ (o : Option Rewards). update_applied o (ledger_of_books b)) there

    pub update_is_step : pending ≡ None → IsStep after_rewards b rewarded
    update_is_step none = λ counted f i. record (world_of_books b counted f) { ledger = ledger_after i; pending = none i }

    pub update_moves : HasAccounts (ledger_of_books b) → ((u : Rewards) → b.pending ≡ Some u → IsCoveredUpdate (ledger_of_books b) u)
        → IsMovedBy (flows_of_update (ledger_of_books b) b.pending) (pots_of (ledger_of_books b)) (pots_of (ledger_of_books rewarded))
    update_moves m covered =
        subst (λ (l : Ledger). IsMovedBy (flows_of_update (ledger_of_books b) b.pending) (pots_of (ledger_of_books b)) (pots_of l)) (sym ledger_after)
        (rewards_balance (world_of_books b 0 (nothing_frozen b)) m covered)
