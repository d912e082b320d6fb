-- The laws on a whole boundary; src/boundary.rt has a function for each, whose contract is the law.
use Rattle.std.specs.Prelude.{◌≤◌}
use Rattle.gov_model.specs.Laws.{HaveDistinctIds}
use Rattle.ledger_model.specs.Supply.{pots_of}
use Rattle.ledger_model.specs.Moves.{IsMovedBy}
use Rattle.run_model.specs.Boundary.{claimed, payments_due, after_enactment, world_after_boundary}
use Rattle.run_model.specs.BoundaryFlows.{flows_of_boundary}
use Rattle.run_model.specs.World.{World}
use Rattle.epoch_balance.specs.StepLaws.{HasAccounts, HasCoveredUpdate}

-- the treasury covers what registered accounts claim of the enacted withdrawals
abbrev pub CoversPayments : World → Type 0
CoversPayments w = claimed (after_enactment w).ledger (payments_due w) ≤ (after_enactment w).ledger.state.treasury

-- it does where it has not lost since the freeze
abbrev pub PaymentsAreCovered : Type 0
PaymentsAreCovered = (w : World) → HaveDistinctIds w.frozen.proposals →
    w.frozen.start.treasury ≤ w.ledger.state.treasury → CoversPayments w

-- a boundary moves the pots by its flows
abbrev pub BoundaryBalances : Type 0
BoundaryBalances = (w : World) → HasAccounts w.ledger → HasCoveredUpdate w → HaveDistinctIds w.ledger.proposals →
    CoversPayments w → IsMovedBy (flows_of_boundary w) (pots_of w.ledger) (pots_of (world_after_boundary w).ledger)
