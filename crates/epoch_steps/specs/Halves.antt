-- The boundary steps from the pass on, after pools are reaped. (EPOCH of the formal specification)
use Rattle.std.specs.Prelude.{List, map}
use Rattle.run_model.specs.Boundary.{donations_joined, dormancy_noted, enacted, members_only, payments_due, removals_made, removed_proposals, withdrawals_paid}
use Rattle.run_model.specs.World.{World, on_ledger}
use Rattle.epoch_ends.specs.Steps.{next_epoch}
use Rattle.epoch_pass.specs.Reported.{removed_in}
use Rattle.tx_records.specs.declared.report.Removed.{Removed}

-- steps 4 and 5: what is ratified is enacted, and withdrawals are paid
abbrev pub after_paying : World → World
after_paying v = on_ledger (withdrawals_paid (payments_due v)) (enacted v)

-- steps 4 to 9, and the number of the next epoch
abbrev pub after_all : World → World
after_all v = on_ledger next_epoch (on_ledger dormancy_noted (on_ledger members_only (on_ledger donations_joined (removals_made (after_paying v)))))

-- each proposal that step 6 removes of a World, in order of submission
abbrev pub removed_from : World → List Removed
removed_from w = map (removed_in w) (removed_proposals w)
