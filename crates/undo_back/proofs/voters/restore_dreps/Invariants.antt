use Rattle.std.proofs.Common.{◌≡◌, drop}
use Rattle.gov_ids.specs.Orders.{credential_cmp}
use Rattle.undo_model.specs.Undone.{with_old}
use Rattle.undo_back.proofs.voters.restore_dreps.Given as goal

-- what is left put back over the DReps so far is all put back, and the count is the old one
abbrev pub invariant-loop-drep : goal.invariant-loop-drep
invariant-loop-drep l = record l.dreps { dreps = with_old credential_cmp (drop l.drep-index l.olds) l.dreps.dreps } ≡ record { dreps = with_old credential_cmp l.olds l.fn.dreps.dreps; dormant = l.dormant }
