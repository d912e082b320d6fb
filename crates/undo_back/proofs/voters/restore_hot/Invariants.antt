use Rattle.std.proofs.Common.{◌≡◌, drop}
use Rattle.gov_ids.specs.Orders.{credential_cmp}
use Rattle.undo_model.specs.Undone.{with_old}
use Rattle.undo_back.proofs.voters.restore_hot.Given as goal

-- what is left put back over the entries so far is all put back
abbrev pub invariant-loop-cold : goal.invariant-loop-cold
invariant-loop-cold l = with_old credential_cmp (drop l.cold-index l.olds) l.hot ≡ with_old credential_cmp l.olds l.fn.hot
