use Rattle.std.proofs.Common.{◌≡◌, drop}
use Rattle.gov_ids.specs.Orders.{credential_cmp, outref_cmp}
use Rattle.stake_book.specs.Stakes.{accounts_of}
use Rattle.view_map.specs.View.{frozen_of}
use Rattle.undo_back.specs.Steps.{without_named}
use Rattle.undo_back.proofs.stake.take_outputs.Given as goal

-- what is left taken from the outputs so far is all taken, and the accounts stay
abbrev pub invariant-loop-r : goal.invariant-loop-r
invariant-loop-r l = record {
  outputs : record l.stake.outputs { outputs = without_named outref_cmp (drop l.r-index l.olds) l.stake.outputs.outputs }
      ≡ record l.fn.stake.outputs { outputs = without_named outref_cmp l.olds l.fn.stake.outputs.outputs };
  accounts : accounts_of l.stake ≡ accounts_of l.fn.stake;
  frozen : frozen_of credential_cmp l.stake.accounts ≡ frozen_of credential_cmp l.fn.stake.accounts;
}
