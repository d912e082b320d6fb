use Rattle.std.proofs.Common.{◌≡◌, drop}
use Rattle.gov_ids.specs.Orders.{credential_cmp}
use Rattle.stake_book.specs.Stakes.{accounts_of}
use Rattle.view_map.specs.View.{frozen_of}
use Rattle.undo_back.specs.Steps.{without_named}
use Rattle.undo_back.proofs.stake.end_accounts.Given as goal

-- what is left ended among the accounts so far is all ended, and the outputs stay
abbrev pub invariant-loop-c : goal.invariant-loop-c
invariant-loop-c l = record {
  accounts : without_named credential_cmp (drop l.c-index l.olds) (accounts_of l.stake) ≡ without_named credential_cmp l.olds (accounts_of l.fn.stake);
  outputs : l.stake.outputs ≡ l.fn.stake.outputs;
  frozen : frozen_of credential_cmp l.stake.accounts ≡ frozen_of credential_cmp l.fn.stake.accounts;
}
