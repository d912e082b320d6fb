use Rattle.std.proofs.Common.{◌≡◌, drop}
use Rattle.gov_ids.specs.Orders.{credential_cmp}
use Rattle.book_records.specs.Outputs.{lovelace_in}
use Rattle.stake_book.specs.Stakes.{accounts_of}
use Rattle.undo_model.specs.Undone.{with_old}
use Rattle.view_map.specs.View.{frozen_of}
use Rattle.undo_back.specs.Steps.{AccountsFit}
use Rattle.undo_back.proofs.stake.put_accounts.Given as goal

-- there is room for what is left; put back over the accounts so far it is all put back
abbrev pub invariant-loop-c : goal.invariant-loop-c
invariant-loop-c l = record {
  room : AccountsFit (lovelace_in l.fn.stake.outputs.outputs) (drop l.c-index l.olds) (accounts_of l.stake);
  accounts : with_old credential_cmp (drop l.c-index l.olds) (accounts_of l.stake) ≡ with_old credential_cmp l.olds (accounts_of l.fn.stake);
  outputs : l.stake.outputs ≡ l.fn.stake.outputs;
  frozen : frozen_of credential_cmp l.stake.accounts ≡ frozen_of credential_cmp l.fn.stake.accounts;
}
