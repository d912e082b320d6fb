use Rattle.std.proofs.Common.{◌≡◌, length}
use Rattle.std.specs.Vec.Iter.{into_iter_items, into_iter_len}
use Rattle.gov_ids.specs.Orders.{credential_cmp, outref_cmp}
use Rattle.maps.specs.Maps.{IsMap}
use Rattle.stake_book.specs.Stakes.{accounts_of, balances_in}
use Rattle.undo_model.specs.Undone.{with_old}
use Rattle.view_map.specs.View.{frozen_of}
use Rattle.undo_back.specs.Steps.{OutputsFit}
use Rattle.undo_back.proofs.stake.put_outputs.Given as goal

-- there is room for what is left; put back over the outputs so far it is all put back
abbrev pub invariant-loop-r : goal.invariant-loop-r
invariant-loop-r l = record {
  left : into_iter_len l.r-iterator ≡ length (into_iter_items l.r-iterator);
  in_order : IsMap outref_cmp l.stake.outputs.outputs;
  room : OutputsFit (balances_in (accounts_of l.fn.stake)) (into_iter_items l.r-iterator) l.stake.outputs.outputs;
  outputs : record l.stake.outputs { outputs = with_old outref_cmp (into_iter_items l.r-iterator) l.stake.outputs.outputs }
      ≡ record l.fn.stake.outputs { outputs = with_old outref_cmp l.fn.olds l.fn.stake.outputs.outputs };
  accounts : accounts_of l.stake ≡ accounts_of l.fn.stake;
  frozen : frozen_of credential_cmp l.stake.accounts ≡ frozen_of credential_cmp l.fn.stake.accounts;
}
