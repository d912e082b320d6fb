use Rattle.std.proofs.Common.{◌≡◌, drop}
use Rattle.gov_ids.specs.Orders.{credential_cmp}
use Rattle.view_map.specs.View.{frozen_of}
use Rattle.stake_book.specs.Ended.{ended_at}
use Rattle.stake_book.proofs.StakeBook.clear_each.Given as goal

-- with those that are left ended too, all are
abbrev pub invariant-loop-c : goal.invariant-loop-c
invariant-loop-c l = record {
  outputs : l.self.outputs ≡ l.fn.self.outputs;
  live : ended_at l.leaving (drop l.c-index l.delegating) l.self.accounts.live ≡ ended_at l.leaving l.delegating l.fn.self.accounts.live;
  frozen : frozen_of credential_cmp l.self.accounts ≡ frozen_of credential_cmp l.fn.self.accounts;
}
