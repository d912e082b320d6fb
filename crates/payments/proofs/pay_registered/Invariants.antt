use Rattle.std.proofs.Common.{◌≡◌, ◌+◌, drop}
use Rattle.gov_ids.specs.Orders.{credential_cmp}
use Rattle.view_map.specs.View.{frozen_of}
use Rattle.stake_book.specs.Stakes.{HasRoom, accounts_of}
use Rattle.payments.specs.Amounts.{accounts_credited, claimed_of}
use Rattle.payments.proofs.pay_registered.Given as goal

-- those that are left, once paid, leave what all leave
abbrev pub invariant-loop-c : goal.invariant-loop-c
invariant-loop-c l = record {
  accounts : accounts_credited (drop l.c-index l.payments) (accounts_of l.stake) ≡ accounts_credited l.payments (accounts_of l.fn.stake);
  paid : l.paid + claimed_of (accounts_of l.stake) (drop l.c-index l.payments) ≡ claimed_of (accounts_of l.fn.stake) l.payments;
  room : HasRoom (claimed_of (accounts_of l.stake) (drop l.c-index l.payments)) l.stake;
  outputs : l.stake.outputs ≡ l.fn.stake.outputs;
  frozen : frozen_of credential_cmp l.stake.accounts ≡ frozen_of credential_cmp l.fn.stake.accounts;
}
