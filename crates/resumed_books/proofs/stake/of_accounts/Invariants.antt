use Rattle.std.proofs.Common.{◌≡◌, ◌+◌, ◌≤◌, [], drop}
use Rattle.coin_frac.specs.declared.TheConstants.{SUPPLY_LIMIT}
use Rattle.gov_ids.specs.Orders.{credential_cmp}
use Rattle.maps.proofs.Fresh.{AreFresh}
use Rattle.maps.specs.Maps.{with_values}
use Rattle.stake_book.specs.Stakes.{accounts_of, balances_in}
use Rattle.resumed_books.proofs.stake.of_accounts.Given as goal

-- there is no output; what is left is new, there is room for it, and the accounts with it are all
abbrev pub invariant-loop-credential : goal.invariant-loop-credential
invariant-loop-credential l = record {
  none : l.stake.outputs ≡ record { outputs = []; used = [] };
  fresh : AreFresh credential_cmp (drop l.credential-index l.credential-items) (accounts_of l.stake);
  room : balances_in (accounts_of l.stake) + balances_in (drop l.credential-index l.credential-items) ≤ SUPPLY_LIMIT;
  rest : with_values credential_cmp (drop l.credential-index l.credential-items) (accounts_of l.stake) ≡ with_values credential_cmp l.fn.accounts [];
}
