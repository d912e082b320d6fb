use Rattle.std.proofs.Common.{◌≡◌, ◌+◌, ◌≤◌, [], drop, sum_by}
use Rattle.stake_book.specs.Stakes.{accounts_of, balances_in}
use Rattle.coin_frac.specs.declared.TheConstants.{SUPPLY_LIMIT}
use Rattle.genesis_books.proofs.FirstBook.{listed_rewards, with_listed}
use Rattle.genesis_books.proofs.first.first_accounts.Given as goal

-- there is no output, the balances with what is left are within the limit, and the accounts with what is left are all
abbrev pub invariant-loop-credential : goal.invariant-loop-credential
invariant-loop-credential l = record {
  none : l.stake.outputs ≡ record { outputs = []; used = [] };
  room : balances_in (accounts_of l.stake) + sum_by listed_rewards (drop l.credential-index l.credential-items) ≤ SUPPLY_LIMIT;
  rest : with_listed (drop l.credential-index l.credential-items) (accounts_of l.stake) ≡ with_listed l.fn.genesis.accounts [];
}
