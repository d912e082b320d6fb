use Rattle.std.proofs.Common.{◌≡◌, ◌+◌, ◌-◌, ◌*◌, ◌≤◌, ℕ, sum_by}
use Rattle.std.specs.List.{range_with_len}
use Rattle.load_model.specs.Amounts.{account_count, account_deposit, first_account, spent_by_registration, weight}
use Rattle.gen_load.proofs.accounts.spent_by.Given as goal

-- what is spent so far, and on the accounts that are left, is all of it
abbrev pub invariant-loop-account : goal.invariant-loop-account
invariant-loop-account l =
    let end : ℕ = first_account l.registration + account_count l.accounts l.registration in
    record {
      spent : l.spent + sum_by (λ i. weight l.seed i + account_deposit) (range_with_len l.account (end - l.account)) ≡ spent_by_registration l.seed l.accounts l.registration;
      from : first_account l.registration ≤ l.account;
      most : l.spent ≤ 1 + 2001 * (l.account - first_account l.registration);
    }
