-- What payments add up to, over the accounts of a ledger. (EPOCH of the formal specification)
use Rattle.std.specs.Prelude.{ℕ, ◌+◌, not, List, Option, Some, None, filter, sum_by, if◌then◌else◌}
use Rattle.gov_ids.specs.declared.Account.{Account}
use Rattle.gov_ids.specs.declared.Credential.{Credential}
use Rattle.gov_ids.specs.Orders.{credential_cmp}
use Rattle.book_records.specs.declared.Registered.{Registered}
use Rattle.maps.specs.Maps.{each_value, has_key}
use Rattle.ledger_books.specs.of_run_model.Boundary.{amount_to}

-- each account has its amounts: the accounts of run_model's `credited`
abbrev pub accounts_credited : List (Credential × ℕ) → List (Credential × Registered) → List (Credential × Registered)
accounts_credited ps accounts = each_value (λ c (r : Registered). record r { rewards = r.rewards + amount_to ps c }) accounts

-- the sum of the amounts of accounts that are registered: run_model's `claimed`
abbrev pub claimed_of : List (Credential × Registered) → List (Credential × ℕ) → ℕ
claimed_of accounts ps = sum_by (λ p. p.1) (filter (λ p. has_key credential_cmp accounts p.0) ps)

-- the sum of the amounts of accounts that are not registered: run_model's `unclaimed`
abbrev pub unclaimed_of : List (Credential × Registered) → List (Credential × ℕ) → ℕ
unclaimed_of accounts ps = sum_by (λ p. p.1) (filter (λ p. not (has_key credential_cmp accounts p.0)) ps)

-- the sum of all amounts
abbrev pub all_amounts : List (Credential × ℕ) → ℕ
all_amounts ps = sum_by (λ p. p.1) ps

-- the account that a payment goes to; none is the treasury: run_model's `goes_to`
abbrev pub goes_by : List (Credential × Registered) → Account → Option Account
goes_by accounts a = if has_key credential_cmp accounts a.cred then Some a else None
