-- The accounts after a payment to one of them.
-- (The credits of EPOCH and POOLREAP in the formal specification)
use Rattle.std.specs.Prelude.{ℕ, ◌+◌, List}
use Rattle.gov_ids.specs.declared.Credential.{Credential}
use Rattle.gov_ids.specs.Orders.{credential_cmp}
use Rattle.book_records.specs.declared.Registered.{Registered}
use Rattle.maps.specs.Maps.{changed_at}

-- a registration with n lovelace more
abbrev pub rewarded : ℕ → Registered → Registered
rewarded n r = record r { rewards = r.rewards + n }

-- the accounts with n lovelace more for c, if it is registered
abbrev pub with_payment : Credential → ℕ → List (Credential × Registered) → List (Credential × Registered)
with_payment c n accounts = changed_at credential_cmp c (rewarded n) accounts
