-- The deposits of proposals, by the credential to which they return and by the pool of that one.
-- (The DRep pulser of cardano-ledger; that deposits count with pools is own)
use Rattle.std.specs.Prelude.{ℕ, Bool, List, filter, sum_by}
use Rattle.maps.specs.Words.{holds, some_and}
use Rattle.gov_ids.specs.declared.Credential.{Credential}
use Rattle.gov_ids.specs.declared.PoolId.{PoolId}
use Rattle.gov_ids.specs.Same.{same_credential, same_pool}
use Rattle.book_records.specs.declared.Entry.{Entry}
use Rattle.book_records.specs.declared.Registered.{Registered}
use Rattle.gov_actions.specs.declared.action.Proposal.{Proposal}
use Rattle.stake_book.specs.Stakes.{registered_at}

-- the deposits that return to a credential, in lovelace
abbrev pub paid_by : List Proposal → Credential → ℕ
paid_by ps c = sum_by (λ (p : Proposal). p.deposit) (filter (λ (p : Proposal). same_credential p.account.cred c) ps)

-- whether a credential is registered and delegates to a pool
abbrev pub delegates_to : List (Credential × Entry) → PoolId → Credential → Bool
delegates_to entries pool c = some_and (λ (r : Registered). holds same_pool r.pool pool) (registered_at entries c)

-- the deposits that return to those that delegate to a pool, in lovelace
abbrev pub paid_with : List (Credential × Entry) → List Proposal → PoolId → ℕ
paid_with entries ps pool = sum_by (λ (p : Proposal). p.deposit) (filter (λ (p : Proposal). delegates_to entries pool p.account.cred) ps)
