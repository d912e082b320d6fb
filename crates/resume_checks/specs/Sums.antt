-- Deposits of plain lists.
use Rattle.std.specs.Prelude.{ℕ, ◌+◌, List, sum_by}
use Rattle.maps.specs.Maps.{sum_values}
use Rattle.gov_ids.specs.declared.Credential.{Credential}
use Rattle.gov_ids.specs.declared.PoolId.{PoolId}
use Rattle.book_records.specs.declared.DrepState.{DrepState}
use Rattle.book_records.specs.declared.pool.Pool.{Pool}
use Rattle.book_records.specs.declared.Registered.{Registered}
use Rattle.gov_actions.specs.declared.action.Proposal.{Proposal}

-- the deposits of accounts, pools, DReps and proposals
abbrev pub deposits_in : List (Credential × Registered) → List (PoolId × Pool) → List (Credential × DrepState) → List Proposal → ℕ
deposits_in accounts pools dreps proposals =
    sum_values (λ (r : Registered). r.deposit) accounts
    + sum_values (λ (p : Pool). p.deposit) pools
    + sum_values (λ (d : DrepState). d.deposit) dreps
    + sum_by (λ (p : Proposal). p.deposit) proposals
