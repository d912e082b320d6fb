-- The reaping of pools, in terms of run_model. (POOLREAP of the formal specification)
use Rattle.std.specs.Prelude.{ℕ, ◌+◌, List, map}
use Rattle.gov_actions.specs.declared.state.EnactState.{EnactState}
use Rattle.gov_ids.specs.declared.Credential.{Credential}
use Rattle.gov_ids.specs.declared.PoolId.{PoolId}
use Rattle.book_records.specs.declared.Registered.{Registered}
use Rattle.cert_pool.specs.declared.Reaped.{Reaped}
use Rattle.tx_records.specs.declared.report.Retired.{Retired}
use Rattle.payments.specs.Amounts.{goes_by, unclaimed_of}
use Rattle.payments.specs.Credited.{AreCredited}
use Rattle.stake_book.specs.Stakes.{Stakes, accounts_of, without_pools}
use Rattle.ledger_model.specs.Ledger.{Ledger}
use Rattle.run_model.specs.World.{World, on_ledger}
use Rattle.run_model.specs.Boundary.{terms_turned, reaped, reaped_pools}
use Rattle.run_model.specs.Report.{goes_to}

-- step 3: future terms take effect, pools are reaped; run_model's `after_pools` after step 2
abbrev pub after_reaping : World → World
after_reaping w = on_ledger reaped (on_ledger terms_turned w)

-- each pool that a ledger reaps, in order: run_model's `retired_of` after future terms take effect
abbrev pub retired_in : Ledger → List Retired
retired_in l = map (λ e. record { pool = e.0; amount = e.1.deposit; to = goes_to l e.1.terms.account }) (reaped_pools l)

-- a pool that was reaped, as it is reported
abbrev pub retired_by : List (Credential × Registered) → Reaped → Retired
retired_by accounts r = record { pool = r.pool; amount = r.deposit; to = goes_by accounts r.account }

-- the ids of the pools that were reaped
abbrev pub pools_of : List Reaped → List PoolId
pools_of reaped = map (λ (r : Reaped). r.pool) reaped

-- their deposits, each with its reward account
abbrev pub refunds_of : List Reaped → List (Credential × ℕ)
refunds_of reaped = map (λ (r : Reaped). (r.account.cred, r.deposit)) reaped

-- the delegations to them end, deposits are paid out, the treasury has what no account claims
abbrev pub AreRefunded : List Reaped → Stakes → EnactState → Stakes → EnactState → Type 0
AreRefunded reaped stake state after left =
    let accounts : List (Credential × Registered) = without_pools (pools_of reaped) (accounts_of stake) in
    AreCredited (refunds_of reaped) accounts (state.treasury + unclaimed_of accounts (refunds_of reaped)) stake state after left
