use Rattle.std.proofs.Common.{◌≡◌, ◌+◌, ℕ, List, IfOk, ap, subst, ◌∙◌, arith}
use Rattle.gov_ids.specs.declared.Credential.{Credential}
use Rattle.gov_ids.specs.declared.PoolId.{PoolId}
use Rattle.gov_ids.specs.Orders.{credential_cmp}
use Rattle.book_records.specs.Outputs.{lovelace_in}
use Rattle.book_records.specs.declared.Entry.{Entry}
use Rattle.book_records.specs.declared.Registered.{Registered}
use Rattle.payments.specs.Amounts.{accounts_credited, all_amounts, unclaimed_of}
use Rattle.stake_book.specs.Stakes.{accounts_of, balances_in, without_pools}
use Rattle.utxo_set.specs.Utxos.{Utxos}
use Rattle.view_map.specs.View.{frozen_of}
use Rattle.epoch_books.specs.Retirements.{pools_of, refunds_of}
use Rattle.epoch_books.proofs.Credits.{all_credited}
use Rattle.epoch_books.proofs.Refunds.{cleared_balances}
use Rattle.epoch_books.proofs.pools.refunded.Goals as goal

pub paid_out-requires-clause-room : goal.paid_out-requires-clause-room
paid_out-requires-clause-room c =
    omega (
      arith,
      c.requires.room,
      ap (λ (ps : List (Credential × ℕ)). all_amounts ps) (c.as_slice-2.ensures.value ∙ c.in_ok-refunds.ensures),
      ap (λ (u : Utxos). lovelace_in u.outputs) c.in_ok-clear_pools.ensures.outputs,
      ap (λ (l : List (Credential × Registered)). balances_in l) c.in_ok-clear_pools.ensures.registered,
      cleared_balances c.as_slice.result.now (accounts_of c.args.stake),
    )

pub paid_out-requires-clause-fits : goal.paid_out-requires-clause-fits
paid_out-requires-clause-fits c = omega (arith, c.requires.fits, ap (λ (ps : List (Credential × ℕ)). all_amounts ps) (c.as_slice-2.ensures.value ∙ c.in_ok-refunds.ensures))

pub returns-clause-refunded : goal.returns-clause-refunded
returns-clause-refunded c =
    let refunds : c.as_slice-2.result.now ≡ refunds_of c.args.reaped.now = c.as_slice-2.ensures.value ∙ c.in_ok-refunds.ensures in
    let cleared : accounts_of c.clear_pools.new.self ≡ without_pools (pools_of c.args.reaped.now) (accounts_of c.args.stake) =
    c.in_ok-clear_pools.ensures.registered ∙ ap (λ (ps : List PoolId). without_pools ps (accounts_of c.args.stake)) (c.as_slice.ensures.value ∙ c.in_ok-pools_of.ensures) in
    let accounts : List (Credential × Registered) = without_pools (pools_of c.args.reaped.now) (accounts_of c.args.stake) in
    let due : List (Credential × ℕ) = refunds_of c.args.reaped.now in
    let e = c.paid_out.ensures in
    all_credited c.paid_out.result due accounts (c.args.state.treasury + unclaimed_of accounts due) c.args.stake c.args.state
    (subst (λ (ps : List (Credential × ℕ)). IfOk c.paid_out.result (λ r. accounts_of r.0 ≡ accounts_credited ps accounts)) refunds
    (subst (λ (l : List (Credential × Registered)). IfOk c.paid_out.result (λ r. accounts_of r.0 ≡ accounts_credited c.as_slice-2.result.now l)) cleared e.accounts))
    (subst (λ (u : Utxos). IfOk c.paid_out.result (λ r. r.0.outputs ≡ u)) c.in_ok-clear_pools.ensures.outputs e.outputs)
    (subst (λ (l : List (Credential × Entry)). IfOk c.paid_out.result (λ r. frozen_of credential_cmp r.0.accounts ≡ l)) c.in_ok-clear_pools.ensures.frozen e.frozen)
    (subst (λ (ps : List (Credential × ℕ)). IfOk c.paid_out.result (λ r. r.1 ≡ record c.args.state { treasury = c.args.state.treasury + unclaimed_of accounts ps })) refunds
    (subst (λ (l : List (Credential × Registered)). IfOk c.paid_out.result (λ r. r.1 ≡ record c.args.state { treasury = c.args.state.treasury + unclaimed_of l c.as_slice-2.result.now })) cleared e.state))
