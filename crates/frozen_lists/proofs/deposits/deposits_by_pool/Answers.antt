use Rattle.std.proofs.Common.{◌≡◌, ℕ, ◌+◌, List, [], Option, Some, None, Bool, cond, drop, ap, sym, ◌∙◌, arith}
use Rattle.std.specs.Option.{option_and_then}
use Rattle.std.proofs.lemmas.List.{drop_all}
use Rattle.book_records.specs.declared.Registered.{Registered}
use Rattle.coin_frac.specs.Totals.{total_of}
use Rattle.frozen_lists.specs.Pools.{delegates_to, paid_with, registration_in}
use Rattle.frozen_lists.proofs.Adding.{amount_after, amount_at}
use Rattle.frozen_lists.proofs.Sums.{by_pool, deposits_from, paid_from}
use Rattle.gov_actions.specs.declared.action.Proposal.{Proposal}
use Rattle.gov_ids.specs.declared.PoolId.{PoolId}
use Rattle.gov_ids.specs.Orders.{pool_cmp}
use Rattle.gov_ids.specs.Same.{same_pool}
use Rattle.gov_ids.proofs.Exacts.{pool_exact}
use Rattle.gov_ids.proofs.Totals.{pool_total}
use Rattle.gov_model.specs.Proposals.{deposits_of}
use Rattle.maps.specs.Maps.{with_value}
use Rattle.maps.specs.Words.{holds}
use Rattle.frozen_lists.proofs.deposits.deposits_by_pool.Goals.{in-Some+in_ok-add, in_default}
use Rattle.frozen_lists.proofs.deposits.deposits_by_pool.Goals as goal

pub loop-proposal-init : goal.loop-proposal-init
loop-proposal-init c = (
  omega (arith, ap (λ (es : List (PoolId × ℕ)). total_of es) c.new-deposits.ensures),
  λ q. omega (arith, ap (λ (es : List (PoolId × ℕ)). amount_at pool_cmp es q) c.new-deposits.ensures),
)

pub loop-proposal-preserved : goal.loop-proposal-preserved
loop-proposal-preserved c =
    let ps : List Proposal = c.args.proposals.now in
    let entries = c.args.entries.now in
    let i : ℕ = c.loop-proposal.proposal-index in
    let p : Proposal = c.proposal-item.result in
    let old : List (PoolId × ℕ) = c.loop-proposal.deposits in
    elim c.match-pool_of.branch [
      | in-Some+in_ok-add w ↦
          let k : PoolId = w.in-Some.pool in
          let pool : option_and_then (λ (r : Registered). r.pool) (registration_in entries p.account.cred) ≡ Some k = sym c.pool_of.ensures ∙ w.in-Some.is in
          let is : c.match-pool_of.deposits ≡ with_value pool_cmp k (amount_at pool_cmp old k + p.deposit) old = w.deposits-is ∙ w.in_ok-add.ensures.amounts in (
            omega (arith, ap (λ (es : List (PoolId × ℕ)). total_of es) w.deposits-is, w.in_ok-add.ensures.total, deposits_from ps i p c.loop-proposal-test.true c.proposal-item.is, c.loop-proposal.invariant.0),
            λ q.
                let amount : amount_at pool_cmp c.match-pool_of.deposits q ≡ amount_at pool_cmp old q + cond (same_pool k q) p.deposit 0 =
                ap (λ (es : List (PoolId × ℕ)). amount_at pool_cmp es q) is ∙ amount_after pool_cmp pool_total pool_exact k p.deposit old q in
                let same : cond (delegates_to entries q p.account.cred) p.deposit 0 ≡ cond (same_pool k q) p.deposit 0 =
                ap (λ (b : Bool). cond b p.deposit 0) (by_pool (registration_in entries p.account.cred) q ∙ ap (λ (o : Option PoolId). holds same_pool o q) pool) in
                omega (arith, amount, same, paid_from ps i p c.loop-proposal-test.true c.proposal-item.is (λ (x : Proposal). delegates_to entries q x.account.cred), c.loop-proposal.invariant.1 q),
          )
      | in_default w ↦
          let pool : option_and_then (λ (r : Registered). r.pool) (registration_in entries p.account.cred) ≡ None = sym c.pool_of.ensures ∙ w.in_default.is in (
            omega (arith, ap (λ (es : List (PoolId × ℕ)). total_of es) w.deposits-is, deposits_from ps i p c.loop-proposal-test.true c.proposal-item.is, c.loop-proposal.invariant.0),
            λ q.
                let same : cond (delegates_to entries q p.account.cred) p.deposit 0 ≡ 0 =
                ap (λ (b : Bool). cond b p.deposit 0) (by_pool (registration_in entries p.account.cred) q ∙ ap (λ (o : Option PoolId). holds same_pool o q) pool) in
                omega (arith, ap (λ (es : List (PoolId × ℕ)). amount_at pool_cmp es q) w.deposits-is, same, paid_from ps i p c.loop-proposal-test.true c.proposal-item.is (λ (x : Proposal). delegates_to entries q x.account.cred), c.loop-proposal.invariant.1 q),
          )
    ]

pub add-requires : goal.add-requires
add-requires c =
    record { fits = omega (arith, deposits_from c.args.proposals.now c.loop-proposal.proposal-index c.proposal-item.result c.loop-proposal-test.true c.proposal-item.is, c.loop-proposal.invariant.0, c.requires.fits) }

none_left : (c : goal.After-loop-proposal) → drop c.loop-proposal.proposal-index c.args.proposals.now ≡ []
none_left c = drop_all c.loop-proposal.proposal-index c.args.proposals.now c.loop-proposal-test.false

pub returns-clause-amounts : goal.returns-clause-amounts
returns-clause-amounts c = λ q. omega (arith, ap (λ (ps : List Proposal). paid_with c.args.entries.now ps q) (none_left c), c.loop-proposal.invariant.1 q)

pub returns-clause-total : goal.returns-clause-total
returns-clause-total c = omega (arith, ap deposits_of (none_left c), c.loop-proposal.invariant.0)
