use Rattle.std.proofs.Common.{◌≡◌, ℕ, ◌+◌, ◌<◌, List, [], Option, Some, None, Bool, cond, drop, length, refl, ap, sym, ◌∙◌, arith}
use Rattle.std.specs.List.{slice_get}
use Rattle.std.specs.Option.{option_and_then, option_copied}
use Rattle.std.proofs.lemmas.List.{drop_all}
use Rattle.book_records.specs.declared.Registered.{Registered}
use Rattle.coin_frac.specs.Totals.{total_of}
use Rattle.freeze.specs.Deposits.{delegates_to, paid_with}
use Rattle.freeze.proofs.Adding.{amount_after, amount_at}
use Rattle.freeze.proofs.Sums.{deposits_from, paid_from}
use Rattle.gov_actions.specs.declared.action.Proposal.{Proposal}
use Rattle.gov_ids.specs.declared.PoolId.{PoolId}
use Rattle.gov_ids.specs.Orders.{pool_cmp}
use Rattle.gov_ids.specs.Same.{same_pool}
use Rattle.gov_ids.proofs.Exacts.{pool_exact}
use Rattle.gov_ids.proofs.Totals.{pool_total}
use Rattle.gov_model.specs.Proposals.{deposits_of}
use Rattle.maps.proofs.Lists.{never_past}
use Rattle.maps.specs.Maps.{with_value}
use Rattle.maps.specs.Words.{holds, some_and}
use Rattle.stake_book.specs.Stakes.{registered_at}
use Rattle.freeze.proofs.deposits.deposits_by_pool.Goals.{in-Some+in-Some-pool_of+in_ok-add, in-Some+in_default-pool_of, in_default}
use Rattle.freeze.proofs.deposits.deposits_by_pool.Goals as goal

-- whether a registration delegates to a pool, by the pool that it has
by_pool : (r : Option Registered) (q : PoolId) → some_and (λ (x : Registered). holds same_pool x.pool q) r ≡ holds same_pool (option_and_then (λ (x : Registered). x.pool) r) q
by_pool None q = refl
by_pool (Some r) q = refl

pub loop-i-init : goal.loop-i-init
loop-i-init c = (
  omega (arith, ap (λ (es : List (PoolId × ℕ)). total_of es) c.new-deposits.ensures),
  λ q. omega (arith, ap (λ (es : List (PoolId × ℕ)). amount_at pool_cmp es q) c.new-deposits.ensures),
)

pub loop-i-preserved : goal.loop-i-preserved
loop-i-preserved c =
    let store : List Proposal = c.args.store.now in
    let live = c.args.accounts.now.live in
    let i : ℕ = c.loop-i.i in
    let old : List (PoolId × ℕ) = c.loop-i.deposits in
    elim c.match-at.branch [
      | in-Some+in-Some-pool_of+in_ok-add w ↦
          let p : Proposal = w.in-Some.p.now in
          let here : slice_get store i ≡ Some p = sym c.at.ensures ∙ ap option_copied w.in-Some.is in
          let k : PoolId = w.in-Some-pool_of.pool in
          let n : ℕ = w.deposit.result in
          let pool : option_and_then (λ (r : Registered). r.pool) (registered_at live p.account.cred) ≡ Some k =
          ap (λ a. option_and_then (λ (r : Registered). r.pool) (registered_at live a.cred)) (sym w.account.ensures) ∙ sym w.pool_of.ensures ∙ w.in-Some-pool_of.is in
          let is : c.match-at.deposits ≡ with_value pool_cmp k (amount_at pool_cmp old k + n) old = w.deposits-is ∙ w.in_ok-add.ensures.amounts in (
            omega (arith, ap (λ (es : List (PoolId × ℕ)). total_of es) w.deposits-is, w.in_ok-add.ensures.total, w.deposit.ensures, deposits_from store i p here, c.loop-i.invariant.0),
            λ q.
                let amount : amount_at pool_cmp c.match-at.deposits q ≡ amount_at pool_cmp old q + cond (same_pool k q) n 0 =
                ap (λ (es : List (PoolId × ℕ)). amount_at pool_cmp es q) is ∙ amount_after pool_cmp pool_total pool_exact k n old q in
                let test : delegates_to live q p.account.cred ≡ same_pool k q = by_pool (registered_at live p.account.cred) q ∙ ap (λ (o : Option PoolId). holds same_pool o q) pool in
                let same : cond (delegates_to live q p.account.cred) p.deposit 0 ≡ cond (same_pool k q) n 0 = λ j. cond (test j) (sym w.deposit.ensures j) 0 in
                omega (arith, amount, same, paid_from store i p here (λ (x : Proposal). delegates_to live q x.account.cred), c.loop-i.invariant.1 q),
          )
      | in-Some+in_default-pool_of w ↦
          let p : Proposal = w.in-Some.p.now in
          let here : slice_get store i ≡ Some p = sym c.at.ensures ∙ ap option_copied w.in-Some.is in
          let pool : option_and_then (λ (r : Registered). r.pool) (registered_at live p.account.cred) ≡ None =
          ap (λ a. option_and_then (λ (r : Registered). r.pool) (registered_at live a.cred)) (sym w.account.ensures) ∙ sym w.pool_of.ensures ∙ w.in_default-pool_of.is in (
            omega (arith, ap (λ (es : List (PoolId × ℕ)). total_of es) w.deposits-is, deposits_from store i p here, c.loop-i.invariant.0),
            λ q.
                let same : cond (delegates_to live q p.account.cred) p.deposit 0 ≡ 0 =
                ap (λ (b : Bool). cond b p.deposit 0) (by_pool (registered_at live p.account.cred) q ∙ ap (λ (o : Option PoolId). holds same_pool o q) pool) in
                omega (arith, ap (λ (es : List (PoolId × ℕ)). amount_at pool_cmp es q) w.deposits-is, same, paid_from store i p here (λ (x : Proposal). delegates_to live q x.account.cred), c.loop-i.invariant.1 q),
          )
      | in_default w ↦
          let none : slice_get store i ≡ None = sym c.at.ensures ∙ ap option_copied w.in_default.is in
          let within : i < length store = omega (arith, c.loop-i-test.true, c.len-i-end.ensures.count) in
          absurd (never_past store i within none)
    ]

pub add-requires : goal.add-requires
add-requires c =
    let store : List Proposal = c.args.store.now in
    let p : Proposal = c.in-Some.p.now in
    let here : slice_get store c.loop-i.i ≡ Some p = sym c.at.ensures ∙ ap option_copied c.in-Some.is in
    record { fits = omega (arith, c.deposit.ensures, deposits_from store c.loop-i.i p here, c.loop-i.invariant.0, c.deposits-all.ensures, c.deposits-all.type_inv) }

none_left : (c : goal.After-loop-i) → drop c.loop-i.i c.args.store.now ≡ []
none_left c = drop_all c.loop-i.i c.args.store.now (omega (arith, c.loop-i-test.false, c.len-i-end.ensures.count))

pub returns-clause-amounts : goal.returns-clause-amounts
returns-clause-amounts c = λ q. omega (arith, ap (λ (ps : List Proposal). paid_with c.args.accounts.now.live ps q) (none_left c), c.loop-i.invariant.1 q)

pub returns-clause-total : goal.returns-clause-total
returns-clause-total c = omega (arith, ap deposits_of (none_left c), c.loop-i.invariant.0)
