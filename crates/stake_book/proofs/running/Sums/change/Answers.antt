use Rattle.std.proofs.Common.{◌≡◌, ℕ, ◌+◌, ◌-◌, ◌⊎◌, Option, arith, sym, subst, ◌∙◌}
use Rattle.gov_ids.specs.declared.PoolId.{PoolId}
use Rattle.gov_ids.specs.Orders.{pool_cmp}
use Rattle.gov_ids.proofs.Totals.{pool_total}
use Rattle.stake_book.specs.Summed.{Summed, CanBecome, HasBecome}
use Rattle.stake_book.specs.Sums.{IsRaised, balance_of, pool_of, weight_of}
use Rattle.stake_book.proofs.Entering.{has_become, undone, before_enough}
use Rattle.stake_book.proofs.Raised.{raised_enough, same_raised}
use Rattle.stake_book.proofs.running.Sums.change.Goals as goal

pub overflow_add-lost : goal.overflow_add-lost
overflow_add-lost c = omega (arith, c.balance-ended.ensures, c.requires.before_within)

pub overflow_add-gained : goal.overflow_add-gained
overflow_add-gained c = omega (arith, c.balance-begun.ensures, c.requires.after_within)

pub raise-requires : goal.raise-requires
raise-requires c =
    let s : Summed = record { balances = c.self.inside.balances; pools = c.self.inside.pools.entries; counts = c.self.inside.counts } in
    let can : CanBecome c.args.before.now c.args.after.now s = subst (λ (s : Summed). CanBecome c.args.before.now c.args.after.now s) (sym c.self.view_is) c.requires in
    record { fits = omega (arith, c.balance-begun.ensures, can.total, can.after_within) }

pub change-requires : goal.change-requires
change-requires c =
    let s : Summed = record { balances = c.self.inside.balances; pools = c.self.inside.pools.entries; counts = c.self.inside.counts } in
    let can : CanBecome c.args.before.now c.args.after.now s = subst (λ (s : Summed). CanBecome c.args.before.now c.args.after.now s) (sym c.self.view_is) c.requires in
    can.counts

pub lower-requires : goal.lower-requires
lower-requires c = record {
  enough = λ p is. raised_enough pool_total c.pool-to.result (c.args.after.now.stake + c.balance-begun.result - c.left_there-left.result) c.self.inside.pools.entries c.raise.new.amounts.entries p c.in_ok-raise.ensures.ok is;
}

pub returns-in-Err-clause-err : goal.returns-in-Err-clause-err
returns-in-Err-clause-err c =
    let s : Summed = record { balances = c.self.inside.balances; pools = c.self.inside.pools.entries; counts = c.self.inside.counts } in
    let can : CanBecome c.args.before.now c.args.after.now s = subst (λ (s : Summed). CanBecome c.args.before.now c.args.after.now s) (sym c.self.view_is) c.requires in
    subst (λ (s : Summed). HasBecome c.args.before.now c.args.before.now s (record { balances = c.self.inside.balances; pools = c.lower.new.amounts.entries; counts = c.change.new.self })) c.self.view_is
    (undone c.args.before.now c.args.after.now s c.raise.new.amounts.entries c.lower.new.amounts.entries c.pool-to.result (c.args.after.now.stake + c.balance-begun.result - c.left_there-left.result) c.change.new.self
    c.in_ok-raise.ensures.ok c.lower.ensures c.in-Err.ensures.err)

pub lower-requires-2 : goal.lower-requires-2
lower-requires-2 c =
    let s : Summed = record { balances = c.self.inside.balances; pools = c.self.inside.pools.entries; counts = c.self.inside.counts } in
    let can : CanBecome c.args.before.now c.args.after.now s = subst (λ (s : Summed). CanBecome c.args.before.now c.args.after.now s) (sym c.self.view_is) c.requires in
    record {
      enough = λ p is. omega (
        arith,
        c.balance-ended.ensures,
        before_enough c.args.before.now c.args.after.now s c.raise.new.amounts.entries c.raise.new.amounts.entries c.pool-to.result (c.args.after.now.stake + c.balance-begun.result - c.left_there-left.result) p can.pools c.in_ok-raise.ensures.ok (sym c.pool-from.ensures ∙ is),
      );
    }

pub overflow_sub-self : goal.overflow_sub-self
overflow_sub-self c =
    let s : Summed = record { balances = c.self.inside.balances; pools = c.self.inside.pools.entries; counts = c.self.inside.counts } in
    let can : CanBecome c.args.before.now c.args.after.now s = subst (λ (s : Summed). CanBecome c.args.before.now c.args.after.now s) (sym c.self.view_is) c.requires in
    omega (arith, c.balance-ended.ensures, can.held)

pub overflow_add-self : goal.overflow_add-self
overflow_add-self c =
    let s : Summed = record { balances = c.self.inside.balances; pools = c.self.inside.pools.entries; counts = c.self.inside.counts } in
    let can : CanBecome c.args.before.now c.args.after.now s = subst (λ (s : Summed). CanBecome c.args.before.now c.args.after.now s) (sym c.self.view_is) c.requires in
    omega (arith, c.balance-begun.ensures, can.balances, can.after_within)

pub returns-clause-ok : goal.returns-clause-ok
returns-clause-ok c =
    let s : Summed = record { balances = c.self.inside.balances; pools = c.self.inside.pools.entries; counts = c.self.inside.counts } in
    let can : CanBecome c.args.before.now c.args.after.now s = subst (λ (s : Summed). CanBecome c.args.before.now c.args.after.now s) (sym c.self.view_is) c.requires in
    let before = c.args.before.now in
    let after = c.args.after.now in
    let left : ℕ = c.left_there-left.result in
    let lost : before.stake + c.balance-ended.result ≡ weight_of before = λ i. before.stake + c.balance-ended.ensures i in
    let gained : after.stake + c.balance-begun.result ≡ weight_of after = λ i. after.stake + c.balance-begun.ensures i in
    let up : IsRaised pool_cmp (pool_of after) (weight_of after - left) s.pools c.raise.new.amounts.entries = same_raised c.pool-to.ensures (λ i. gained i - left) c.in_ok-raise.ensures.ok in
    let down : IsRaised pool_cmp (pool_of before) (weight_of before - left) c.lower-2.new.amounts.entries c.raise.new.amounts.entries = same_raised c.pool-from.ensures (λ i. lost i - left) c.lower-2.ensures in
    let same : (left ≡ 0) ⊎ (pool_of before ≡ pool_of after) = subst (λ (o : Option PoolId). (left ≡ 0) ⊎ (o ≡ pool_of after)) c.pool-from.ensures (subst (λ (o : Option PoolId). (left ≡ 0) ⊎ (c.pool-from.result ≡ o)) c.pool-to.ensures c.left_there-left.ensures.pool) in
    let held : c.self.inside.balances - c.balance-ended.result + c.balance-begun.result + balance_of before ≡ s.balances + balance_of after = omega (arith, can.held, c.balance-ended.ensures, c.balance-begun.ensures) in
    subst (λ (s : Summed). HasBecome before after s (record { balances = c.self.inside.balances - c.balance-ended.result + c.balance-begun.result; pools = c.lower-2.new.amounts.entries; counts = c.change.new.self })) c.self.view_is
    (has_become before after s c.raise.new.amounts.entries c.lower-2.new.amounts.entries left _ c.change.new.self
    (omega (arith, c.left_there-left.ensures.of_lost, lost)) (omega (arith, c.left_there-left.ensures.of_gained, gained)) same up down held c.in_default.ensures.ok)
