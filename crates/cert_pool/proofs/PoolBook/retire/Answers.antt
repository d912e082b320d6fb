use Rattle.std.proofs.Common.{◌≡◌, List, Some, None, ap, subst, sym, ◌∙◌}
use Rattle.std.specs.BTreeMap.{BTreeMap}
use Rattle.gov_ids.specs.declared.PoolId.{PoolId}
use Rattle.gov_ids.specs.Orders.{pool_cmp}
use Rattle.gov_ids.proofs.Totals.{pool_total}
use Rattle.book_records.specs.declared.pool.Pool.{Pool}
use Rattle.book_records.specs.Pools.{retiring, with_retirement}
use Rattle.maps.proofs.Placed.{changed_at_absent, set_value-changed_at}
use Rattle.maps.specs.Maps.{value_at}
use Rattle.cert_pool.specs.Keys.{IsIndexed}
use Rattle.cert_pool.proofs.Counting.{retired_indexed}
use Rattle.cert_pool.proofs.PoolBook.retire.Goals.{in-Some, in_default}
use Rattle.cert_pool.proofs.PoolBook.retire.Goals as goal

pub invariant_of-self : goal.invariant_of-self
invariant_of-self c =
    let pools = c.self.inside.pools.entries in
    let p = c.args.p.now in
    let indexed = retired_indexed p c.args.epoch pools c.self.inside.keys c.self.invariant in
    elim c.match-get_mut.branch [
      | in-Some w ↦
          let pool = w.in-Some.pool.now in
          let here : value_at pool_cmp pools p ≡ Some pool = sym (w.in-Some.ensures.value) in
          let written = (c.get_mut.follows.holds (retiring c.args.epoch pool)).0 ∙ set_value-changed_at pool_total p (retiring c.args.epoch) pool pools c.self.invariant.in_order here in
          rw w.self-inside-is (subst (λ (es : List (PoolId × Pool)). IsIndexed es c.self.inside.keys) (sym written) indexed)
      | in_default w ↦
          let absent : value_at pool_cmp pools p ≡ None = sym (w.in_default.ensures.value) in
          let written = ap (λ (m : BTreeMap PoolId Pool). m.entries) c.get_mut.follows.holds-at-none ∙ sym (changed_at_absent pool_cmp p (retiring c.args.epoch) pools absent) in
          rw w.self-inside-is (subst (λ (es : List (PoolId × Pool)). IsIndexed es c.self.inside.keys) (sym written) indexed)
    ]

pub returns : goal.returns
returns c =
    let pools = c.self.inside.pools.entries in
    let written : with_retirement c.args.p.now c.args.epoch pools ≡ with_retirement c.args.p.now c.args.epoch c.args.self.now = ap (λ (es : List (PoolId × Pool)). with_retirement c.args.p.now c.args.epoch es) c.self.view_is in
    elim c.match-get_mut.branch [
      | in-Some w ↦
          let pool = w.in-Some.pool.now in
          let here : value_at pool_cmp pools c.args.p.now ≡ Some pool = sym (w.in-Some.ensures.value) in
          rw w.self-inside-is ((c.get_mut.follows.holds (retiring c.args.epoch pool)).0 ∙ set_value-changed_at pool_total c.args.p.now (retiring c.args.epoch) pool pools c.self.invariant.in_order here ∙ written)
      | in_default w ↦
          let absent : value_at pool_cmp pools c.args.p.now ≡ None = sym (w.in_default.ensures.value) in
          rw w.self-inside-is (ap (λ (m : BTreeMap PoolId Pool). m.entries) c.get_mut.follows.holds-at-none ∙ sym (changed_at_absent pool_cmp c.args.p.now (retiring c.args.epoch) pools absent) ∙ written)
    ]
