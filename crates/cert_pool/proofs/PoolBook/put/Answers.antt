use Rattle.std.proofs.Common.{◌≡◌, List, ap, arith, sym, subst}
use Rattle.gov_ids.specs.declared.PoolId.{PoolId}
use Rattle.gov_ids.specs.Orders.{pool_cmp}
use Rattle.gov_ids.proofs.Totals.{pool_total}
use Rattle.book_records.specs.declared.pool.Pool.{Pool}
use Rattle.maps.proofs.Kept.{IsMap-with_value}
use Rattle.maps.specs.Maps.{with_value}
use Rattle.cert_pool.specs.Keys.{IsIndexed, count_in_option}
use Rattle.cert_pool.proofs.Counting.{count-with_value}
use Rattle.cert_pool.proofs.PoolBook.put.Goals as goal

pub invariant_of-self-2 : goal.invariant_of-self-2
invariant_of-self-2 c =
    let pools = c.self.inside.pools.entries in
    let put : c.insert.new.self.entries ≡ with_value pool_cmp c.args.p c.args.pool pools = c.in-Ok.ensures.entries in
    subst (λ (es : List (PoolId × Pool)). IsIndexed es c.take-2.new.self) (sym put)
    (record {
      in_order = IsMap-with_value pool_total c.args.p c.args.pool pools c.self.invariant.in_order;
      counted = λ key. omega (
        arith,
        c.take-2.ensures key,
        c.in_ok-add.ensures.ok key,
        c.self.invariant.counted key,
        ap (λ o. count_in_option key o) c.in-Ok.ensures.old,
        count-with_value c.args.p c.args.pool pools key c.self.invariant.in_order,
      );
    })
