use Rattle.std.proofs.Common.{List, ap, arith, sym, subst}
use Rattle.gov_ids.specs.declared.PoolId.{PoolId}
use Rattle.gov_ids.specs.Orders.{pool_cmp}
use Rattle.book_records.specs.declared.pool.Pool.{Pool}
use Rattle.maps.proofs.Kept.{IsMap-without_key}
use Rattle.cert_pool.specs.Keys.{IsIndexed, count_in_option}
use Rattle.cert_pool.proofs.Counting.{count-without_key}
use Rattle.cert_pool.proofs.PoolBook.forget.Goals as goal

pub invariant_of-self : goal.invariant_of-self
invariant_of-self c =
    let pools = c.self.inside.pools.entries in
    subst (λ (es : List (PoolId × Pool)). IsIndexed es c.take.new.self) (sym c.remove-forgotten.ensures.entries)
    (record {
      in_order = IsMap-without_key pool_cmp c.args.p.now pools c.self.invariant.in_order;
      counted = λ key. omega (
        arith,
        c.take.ensures key,
        c.self.invariant.counted key,
        ap (λ o. count_in_option key o) c.remove-forgotten.ensures.value,
        count-without_key c.args.p.now pools key,
      );
    })
