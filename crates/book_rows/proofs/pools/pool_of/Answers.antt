-- The one pair of terms is of the pool, or of another one.
use Rattle.std.proofs.Common.{◌≡◌, false, true, List, Some, get_or, is_some, rules, sym, ◌∙◌, ap}
use Rattle.gov_ids.specs.declared.PoolId.{PoolId}
use Rattle.gov_ids.specs.Same.{same_pool}
use Rattle.gov_ids.proofs.Sames.{pool_same}
use Rattle.book_records.specs.declared.pool.Pool.{Pool}
use Rattle.book_records.specs.declared.pool.PoolTerms.{PoolTerms}
use Rattle.book_rows.proofs.PoolTells.{one_item, one_not, one_told}
use Rattle.book_rows.proofs.pools.pool_of.Goals as goal

pub returns-then-eq : goal.returns-then-eq
returns-then-eq c =
    let row = c.args.row.now in
    let next = c.args.next.now in
    let w : PoolId × PoolTerms = c.index-next-0.result in
    let y : PoolId × PoolTerms = c.index-next-0-then-next-lt2.result in
    let plain : is_some row.1.future ≡ false = search rules in
    let same : same_pool w.0 row.0 ≡ true =
    ap (λ (x : PoolId × PoolTerms). same_pool x.0 row.0) c.index-next-0.is ∙ sym (λ i. pool_same i (get_or next 0 w).0 row.0) ∙ sym c.eq.ensures ∙ c.if-eq.true in
    let made : c.with_future.result ≡ record row.1 { future = Some w.1 } =
    c.with_future.ensures
    ∙ ap (λ (t : List (PoolId × PoolTerms)). record row.1 { future = Some (get_or t 0 y).1 }) (one_item next w c.in-len1.len_at_least c.in-len1.len_below c.index-next-0.is) in
    ap (λ (p : Pool). Some (row.0, p)) made ∙ sym (one_told row next w c.in-len1.len_at_least c.in-len1.len_below c.index-next-0.is plain same)

pub returns-else-eq : goal.returns-else-eq
returns-else-eq c =
    let row = c.args.row.now in
    let next = c.args.next.now in
    let w : PoolId × PoolTerms = c.index-next-0.result in
    let plain : is_some row.1.future ≡ false = search rules in
    let other : same_pool w.0 row.0 ≡ false =
    ap (λ (x : PoolId × PoolTerms). same_pool x.0 row.0) c.index-next-0.is ∙ sym (λ i. pool_same i (get_or next 0 w).0 row.0) ∙ sym c.eq.ensures ∙ c.if-eq.false in
    sym (one_not row next w c.in-len1.len_at_least c.in-len1.len_below c.index-next-0.is plain other)
