use Rattle.std.proofs.Common.{◌≡◌, ◌+◌, List, Option, ap, arith, sym, ◌∙◌}
use Rattle.gov_ids.specs.declared.PoolId.{PoolId}
use Rattle.book_records.specs.declared.pool.Pool.{Pool}
use Rattle.cert_pool.specs.Keys.{count_in_option, count_of, count_of_others}
use Rattle.cert_pool.proofs.Counting.{counted_apart}
use Rattle.cert_pool.proofs.PoolBook.count_of_others.Goals as goal

-- the count of the key is that of the other pools and of this one
apart : (c : goal.After-count_in) → c.of.result ≡ count_of_others c.args.key.now c.args.p.now c.args.self.now + c.count_in.result
apart c =
    let key = c.args.key.now in
    let p = c.args.p.now in
    c.of.ensures ∙ c.self.invariant.counted key
    ∙ ap (λ (es : List (PoolId × Pool)). count_of es key) c.self.view_is
    ∙ counted_apart key p c.args.self.now c.get.ensures.in_order
    ∙ ap (λ n. count_of_others key p c.args.self.now + n) (sym (c.count_in.ensures ∙ ap (λ (o : Option Pool). count_in_option key o) c.get.ensures.value))

pub overflow_sub-result : goal.overflow_sub-result
overflow_sub-result c = omega (arith, apart c)

pub returns-clause-count : goal.returns-clause-count
returns-clause-count c = omega (arith, apart c)
