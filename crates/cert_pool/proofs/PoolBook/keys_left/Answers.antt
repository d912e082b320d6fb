use Rattle.std.proofs.Common.{◌≡◌, ℕ, ◌+◌, List, sum_by, ap, sym, ◌∙◌, zero-add, rules}
use Rattle.std.specs.Map.{values_of}
use Rattle.gov_ids.specs.declared.PoolId.{PoolId}
use Rattle.book_records.specs.declared.pool.Pool.{Pool}
use Rattle.cert_pool.specs.Keys.{count_at, count_of}
use Rattle.cert_pool.specs.Reaping.{left_of}
use Rattle.cert_pool.proofs.Counting.{count-left, count_staying}
use Rattle.cert_pool.proofs.PoolBook.keys_left.Goals as goal

pub loop-pool-init : goal.loop-pool-init
loop-pool-init c = λ key.
    let epoch = c.args.epoch in
    let pools = c.self.inside.pools.entries in
    let start : ◌≡◌ {A = List Pool} c.into_iter-pool-iterator.result (values_of pools) = search rules in
    ap (λ (counts : List (List ℕ × ℕ)). count_at counts key + sum_by (count_staying epoch key) c.into_iter-pool-iterator.result) c.new-counts.ensures
    ∙ zero-add _
    ∙ ap (λ (l : List Pool). sum_by (count_staying epoch key) l) start
    ∙ sym (count-left epoch pools key)
    ∙ ap (λ (es : List (PoolId × Pool)). count_of (left_of epoch es) key) c.self.view_is
