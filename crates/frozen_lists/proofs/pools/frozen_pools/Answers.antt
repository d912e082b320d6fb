use Rattle.std.proofs.Common.{ℕ, ◌+◌, List, [], ◌∷◌, ◌++◌, drop, map, ap, sym, ◌∙◌, append_assoc, arith}
use Rattle.std.proofs.lemmas.List.{append-nil, at_drop_more, drop_all}
use Rattle.gov_ids.specs.declared.PoolId.{PoolId}
use Rattle.snapshots.specs.declared.frozen.FrozenPool.{FrozenPool}
use Rattle.frozen_lists.specs.Pools.{pool_by}
use Rattle.frozen_lists.proofs.Sums.{place_within}
use Rattle.frozen_lists.proofs.pools.frozen_pools.Goals as goal

abbrev nothing : PoolId × ℕ
nothing = (record { 0 = [] }, 0)

pub loop-pool-preserved : goal.loop-pool-preserved
loop-pool-preserved c =
    let mark : List (PoolId × ℕ) = c.args.mark.now in
    let i : ℕ = c.loop-pool.pool-index in
    let f : PoolId × ℕ → FrozenPool = pool_by c.args.entries.now c.args.accounts.now c.args.deposits.now in
    let items : List FrozenPool = c.loop-pool.frozen.items in
    let rest : List FrozenPool = map f (drop (i + 1) mark) in
    ap (λ (l : List FrozenPool). l ++ rest) c.in_ok-push.ensures.items
    ∙ append_assoc items (c.frozen_pool.result ∷ []) rest
    ∙ ap (λ (p : FrozenPool). items ++ p ∷ rest) c.frozen_pool.ensures
    ∙ sym (at_drop_more (λ (l : List (PoolId × ℕ)). items ++ map f l) mark i nothing c.loop-pool-test.true)
    ∙ c.loop-pool.invariant

pub frozen_pool-requires-clause-room : goal.frozen_pool-requires-clause-room
frozen_pool-requires-clause-room c = omega (arith, place_within c.args.mark.now c.loop-pool.pool-index nothing c.loop-pool-test.true, c.requires.room)

pub returns : goal.returns
returns c =
    let mark : List (PoolId × ℕ) = c.args.mark.now in
    let f : PoolId × ℕ → FrozenPool = pool_by c.args.entries.now c.args.accounts.now c.args.deposits.now in
    let items : List FrozenPool = c.loop-pool.frozen.items in
    c.from_vec.ensures
    ∙ sym (append-nil items)
    ∙ ap (λ (l : List (PoolId × ℕ)). items ++ map f l) (sym (drop_all c.loop-pool.pool-index mark c.loop-pool-test.false))
    ∙ c.loop-pool.invariant
