use Rattle.std.proofs.Common.{ℕ, ◌+◌, List, [], ◌∷◌, ◌++◌, drop, map, ap, sym, ◌∙◌, append_assoc, arith}
use Rattle.std.proofs.lemmas.List.{append-nil, at_drop_more, drop_all}
use Rattle.gov_ids.specs.declared.PoolId.{PoolId}
use Rattle.snapshots.specs.declared.frozen.FrozenPool.{FrozenPool}
use Rattle.freeze.specs.Pools.{pool_by}
use Rattle.freeze.proofs.Sums.{place_within}
use Rattle.freeze.proofs.pools.frozen_pools.Goals as goal

abbrev nothing : PoolId × ℕ
nothing = (record { 0 = [] }, 0)

pub loop-p-preserved : goal.loop-p-preserved
loop-p-preserved c =
    let mark : List (PoolId × ℕ) = c.args.mark.now in
    let i : ℕ = c.loop-p.p-index in
    let f : PoolId × ℕ → FrozenPool = pool_by c.args.pools.now c.args.accounts.now.live c.args.deposits.now in
    let items : List FrozenPool = c.loop-p.frozen.items in
    let rest : List FrozenPool = map f (drop (i + 1) mark) in
    ap (λ (l : List FrozenPool). l ++ rest) c.in_ok-push.ensures.items
    ∙ append_assoc items (c.frozen_pool.result ∷ []) rest
    ∙ ap (λ (p : FrozenPool). items ++ p ∷ rest) c.frozen_pool.ensures
    ∙ sym (at_drop_more (λ (l : List (PoolId × ℕ)). items ++ map f l) mark i nothing c.loop-p-test.true)
    ∙ c.loop-p.invariant

pub frozen_pool-requires : goal.frozen_pool-requires
frozen_pool-requires c = record { room = omega (arith, place_within c.args.mark.now c.loop-p.p-index nothing c.loop-p-test.true, c.requires.room) }

pub returns : goal.returns
returns c =
    let mark : List (PoolId × ℕ) = c.args.mark.now in
    let f : PoolId × ℕ → FrozenPool = pool_by c.args.pools.now c.args.accounts.now.live c.args.deposits.now in
    let items : List FrozenPool = c.loop-p.frozen.items in
    c.from_vec.ensures
    ∙ sym (append-nil items)
    ∙ ap (λ (l : List (PoolId × ℕ)). items ++ map f l) (sym (drop_all c.loop-p.p-index mark c.loop-p-test.false))
    ∙ c.loop-p.invariant
