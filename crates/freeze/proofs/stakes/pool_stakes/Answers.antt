use Rattle.std.proofs.Common.{◌≡◌, ℕ, List, [], ◌∷◌, ◌++◌, map, refl, ap, sym, ◌∙◌}
use Rattle.std.proofs.lemmas.List.{append-nil, at_drop_all}
use Rattle.std.specs.Map.{keys_of}
use Rattle.gov_ids.specs.declared.PoolId.{PoolId}
use Rattle.book_records.specs.declared.pool.Pool.{Pool}
use Rattle.stake_book.specs.Stakes.{pool_stake_in}
use Rattle.freeze.proofs.stakes.pool_stakes.Goals as goal

by_ids : (f : PoolId → PoolId × ℕ) (pools : List (PoolId × Pool)) → map f (keys_of pools) ≡ map (λ e. f e.0) pools
by_ids f [] = refl
by_ids f (e ∷ es) = ap (λ (l : List (PoolId × ℕ)). f e.0 ∷ l) (by_ids f es)

pub returns : goal.returns
returns c =
    let f : PoolId → PoolId × ℕ = λ p. (p, pool_stake_in c.args.stake.now p) in
    let ids : List PoolId = c.deref-p-items.result.now in
    let items : List (PoolId × ℕ) = c.loop-p.stakes.items in
    sym (append-nil items)
    ∙ sym (at_drop_all (λ (l : List PoolId). items ++ map f l) ids c.loop-p.p-index c.loop-p-test.false)
    ∙ c.loop-p.invariant
    ∙ ap (λ (l : List PoolId). map f l) (c.deref-p-items.ensures.value ∙ c.in_ok-ids.ensures.value)
    ∙ by_ids f c.args.pools.now
