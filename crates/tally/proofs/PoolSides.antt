-- The sides of the pools, from the frozen list.
use Rattle.std.proofs.Common.{◌≡◌, ℕ, List, [], ◌∷◌, map, unwrap_or, refl, ap, sym, subst, ◌∙◌}
use Rattle.gov_ids.specs.declared.PoolId.{PoolId}
use Rattle.gov_ids.specs.declared.Voter.TheVariants as voter
use Rattle.gov_actions.specs.declared.action.Proposal.{Proposal}
use Rattle.gov_actions.specs.declared.action.Vote.{Vote}
use Rattle.gov_actions.specs.declared.tally.Role.TheVariants as role
use Rattle.gov_model.specs.Snapshot.{Snapshot}
use Rattle.gov_model.specs.Sides.{count_of, pool_side, silent_pool_side, vote_count, vote_of}
use Rattle.gov_model.specs.Stake.{pool_stake}
use Rattle.snapshots.specs.declared.frozen.Frozen.{Frozen}
use Rattle.snapshots.specs.declared.frozen.FrozenPool.{FrozenPool}
use Rattle.snapshots.specs.Frozen.{frozen_copy_of, frozen_pool}
use Rattle.tally.specs.Adding.{with_sides}
use Rattle.tally.proofs.Counting.{counted}

-- how a pool counts
abbrev pub side_of_pool : Proposal → FrozenPool → ℕ × Vote
side_of_pool a p = (p.stake, unwrap_or (vote_of a (voter.Pool p.pool)) (silent_pool_side p.default_vote a.action))

-- how these pools count
abbrev pub sides_of_pools : Proposal → List FrozenPool → List (ℕ × Vote)
sides_of_pools a ps = map (side_of_pool a) ps

frozen_sides : (s : Snapshot) (a : Proposal) (mark : List (PoolId × ℕ))
    → sides_of_pools a (map (λ (m : PoolId × ℕ). frozen_pool s m.0) mark) ≡ map (λ (m : PoolId × ℕ). (pool_stake s m.0, pool_side s a m.0)) mark
frozen_sides s a [] = refl
frozen_sides s a (m ∷ mark) = ap (λ (rest : List (ℕ × Vote)). (pool_stake s m.0, pool_side s a m.0) ∷ rest) (frozen_sides s a mark)

pub pools_counted : (f : Frozen) (a : Proposal) (s : Snapshot) → f ≡ frozen_copy_of s → with_sides (0, 0) (sides_of_pools a f.pools) ≡ vote_count role.Pool s a
pools_counted f a s e =
    subst (λ (g : Frozen). with_sides (0, 0) (sides_of_pools a g.pools) ≡ vote_count role.Pool s a) (sym e)
    (counted (sides_of_pools a (frozen_copy_of s).pools) ∙ ap count_of (frozen_sides s a s.mark))
