-- The side of each voter where nobody has voted. (Own: one sum serves all proposals)
use Rattle.std.specs.Prelude.{ℕ, ◌≡◌, List, if◌then◌else◌, map, nat_le}
use Rattle.maps.specs.Maps.{IsMap, sum_values}
use Rattle.gov_ids.specs.declared.Credential.{Credential}
use Rattle.gov_ids.specs.declared.PoolId.{PoolId}
use Rattle.gov_ids.specs.declared.Drep.TheVariants as drep
use Rattle.gov_ids.specs.declared.Voter.{Voter}
use Rattle.gov_ids.specs.declared.Voter.TheVariants as voter
use Rattle.gov_ids.specs.Orders.{credential_cmp, pool_cmp}
use Rattle.gov_actions.specs.declared.action.Action.{Action}
use Rattle.gov_actions.specs.declared.action.Action.TheVariants.{HardForkInitiation, NoConfidence}
use Rattle.gov_actions.specs.declared.action.Vote.{Vote}
use Rattle.gov_actions.specs.declared.action.Vote.TheVariants.{No}
use Rattle.gov_model.specs.Sides.{silent_pool_side}
use Rattle.drep_pulser.specs.Count.{Ended, sum_for}
use Rattle.snapshots.specs.declared.frozen.Frozen.{Frozen}
use Rattle.snapshots.specs.declared.frozen.FrozenPool.{FrozenPool}
use Rattle.tally.specs.declared.silent_pools.SilentPools.{SilentPools}
use Rattle.tally.specs.Adding.{total_of, yes_of}

-- the weight and the side of each voter
abbrev pub Standing : Type 0
Standing = List (Voter × (ℕ × Vote))

-- yes and total of these voters
abbrev pub count_of_standing : Standing → ℕ × ℕ
count_of_standing voters = (sum_values yes_of voters, sum_values total_of voters)

-- the stake of a frozen DRep, in lovelace; 0 where its expiry has passed
abbrev pub drep_weight : Frozen → Ended → Credential × ℕ → ℕ
drep_weight f c d = if nat_le f.epoch d.1 then sum_for c.sums (drep.Registered d.0) else 0

-- a frozen DRep that does not vote says No
abbrev pub silent_drep : Frozen → Ended → Credential × ℕ → Voter × (ℕ × Vote)
silent_drep f c d = (voter.Drep d.0, (drep_weight f c d, No))

-- the frozen DReps where none votes
abbrev pub silent_dreps : Frozen → Ended → Standing
silent_dreps f c = map (silent_drep f c) f.dreps

-- the frozen DReps are in order, and this is their total
pub record AreSilentDreps (f : Frozen) (c : Ended) (total : ℕ) : Type 0 where
  pub in_order : IsMap credential_cmp f.dreps
  pub count : (0, total) ≡ count_of_standing (silent_dreps f c)

-- a frozen pool that does not vote, with its side on the action
abbrev pub silent_pool : Action → FrozenPool → Voter × (ℕ × Vote)
silent_pool a p = (voter.Pool p.pool, (p.stake, silent_pool_side p.default_vote a))

-- the frozen pools where none votes
abbrev pub silent_pools : Frozen → Action → Standing
silent_pools f a = map (silent_pool a) f.pools

-- these pools by their ids
abbrev pub by_id : List FrozenPool → List (PoolId × FrozenPool)
by_id pools = map (λ p. (p.pool, p)) pools

-- yes and total of the silent pools on an action
abbrev pub count_on : SilentPools → Action → ℕ × ℕ
count_on silent (HardForkInitiation previous version) = silent.hard_fork
count_on silent (NoConfidence previous) = silent.motion
count_on silent _ = silent.other

-- the frozen pools are in order, and these are their counts on each action
pub record AreSilentPools (f : Frozen) (silent : SilentPools) : Type 0 where
  pub in_order : IsMap pool_cmp (by_id f.pools)
  pub count : (a : Action) → count_on silent a ≡ count_of_standing (silent_pools f a)
