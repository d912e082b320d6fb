-- The frozen pools where none has voted, and once all have voted who vote.
use Rattle.std.proofs.Common.{◌≡◌, ℕ, List, [], ◌∷◌, Bool, true, false, cond, Option, Some, None, map, option_map, sum_by, unwrap_or, refl, ap, sym, ◌∙◌, arith}
use Rattle.std.specs.declared.cmp.Ordering.TheVariants.{Less}
use Rattle.std.specs.Ordering.{eq_by_cmp}
use Rattle.std.specs.List.{AllByRecursion}
use Rattle.std.specs.List.Sorted.{IsStrictlySortedBy}
use Rattle.std.specs.Map.{keys_of, values_of}
use Rattle.std.proofs.lemmas.List.Sums.{sum_by-cons}
use Rattle.gov_ids.specs.declared.Credential.{Credential}
use Rattle.gov_ids.specs.declared.PoolId.{PoolId}
use Rattle.gov_ids.specs.declared.Voter.{Voter}
use Rattle.gov_ids.specs.declared.Voter.TheVariants as voter
use Rattle.gov_ids.specs.Orders.{pool_cmp, voter_cmp}
use Rattle.book_records.specs.declared.pool.DefaultVote.{DefaultVote}
use Rattle.book_records.specs.declared.pool.DefaultVote.TheVariants as default
use Rattle.gov_actions.specs.declared.action.Action.{Action}
use Rattle.gov_actions.specs.declared.action.Action.TheVariants as action
use Rattle.gov_actions.specs.declared.action.Proposal.{Proposal}
use Rattle.gov_actions.specs.declared.action.Vote.{Vote}
use Rattle.gov_model.specs.Sides.{default_side, no_confidence_side, silent_pool_side, vote_of}
use Rattle.maps.specs.Maps.{IsMap, value_at}
use Rattle.snapshots.specs.declared.frozen.Frozen.{Frozen}
use Rattle.snapshots.specs.declared.frozen.FrozenPool.{FrozenPool}
use Rattle.tally.specs.declared.silent_pools.SilentPools.{SilentPools}
use Rattle.tally.specs.Adding.{total_of, with_sides, yes_of}
use Rattle.tally.specs.Silent.{Standing, by_id, count_of_standing, count_on, silent_pool, silent_pools}
use Rattle.tally.proofs.Counting.{count_is, counted}
use Rattle.tally.proofs.PoolSides.{sides_of_pools}
use Rattle.tally.proofs.Votes.{cast, weight_of}

-- the stake of a pool, and its side where it does not vote
abbrev pub silent_side : Action → FrozenPool → ℕ × Vote
silent_side a p = (p.stake, silent_pool_side p.default_vote a)

-- yes and total of the same sides
sum_up : (xs ys : List (ℕ × Vote)) → xs ≡ ys → ◌≡◌ {A = ℕ × ℕ} (sum_by yes_of xs, sum_by total_of xs) (sum_by yes_of ys, sum_by total_of ys)
sum_up xs ys e = λ i. (sum_by yes_of (e i), sum_by total_of (e i))

module _ (a : Action) where
  -- these pools
  abbrev those : List FrozenPool → Standing
  those ps = map (silent_pool a) ps

  above : (id : PoolId) (ps : List FrozenPool) → AllByRecursion (λ q. pool_cmp id q ≡ Less) (keys_of (by_id ps)) → AllByRecursion (λ q. voter_cmp (voter.Pool id) q ≡ Less) (keys_of (those ps))
  above id [] h = tt
  above id (p ∷ ps) h = (h.0, above id ps h.1)

  pub ordered_pools : (ps : List FrozenPool) → IsMap pool_cmp (by_id ps) → IsMap voter_cmp (those ps)
  unfolding IsStrictlySortedBy
  ordered_pools [] h = tt
  ordered_pools (p ∷ ps) h = (above p.pool ps h.0, ordered_pools ps h.1)

  here : (b : Bool) (p : FrozenPool) (o : Option (ℕ × Vote)) (q : Option FrozenPool) → o ≡ option_map (silent_side a) q
      → cond b (Some (silent_side a p)) o ≡ option_map (silent_side a) (cond b (Some p) q)
  here true p o q rest = refl
  here false p o q rest = rest

  at_pool : (id : PoolId) (ps : List FrozenPool) → value_at voter_cmp (those ps) (voter.Pool id) ≡ option_map (silent_side a) (value_at pool_cmp (by_id ps) id)
  at_pool id [] = refl
  at_pool id (p ∷ ps) = here (eq_by_cmp pool_cmp id p.pool) p (value_at voter_cmp (those ps) (voter.Pool id)) (value_at pool_cmp (by_id ps) id) (at_pool id ps)

  no_member : (key : Credential) (ps : List FrozenPool) → value_at voter_cmp (those ps) (voter.Committee key) ≡ None
  no_member key [] = refl
  no_member key (p ∷ ps) = no_member key ps

  no_drep : (d : Credential) (ps : List FrozenPool) → value_at voter_cmp (those ps) (voter.Drep d) ≡ None
  no_drep d [] = refl
  no_drep d (p ∷ ps) = no_drep d ps

  pub no_pool : (v : Voter) (ps : List FrozenPool) → ((p : PoolId) → v ≡ voter.Pool p → ⊥) → value_at voter_cmp (those ps) v ≡ None
  no_pool (voter.Committee key) ps h = no_member key ps
  no_pool (voter.Drep d) ps h = no_drep d ps
  no_pool (voter.Pool p) ps h = absurd (h p refl)

  pub found_pool : (v : Voter) (id : PoolId) (ps items : List FrozenPool) (o : Option FrozenPool) → v ≡ voter.Pool id → items ≡ ps → o ≡ value_at pool_cmp (by_id items) id
      → option_map (silent_side a) o ≡ value_at voter_cmp (those ps) v
  found_pool v id ps items o is same at =
      ap (λ (q : Option FrozenPool). option_map (silent_side a) q) (at ∙ ap (λ (l : List FrozenPool). value_at pool_cmp (by_id l) id) same)
      ∙ sym (ap (λ (w : Voter). value_at voter_cmp (those ps) w) is ∙ at_pool id ps)

  pub pools_weigh : (ps : List FrozenPool) → weight_of (those ps) ≡ sum_by (λ (p : FrozenPool). p.stake) ps
  pools_weigh [] = refl
  pools_weigh (p ∷ ps) =
      omega (arith, sum_by-cons (λ (s : ℕ × Vote). s.0) (silent_side a p) (values_of (those ps)), sum_by-cons (λ (p : FrozenPool). p.stake) p ps, pools_weigh ps)

  values_are : (ps : List FrozenPool) → values_of (those ps) ≡ map (silent_side a) ps
  values_are [] = refl
  values_are (p ∷ ps) = ap (λ (l : List (ℕ × Vote)). silent_side a p ∷ l) (values_are ps)

  -- their sides one after the other
  pub pools_silent : (ps : List FrozenPool) → with_sides (0, 0) (map (silent_side a) ps) ≡ count_of_standing (those ps)
  pools_silent ps = counted (map (silent_side a) ps) ∙ count_is (map (silent_side a) ps) ∙ sum_up (map (silent_side a) ps) (values_of (those ps)) (sym (values_are ps))

values_cast : (a : Proposal) (ps : List FrozenPool) → values_of (cast a.votes (those a.action ps)) ≡ sides_of_pools a ps
values_cast a [] = refl
values_cast a (p ∷ ps) = λ i. (p.stake, unwrap_or (vote_of a (voter.Pool p.pool)) (silent_pool_side p.default_vote a.action)) ∷ values_cast a ps i

pub pools_cast : (f : Frozen) (a : Proposal) → count_of_standing (cast a.votes (silent_pools f a.action)) ≡ with_sides (0, 0) (sides_of_pools a f.pools)
pools_cast f a =
    sum_up (values_of (cast a.votes (silent_pools f a.action))) (sides_of_pools a f.pools) (values_cast a f.pools)
    ∙ sym (counted (sides_of_pools a f.pools) ∙ count_is (sides_of_pools a f.pools))

-- what a default vote says to two actions of which both are motions of no confidence, or neither
by_default : (a b : Action) → no_confidence_side a ≡ no_confidence_side b → (d : DefaultVote) → default_side d a ≡ default_side d b
by_default a b e default.No = refl
by_default a b e default.Abstain = refl
by_default a b e default.NoConfidence = e

-- two actions on which each silent pool is on the same side
same_count : (f : Frozen) (a b : Action) → ((d : DefaultVote) → silent_pool_side d a ≡ silent_pool_side d b) → count_of_standing (silent_pools f a) ≡ count_of_standing (silent_pools f b)
same_count f a b h = λ i. count_of_standing (map (λ (p : FrozenPool). (voter.Pool p.pool, (p.stake, h p.default_vote i))) f.pools)

module _ (f : Frozen) (silent : SilentPools) (hard_fork : silent.hard_fork ≡ count_of_standing (silent_pools f (action.HardForkInitiation None (0, 0))))
    (motion : silent.motion ≡ count_of_standing (silent_pools f (action.NoConfidence None))) (other : silent.other ≡ count_of_standing (silent_pools f action.Info)) where
  pub on_each : (a : Action) → count_on silent a ≡ count_of_standing (silent_pools f a)
  on_each (action.NoConfidence p) = motion ∙ same_count f (action.NoConfidence None) (action.NoConfidence p) (by_default (action.NoConfidence None) (action.NoConfidence p) refl)
  on_each (action.UpdateCommittee p r add t) =
      other ∙ same_count f action.Info (action.UpdateCommittee p r add t) (by_default action.Info (action.UpdateCommittee p r add t) refl)
  on_each (action.NewConstitution p d s) = other ∙ same_count f action.Info (action.NewConstitution p d s) (by_default action.Info (action.NewConstitution p d s) refl)
  on_each (action.HardForkInitiation p v) = hard_fork ∙ same_count f (action.HardForkInitiation None (0, 0)) (action.HardForkInitiation p v) (λ d. refl)
  on_each (action.ParameterChange p u s) = other ∙ same_count f action.Info (action.ParameterChange p u s) (by_default action.Info (action.ParameterChange p u s) refl)
  on_each (action.TreasuryWithdrawals t s) = other ∙ same_count f action.Info (action.TreasuryWithdrawals t s) (by_default action.Info (action.TreasuryWithdrawals t s) refl)
  on_each action.Info = other
