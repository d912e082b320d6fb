-- What DReps and pools weigh together, by a sound snapshot.
use Rattle.std.proofs.Common.{◌≡◌, ℕ, ◌+◌, ◌≤◌, List, [], ◌∷◌, Bool, true, false, Option, Some, None, sum_by, refl, arith}
use Rattle.std.specs.declared.cmp.Ordering.TheVariants.{Less}
use Rattle.std.specs.List.{AllByRecursion}
use Rattle.std.specs.List.Sorted.{IsStrictlySortedBy}
use Rattle.std.specs.Map.{keys_of}
use Rattle.std.proofs.lemmas.List.Sums.{sum_by-cons}
use Rattle.std.proofs.lemmas.Map.Keys.{IsDistinct-from_sorted}
use Rattle.ledger_model.proofs.SameSums.{sum_by-map}
use Rattle.maps.specs.Maps.{IsSet, value_at}
use Rattle.maps.specs.Words.{amount, holds, some_and}
use Rattle.maps.proofs.Credits.{sum_by-plus, sum_values-entries}
use Rattle.maps.proofs.Joined.{at_most}
use Rattle.maps.proofs.Several.{sum_values-without_keys}
use Rattle.gov_ids.specs.declared.Credential.{Credential}
use Rattle.gov_ids.specs.declared.Drep.{Drep}
use Rattle.gov_ids.specs.declared.Drep.TheVariants as drep
use Rattle.gov_ids.specs.declared.PoolId.{PoolId}
use Rattle.gov_ids.specs.Orders.{credential_cmp, drep_cmp, pool_cmp}
use Rattle.gov_ids.specs.Same.{same_drep, same_pool}
use Rattle.gov_ids.proofs.Exacts.{pool_exact}
use Rattle.gov_ids.proofs.Totals.{credential_total, drep_total, pool_total}
use Rattle.book_records.specs.declared.Entry.{Entry}
use Rattle.book_records.specs.declared.Registered.{Registered}
use Rattle.gov_actions.specs.declared.action.Proposal.{Proposal}
use Rattle.gov_model.specs.Proposals.{deposits_of}
use Rattle.gov_model.specs.Snapshot.{Snapshot, registration_of}
use Rattle.gov_model.specs.Stake.{deposits_to, drep_stake, is_frozen_drep, is_staked_with, pool_stake, votes_by, weight_of}
use Rattle.run_model.specs.SoundLaws.{DrepStakesAreWithin, PoolStakesAreWithin}
use Rattle.run_model.specs.SoundWorld.{IsSoundSnapshot, held_by}
use Rattle.run_laws.proofs.Parted.{part}
use Rattle.run_laws.proofs.SoundStakes.{keyed_within, other_key, sorted_within}

sum_most : {A : Type 0} (f g : A → ℕ) → ((x : A) → f x ≤ g x) → (xs : List A) → sum_by f xs ≤ sum_by g xs
sum_most f g h [] = omega arith
sum_most f g h (x ∷ xs) = omega (arith, sum_by-cons f x xs, sum_by-cons g x xs, h x, sum_most f g h xs)

-- the deposits that go back to distinct credentials are among all of them
deposits_within : (f : Snapshot) (cs : List Credential) → IsSet credential_cmp cs → sum_by (deposits_to f) cs ≤ deposits_of f.proposals
deposits_within f cs h = keyed_within credential_total (λ (p : Proposal). p.deposit) (λ (p : Proposal). Some p.account.cred) cs h f.proposals

weights_within : (s : ℕ) (f : Snapshot) → IsSoundSnapshot s f → sum_by (weight_of f) f.entries ≤ s
weights_within s f h = omega (
  arith,
  sum_by-plus (λ (e : Credential × Entry). held_by e.1) (λ (e : Credential × Entry). deposits_to f e.0) f.entries,
  sum_values-entries held_by f.entries,
  sum_by-map (deposits_to f) (λ (e : Credential × Entry). e.0) f.entries,
  deposits_within f (keys_of f.entries) h.entries,
  h.held,
)

-- ---- DReps

-- an entry delegates to one DRep at most
one_drep : (k q : Drep) → same_drep k q ≡ false → (r : Option Registered) → some_and (λ (x : Registered). holds same_drep x.drep q) r ≡ true → some_and (λ (x : Registered). holds same_drep x.drep k) r ≡ false
one_drep k q e None h = refl
one_drep k q e (Some r) h = other_key drep_total k q e r.drep h

-- the DReps of a snapshot, and the predefined ones
abbrev all_dreps : List (Credential × ℕ) → List Drep
all_dreps [] = drep.Abstain ∷ drep.NoConfidence ∷ []
all_dreps (d ∷ ds) = drep.Registered d.0 ∷ all_dreps ds

above_all : (c : Credential) (ds : List (Credential × ℕ)) → AllByRecursion (λ q. credential_cmp c q ≡ Less) (keys_of ds) → AllByRecursion (λ q. drep_cmp (drep.Registered c) q ≡ Less) (all_dreps ds)
above_all c [] h = (refl, (refl, tt))
above_all c (d ∷ ds) h = (h.0, above_all c ds h.1)

dreps_ordered : (ds : List (Credential × ℕ)) → IsSet credential_cmp (keys_of ds) → IsSet drep_cmp (all_dreps ds)
unfolding IsStrictlySortedBy
dreps_ordered [] h = ((refl, tt), (tt, tt))
dreps_ordered (d ∷ ds) h = (above_all d.0 ds h.0, dreps_ordered ds h.1)

sum_dreps : (g : Drep → ℕ) (ds : List (Credential × ℕ)) → sum_by g (all_dreps ds) ≡ sum_by (λ (d : Credential × ℕ). g (drep.Registered d.0)) ds + g drep.Abstain + g drep.NoConfidence
sum_dreps g [] = omega (arith, sum_by-cons g drep.Abstain (drep.NoConfidence ∷ []), sum_by-cons g drep.NoConfidence [])
sum_dreps g (d ∷ ds) = omega (arith, sum_by-cons g (drep.Registered d.0) (all_dreps ds), sum_by-cons (λ (x : Credential × ℕ). g (drep.Registered x.0)) d ds, sum_dreps g ds)

pub drep_stakes_are_within : DrepStakesAreWithin
drep_stakes_are_within s f h =
    let each : Drep → ℕ = part (weight_of f) votes_by f.entries in
    omega (
      arith,
      sum_dreps (drep_stake f) f.dreps,
      sum_most (drep_stake f) each (λ d. at_most (is_frozen_drep f d) (each d)) (all_dreps f.dreps),
      sorted_within drep_cmp (weight_of f) votes_by (λ k q e x t. one_drep k q e x.1.registered t) (all_dreps f.dreps) (dreps_ordered f.dreps h.dreps) f.entries,
      weights_within s f h,
    )

-- ---- pools

one_pool : (k q : PoolId) → same_pool k q ≡ false → (r : Option Registered) → some_and (λ (x : Registered). holds same_pool x.pool q) r ≡ true → some_and (λ (x : Registered). holds same_pool x.pool k) r ≡ false
one_pool k q e None h = refl
one_pool k q e (Some r) h = other_key pool_total k q e r.pool h

pub pool_stakes_are_within : PoolStakesAreWithin
pool_stakes_are_within s f h m =
    let ps : List PoolId = keys_of f.mark in
    let staked : PoolId → Proposal → Bool = λ p a. is_staked_with f p a.account.cred in
    let deposits : PoolId → ℕ = part (λ (a : Proposal). a.deposit) staked f.proposals in
    let marked : PoolId → ℕ = λ p. amount (λ (n : ℕ). n) (value_at pool_cmp f.mark p) in
    omega (
      arith,
      sum_by-map (pool_stake f) (λ (e : PoolId × ℕ). e.0) f.mark,
      sum_by-plus marked deposits ps,
      sum_values-without_keys pool_total pool_exact (λ (n : ℕ). n) ps f.mark m.pools (IsDistinct-from_sorted pool_cmp ps m.pools),
      m.sum,
      sorted_within pool_cmp (λ (a : Proposal). a.deposit) staked (λ k q e x t. one_pool k q e (registration_of f x.account.cred) t) ps m.pools f.proposals,
      h.held,
    )
