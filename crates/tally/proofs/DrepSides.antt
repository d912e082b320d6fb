-- The sides of the DReps, from the frozen list and the count of their stakes.
use Rattle.std.proofs.Common.{◌≡◌, ℕ, List, [], ◌∷◌, ◌++◌, filter, map, nat_le, unwrap_or, refl, ap, sym, subst, ◌∙◌}
use Rattle.gov_ids.specs.declared.Credential.{Credential}
use Rattle.gov_ids.specs.declared.Drep.TheVariants as drep
use Rattle.gov_ids.specs.declared.Voter.TheVariants as voter
use Rattle.drep_pulser.specs.Count.{Ended, sum_for}
use Rattle.drep_pulser.specs.Facts.{IsCountedOf}
use Rattle.gov_actions.specs.declared.action.Proposal.{Proposal}
use Rattle.gov_actions.specs.declared.action.Vote.{Vote}
use Rattle.gov_actions.specs.declared.action.Vote.TheVariants.{No, Abstain}
use Rattle.gov_actions.specs.declared.tally.Role.TheVariants as role
use Rattle.gov_model.specs.Snapshot.{Snapshot}
use Rattle.gov_model.specs.Sides.{count_of, drep_sides, no_confidence_side, vote_count, vote_of}
use Rattle.gov_model.specs.Stake.{drep_stake}
use Rattle.snapshots.specs.declared.frozen.Frozen.{Frozen}
use Rattle.snapshots.specs.Frozen.{frozen_copy_of}
use Rattle.tally.specs.Adding.{with_side, with_sides}
use Rattle.tally.proofs.Counting.{counted, with_sides-append}

-- how a DRep counts
abbrev pub drep_side : Ended → Proposal → Credential → ℕ × Vote
drep_side c a d = (sum_for c.sums (drep.Registered d), unwrap_or (vote_of a (voter.Drep d)) No)

-- how those of these DReps count whose expiry has not passed
abbrev pub sides_of_dreps : Frozen → Ended → Proposal → List (Credential × ℕ) → List (ℕ × Vote)
sides_of_dreps f c a dreps = map (λ d. drep_side c a d.0) (filter (λ d. nat_le f.epoch d.1) dreps)

-- how the predefined ones count
abbrev predefined : Ended → Proposal → List (ℕ × Vote)
predefined c a = (sum_for c.sums drep.Abstain, Abstain) ∷ (sum_for c.sums drep.NoConfidence, no_confidence_side a.action) ∷ []

staked : (s : Snapshot) (c : Ended) (a : Proposal) → IsCountedOf s c → (ds : List (Credential × ℕ))
    → map (λ (d : Credential × ℕ). drep_side c a d.0) ds
    ≡ map (λ (k : Credential). (drep_stake s (drep.Registered k), unwrap_or (vote_of a (voter.Drep k)) No)) (map (λ (d : Credential × ℕ). d.0) ds)
staked s c a is [] = refl
staked s c a is (d ∷ ds) = λ i. (is.sums (drep.Registered d.0) i, unwrap_or (vote_of a (voter.Drep d.0)) No) ∷ staked s c a is ds i

all_sides : (s : Snapshot) (c : Ended) (a : Proposal) → IsCountedOf s c → sides_of_dreps (frozen_copy_of s) c a s.dreps ++ predefined c a ≡ drep_sides s a
all_sides s c a is = λ i. staked s c a is (filter (λ (d : Credential × ℕ). nat_le s.epoch d.1) s.dreps) i
    ++ (is.sums drep.Abstain i, Abstain) ∷ (is.sums drep.NoConfidence i, no_confidence_side a.action) ∷ []

pub dreps_counted : (f : Frozen) (c : Ended) (a : Proposal) (s : Snapshot) → f ≡ frozen_copy_of s → IsCountedOf s c
    → with_side (with_sides (0, 0) (sides_of_dreps f c a f.dreps)) (sum_for c.sums drep.NoConfidence) (no_confidence_side a.action)
    ≡ vote_count role.Drep s a
dreps_counted f c a s e is =
    subst (λ (g : Frozen). with_side (with_sides (0, 0) (sides_of_dreps g c a g.dreps)) (sum_for c.sums drep.NoConfidence) (no_confidence_side a.action) ≡ vote_count role.Drep s a) (sym e)
    (sym (with_sides-append (0, 0) (sides_of_dreps (frozen_copy_of s) c a s.dreps) (predefined c a)) ∙ counted (sides_of_dreps (frozen_copy_of s) c a s.dreps ++ predefined c a) ∙ ap count_of (all_sides s c a is))
