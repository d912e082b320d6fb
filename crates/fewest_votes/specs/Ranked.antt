-- The ranking of a frozen epoch's active DReps, and what a proposal lacks by it. (Own)
use Rattle.std.specs.Prelude.{ℕ, List, filter, map, nat_le}
use Rattle.std.specs.List.{find}
use Rattle.coin_frac.specs.Fraction.{Fraction}
use Rattle.drep_pulser.specs.Count.{Ended, sum_for}
use Rattle.gov_actions.specs.declared.action.Proposal.{Proposal}
use Rattle.gov_actions.specs.declared.tally.Need.{Need}
use Rattle.gov_actions.specs.declared.tally.Need.TheVariants as need
use Rattle.gov_ids.specs.declared.Credential.{Credential}
use Rattle.gov_ids.specs.declared.Drep.TheVariants as drep
use Rattle.gov_model.specs.Sides.{active_dreps}
use Rattle.gov_model.specs.Snapshot.{Snapshot}
use Rattle.gov_model.specs.Stake.{drep_stake}
use Rattle.gov_model.specs.Thresholds.{zero_share}
use Rattle.maps.specs.Maps.{in_order}
use Rattle.shortfall_model.specs.declared.short.Short.{Short}
use Rattle.shortfall_model.specs.declared.short.Short.TheVariants as short
use Rattle.shortfall_model.specs.Silent.{fronts_of, is_silent, short_by, stake_cmp, suffice}
use Rattle.snapshots.specs.declared.frozen.Frozen.{Frozen}
use Rattle.fewest_votes.specs.declared.ranking.Rank.{Rank}

-- the active DReps of a snapshot with their stakes: the greatest first, equal ones by credential
abbrev pub ranked_of : Snapshot → List (Credential × ℕ)
ranked_of s = in_order stake_cmp (map (λ c. (c, drep_stake s (drep.Registered c))) (active_dreps s))

-- the active DReps by an ended count, in the same order
abbrev pub ranked_by : Frozen → Ended → List (Credential × ℕ)
ranked_by f c =
    in_order stake_cmp (map (λ d. (d.0, sum_for c.sums (drep.Registered d.0))) (filter (λ d. nat_le f.epoch d.1) f.dreps))

-- the place of a DRep with its stake
abbrev pub rank_of : Credential × ℕ → Rank
rank_of d = record { stake = record { 0 = d.1 }; drep = d.0 }

-- the DRep at a place, with its stake
abbrev pub drep_at : Rank → Credential × ℕ
drep_at r = (r.drep, r.stake.0)

-- those of these DReps that did not vote on the proposal
abbrev pub silent_among : Proposal → List (Credential × ℕ) → List (Credential × ℕ)
silent_among a ds = filter (λ d. is_silent a d.0) ds

-- what a proposal lacks of a threshold, if these are its silent DReps in order
abbrev pub short_by_front : Fraction → ℕ × ℕ → List (Credential × ℕ) → Short
short_by_front t count ds = short_by t count (find (suffice t count) (fronts_of ds))

-- what a proposal lacks of a need
abbrev pub short_in : Need → ℕ × ℕ → List (Credential × ℕ) → Short
short_in need.Never count ds = short.Never
short_in need.Nothing count ds = short_by_front zero_share count ds
short_in (need.Share t) count ds = short_by_front t count ds
