-- The active DReps without a vote on a frozen proposal,
-- and the fewest of them whose Yes reaches the need of DReps.
-- (Own; the stakes, counts and needs are those of the pass)
use Rattle.std.specs.Prelude.{ℕ, ◌+◌, ◌-◌, Bool, List, [], Option, Some, None, filter, find, is_none, length, map, sum_by, take}
use Rattle.std.specs.declared.cmp.Ordering.{Ordering}
use Rattle.std.specs.List.{range_with_len}
use Rattle.std.specs.Ordering.{nat_cmp, ordering_then}
use Rattle.maps.specs.Maps.{in_order}
use Rattle.coin_frac.specs.Fraction.{Fraction}
use Rattle.coin_frac.specs.Reaches.{reaches}
use Rattle.gov_ids.specs.declared.Credential.{Credential}
use Rattle.gov_ids.specs.declared.Drep.TheVariants as drep
use Rattle.gov_ids.specs.declared.Voter.TheVariants as voter
use Rattle.gov_ids.specs.Orders.{credential_cmp}
use Rattle.gov_actions.specs.declared.action.Proposal.{Proposal}
use Rattle.gov_actions.specs.declared.tally.Need.{Need}
use Rattle.gov_actions.specs.declared.tally.Need.TheVariants as need
use Rattle.gov_actions.specs.declared.tally.Role.TheVariants as role
use Rattle.gov_model.specs.Enacted.{enacted_after}
use Rattle.gov_model.specs.Need.{need_of}
use Rattle.gov_model.specs.Sides.{active_dreps, vote_count, vote_of}
use Rattle.gov_model.specs.Snapshot.{Snapshot}
use Rattle.gov_model.specs.Stake.{drep_stake}
use Rattle.gov_model.specs.Thresholds.{zero_share}
use Rattle.shortfall_model.specs.declared.short.Short.{Short}
use Rattle.shortfall_model.specs.declared.short.Short.TheVariants as short

-- ---- who may still vote

-- an active DRep that did not vote on the proposal
abbrev pub is_silent : Proposal → Credential → Bool
is_silent a c = is_none (vote_of a (voter.Drep c))

-- the silent DReps, each with its stake
abbrev pub silent_dreps : Snapshot → Proposal → List (Credential × ℕ)
silent_dreps f a = map (λ c. (c, drep_stake f (drep.Registered c))) (filter (is_silent a) (active_dreps f))

-- the greater stake first; of equal ones the lower credential first
abbrev pub stake_cmp : Credential × ℕ → Credential × ℕ → Ordering
stake_cmp x y = ordering_then (nat_cmp y.1 x.1) (credential_cmp x.0 y.0)

-- the silent DReps in this order
abbrev pub by_stake : Snapshot → Proposal → List (Credential × ℕ)
by_stake f a = in_order stake_cmp (silent_dreps f a)

-- ---- what suffices

-- the sum of their stakes
abbrev pub stakes_of : List (Credential × ℕ) → ℕ
stakes_of ds = sum_by (λ d. d.1) ds

-- the need of DReps, with nothing enacted before
abbrev pub need_of_dreps : Snapshot → Proposal → Need
need_of_dreps f a = need_of role.Drep f (enacted_after f []) a.action

-- the count of DReps: yes and total
abbrev pub drep_count : Snapshot → Proposal → ℕ × ℕ
drep_count f a = vote_count role.Drep f a

-- with the Yes of these silent DReps the count reaches the threshold
-- they are in the total before, as No
abbrev pub suffice : Fraction → ℕ × ℕ → List (Credential × ℕ) → Bool
suffice t count ds = reaches (count.0 + stakes_of ds) count.1 t

-- the prefixes of a list, from the empty one on
abbrev pub fronts_of : {A : Type 0} → List A → List (List A)
fronts_of xs = map (λ n. take n xs) (range_with_len 0 (length xs + 1))

-- the shortest prefix of the silent DReps that suffices, if one does
abbrev pub least_front : Snapshot → Proposal → Fraction → Option (List (Credential × ℕ))
least_front f a t = find (suffice t (drep_count f a)) (fronts_of (by_stake f a))

-- ---- the answer

-- the count of Yes without the last of them
abbrev pub yes_without_last : ℕ → List (Credential × ℕ) → ℕ
yes_without_last ayes ds = ayes + stakes_of (take (length ds - 1) ds)

-- by the prefix that suffices
abbrev pub short_by : Fraction → ℕ × ℕ → Option (List (Credential × ℕ)) → Short
short_by t count None = short.None count.0 count.1 t
short_by t count (Some ds) = short.Least ds count.0 count.1 t (yes_without_last count.0 ds)

-- by the need of DReps; if they need nothing, a threshold of 0
abbrev pub short_for : Need → Snapshot → Proposal → Short
short_for need.Never f a = short.Never
short_for need.Nothing f a = short_by zero_share (drep_count f a) (least_front f a zero_share)
short_for (need.Share t) f a = short_by t (drep_count f a) (least_front f a t)

-- what the proposal lacks
abbrev pub short_of : Snapshot → Proposal → Short
short_of f a = short_for (need_of_dreps f a) f a
