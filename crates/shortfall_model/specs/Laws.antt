-- The law over shortfalls, proved where a public call cites it. (Own)
use Rattle.std.specs.Prelude.{◌≡◌, ℕ, ◌≤◌, Bool, true, false, List, All, Contains, Option, Some, None, length}
use Rattle.std.specs.List.{IsDistinct}
use Rattle.std.specs.Map.{keys_of}
use Rattle.coin_frac.specs.Fraction.{Fraction}
use Rattle.gov_ids.specs.declared.Credential.{Credential}
use Rattle.gov_ids.specs.Same.{same_credential}
use Rattle.gov_actions.specs.declared.action.Proposal.{Proposal}
use Rattle.gov_actions.specs.declared.tally.Need.{Need}
use Rattle.gov_actions.specs.declared.tally.Need.TheVariants as need
use Rattle.gov_model.specs.Snapshot.{Snapshot}
use Rattle.gov_model.specs.Thresholds.{zero_share}
use Rattle.shortfall_model.specs.declared.short.Short.{Short}
use Rattle.shortfall_model.specs.declared.short.Short.TheVariants as short
use Rattle.shortfall_model.specs.Silent.{drep_count, need_of_dreps, short_of, silent_dreps, suffice, yes_without_last}

-- silent DReps of a proposal, each once, in any order
pub record AreSilent (f : Snapshot) (a : Proposal) (ds : List (Credential × ℕ)) : Type 0 where
  pub silent : All (Contains (silent_dreps f a)) ds
  pub once : IsDistinct same_credential (keys_of ds)

-- the Yes of no silent DReps suffices
abbrev pub NoneSuffice : Snapshot → Proposal → Fraction → Type 0
NoneSuffice f a t = (ds : List (Credential × ℕ)) → AreSilent f a ds → suffice t (drep_count f a) ds ≡ false

-- the Yes of these silent DReps suffices, and that of fewer does not
pub record AreFewest (f : Snapshot) (a : Proposal) (t : Fraction) (ds : List (Credential × ℕ)) : Type 0 where
  pub silent : AreSilent f a ds
  pub reach : suffice t (drep_count f a) ds ≡ true
  pub fewest : (others : List (Credential × ℕ)) → AreSilent f a others → suffice t (drep_count f a) others ≡ true → length ds ≤ length others

-- the threshold of a need: 0 if nothing is needed, none if it is never reached
abbrev pub threshold_of : Need → Option Fraction
threshold_of need.Never = None
threshold_of need.Nothing = Some zero_share
threshold_of (need.Share t) = Some t

-- an answer on a proposal is right: no vote helps if and only if the need is never reached
-- else threshold and count are those of the pass, and no silent DReps suffice
-- or the chosen ones do and no fewer
abbrev pub IsRight : Snapshot → Proposal → Short → Type 0
IsRight f a short.Never = threshold_of (need_of_dreps f a) ≡ None
IsRight f a (short.None ayes total t) =
    (threshold_of (need_of_dreps f a) ≡ Some t) × ((ayes, total) ≡ drep_count f a) × NoneSuffice f a t
IsRight f a (short.Least ds ayes total t n) =
    (threshold_of (need_of_dreps f a) ≡ Some t) × ((ayes, total) ≡ drep_count f a) × AreFewest f a t ds × (n ≡ yes_without_last ayes ds)

-- each answer is right, and its number is the least
abbrev pub LeastIsLeast : Type 0
LeastIsLeast = (f : Snapshot) (a : Proposal) → IsRight f a (short_of f a)
