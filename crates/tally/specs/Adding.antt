-- How a count adds a side, and how a vote replaces a side. (Own: how it is added up)
use Rattle.std.specs.Prelude.{ℕ, ◌+◌, ◌-◌, ◌^◌, ◌<◌, ◌≤◌, List, Option, Some, None, fold}
use Rattle.gov_actions.specs.declared.action.Vote.{Vote}
use Rattle.gov_actions.specs.declared.action.Vote.TheVariants.{Yes, No, Abstain}

-- yes and total with one more side
abbrev pub with_side : ℕ × ℕ → ℕ → Vote → ℕ × ℕ
with_side count weight Yes = (count.0 + weight, count.1 + weight)
with_side count weight No = (count.0, count.1 + weight)
with_side count weight Abstain = count

-- yes and total with each of these sides added
abbrev pub with_sides : ℕ × ℕ → List (ℕ × Vote) → ℕ × ℕ
with_sides count sides = fold (λ n s. with_side n s.0 s.1) count sides

-- yes and total without a side that they contain
abbrev pub without_side : ℕ × ℕ → ℕ → Vote → ℕ × ℕ
without_side count weight Yes = (count.0 - weight, count.1 - weight)
without_side count weight No = (count.0, count.1 - weight)
without_side count weight Abstain = count

-- yes and total after a vote replaces its voter's side; no change where the voter has no side
abbrev pub with_vote : ℕ × ℕ → Option (ℕ × Vote) → Vote → ℕ × ℕ
with_vote count None vote = count
with_vote count (Some side) vote = with_side (without_side count side.0 side.1) side.0 vote

-- what a side adds to yes
abbrev pub yes_of : ℕ × Vote → ℕ
yes_of (weight, Yes) = weight
yes_of (weight, No) = 0
yes_of (weight, Abstain) = 0

-- what a side adds to the total
abbrev pub total_of : ℕ × Vote → ℕ
total_of (weight, Yes) = weight
total_of (weight, No) = weight
total_of (weight, Abstain) = 0

-- the count contains the side; the rest of it is a count with room for the side's weight
pub record IsPartOf (count : ℕ × ℕ) (side : ℕ × Vote) : Type 0 where
  pub yes : yes_of side ≤ count.0
  pub total : total_of side ≤ count.1
  pub part : (without_side count side.0 side.1).0 ≤ (without_side count side.0 side.1).1
  pub fits : (without_side count side.0 side.1).1 + side.0 < 2 ^ 64
