-- The thresholds by name, and the greatest of several. (CIP-1694, Ratification: the thresholds
-- P1 to P6 of DReps and Q1 to Q5 of pools; PoolThresholds and DrepThresholds of the formal
-- specification)
use Rattle.std.specs.Prelude.{ℕ, ◌*◌, List, [], ◌∷◌, filter, map, nat_lt, unwrap_or, slice_get, if◌then◌else◌}
use Rattle.std.specs.List.{reduce}
use Rattle.book_records.specs.of_coin_frac.Fraction.{Fraction, fraction}
use Rattle.gov_actions.specs.of_pparams.declared.Params.{Params}
use Rattle.gov_actions.specs.of_pparams.declared.Update.{Update}
use Rattle.gov_actions.specs.of_pparams.Marks.{Group, network, economic, technical, governance, touches}

-- 0/1
abbrev pub zero_share : Fraction
zero_share = fraction 0 1

-- the threshold at a place of a list of thresholds
abbrev pub threshold_at : List Fraction → ℕ → Fraction
threshold_at ts i = unwrap_or (slice_get ts i) zero_share

-- the greater of two fractions; the first of equal ones
abbrev pub greater_of : Fraction → Fraction → Fraction
greater_of a b = if nat_lt (a.num * b.den) (b.num * a.den) then b else a

-- the greatest fraction, the first of equal ones; 0/1 of an empty list
abbrev pub greatest_of : List Fraction → Fraction
greatest_of ts = unwrap_or (reduce greater_of ts) zero_share

-- what DReps need for a motion of no confidence
abbrev pub P1 : Params → Fraction
P1 p = threshold_at p.drep_voting_thresholds 0

-- for an UpdateCommittee if there is a committee
abbrev pub P2a : Params → Fraction
P2a p = threshold_at p.drep_voting_thresholds 1

-- for an UpdateCommittee if there is none
abbrev pub P2b : Params → Fraction
P2b p = threshold_at p.drep_voting_thresholds 2

-- for a new constitution
abbrev pub P3 : Params → Fraction
P3 p = threshold_at p.drep_voting_thresholds 3

-- for a hard fork
abbrev pub P4 : Params → Fraction
P4 p = threshold_at p.drep_voting_thresholds 4

-- for parameters of a group: P5a to P5d
abbrev pub P5 : Params → Group → Fraction
P5 p network = threshold_at p.drep_voting_thresholds 5
P5 p economic = threshold_at p.drep_voting_thresholds 6
P5 p technical = threshold_at p.drep_voting_thresholds 7
P5 p governance = threshold_at p.drep_voting_thresholds 8

-- for withdrawals from the treasury
abbrev pub P6 : Params → Fraction
P6 p = threshold_at p.drep_voting_thresholds 9

-- what pools need for a motion of no confidence
abbrev pub Q1 : Params → Fraction
Q1 p = threshold_at p.pool_voting_thresholds 0

-- for an UpdateCommittee if there is a committee
abbrev pub Q2a : Params → Fraction
Q2a p = threshold_at p.pool_voting_thresholds 1

-- for an UpdateCommittee if there is none
abbrev pub Q2b : Params → Fraction
Q2b p = threshold_at p.pool_voting_thresholds 2

-- for a hard fork
abbrev pub Q4 : Params → Fraction
Q4 p = threshold_at p.pool_voting_thresholds 3

-- for a parameter of the security group
abbrev pub Q5 : Params → Fraction
Q5 p = threshold_at p.pool_voting_thresholds 4

-- the greatest of the DRep thresholds of the groups that an update touches
abbrev pub update_threshold : Params → Update → Fraction
update_threshold p u =
    greatest_of (map (P5 p) (filter (λ g. touches g u) (network ∷ economic ∷ technical ∷ governance ∷ [])))
