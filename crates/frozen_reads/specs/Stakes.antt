-- The stakes that a boundary reports, by the sums of a count. (Own)
use Rattle.std.specs.Prelude.{ℕ, List, filter, map, nat_lt}
use Rattle.tally.specs.of_drep_pulser.Count.{sum_for}
use Rattle.gov_ids.specs.declared.Credential.{Credential}
use Rattle.gov_ids.specs.declared.Drep.{Drep}
use Rattle.gov_ids.specs.declared.Drep.TheVariants as drep

-- the registered DReps of these credentials
abbrev pub registered : List (Credential × ℕ) → List Drep
registered dreps = map (λ e. drep.Registered e.0) dreps

-- those of these DReps that have stake, each with it
abbrev pub stakes_by : List (Drep × ℕ) → List Drep → List (Drep × ℕ)
stakes_by sums ds = filter (λ s. nat_lt 0 s.1) (map (λ d. (d, sum_for sums d)) ds)
