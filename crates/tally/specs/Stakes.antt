-- The stakes that a count adds up; their sum must fit in 64 bits. (Own)
use Rattle.std.specs.Prelude.{ℕ, ◌+◌, sum_by}
use Rattle.gov_ids.specs.declared.Drep.TheVariants as drep
use Rattle.drep_pulser.specs.Count.{Ended, sum_for}
use Rattle.snapshots.specs.declared.frozen.Frozen.{Frozen}

-- the stakes of the frozen DReps and of the predefined ones
abbrev pub drep_stakes : Frozen → Ended → ℕ
drep_stakes f c =
    sum_by (λ d. sum_for c.sums (drep.Registered d.0)) f.dreps + sum_for c.sums drep.Abstain + sum_for c.sums drep.NoConfidence

-- the stakes of the pools of mark
abbrev pub pool_stakes : Frozen → ℕ
pool_stakes f = sum_by (λ p. p.stake) f.pools
