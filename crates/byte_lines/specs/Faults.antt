-- The counts of faults.
use Rattle.std.specs.Prelude.{◌≡◌, ℕ, ◌-◌, ◌^◌, ◌<◌, ◌≤◌, ◌⊎◌}

-- the count of faults is greater, or was at its greatest value already
abbrev pub Rose : ℕ → ℕ → Type 0
Rose old new = (old < new) ⊎ (old ≡ 2 ^ 64 - 1)

-- the count rose if and only if a read or a write failed
pub record CountsFaults (failed : Type 0) (old new : ℕ) : Type 0 where
  pub rose : failed → Rose old new
  pub stays : ¬ failed → new ≡ old
  pub never_falls : old ≤ new
