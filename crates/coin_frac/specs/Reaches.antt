-- Whether a part of a total reaches a threshold. (CIP-1694, Ratification; accepted ratio of RATIFY)
use Rattle.std.specs.Prelude.{ℕ, ◌*◌, ◌≡◌, ◌⊎◌, ◌<◌, ◌≤◌, Bool, ◌||◌, ◌&&◌, ◌==◌, nat_lt, nat_le}
use Rattle.coin_frac.specs.Fraction.{Fraction}

-- the threshold t is 0, or there is a total and part / total is at least t
abbrev pub Reaches : ℕ → ℕ → Fraction → Type 0
Reaches part total t = (t.num ≡ 0) ⊎ ((0 < total) × (t.num * total ≤ part * t.den))

-- `Reaches` as a test
abbrev pub reaches : ℕ → ℕ → Fraction → Bool
reaches part total t = (t.num == 0) || (nat_lt 0 total && nat_le (t.num * total) (part * t.den))
