-- The hasher that a seed begins with. (Own)
use Rattle.std.specs.Prelude.{◌≡◌, ℕ}
use Rattle.std.specs.Hash.{le_bytes}
use Rattle.std.specs.Hash.DefaultHasher as sip
use Rattle.hash_seed.specs.declared.HashSeed.{HashSeed}

-- the seed of SipHash to which two numbers were fed
abbrev pub seed_of : ℕ → ℕ → HashSeed
seed_of first second = record { initial = sip.write (sip.write sip.initial (le_bytes 8 first)) (le_bytes 8 second) }

-- a seed of some two numbers
pub record IsSeed (s : HashSeed) : Type 0 where
  pub first : ℕ
  pub second : ℕ
  pub is : s ≡ seed_of first second
