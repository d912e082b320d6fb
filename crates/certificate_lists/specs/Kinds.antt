-- What the words of a certificate's first line and of a stake of mark read as. (Own)
use Rattle.std.specs.Prelude.{ℕ, List, Option, Some}
use Rattle.gov_ids.specs.declared.PoolId.{PoolId}
use Rattle.gov_ids.specs.Spelling.{◌>>=◌, pool_of}
use Rattle.text_model.specs.Words.{Text}
use Rattle.line_kinds.specs.Cuts.{word_at}
use Rattle.line_kinds.specs.Numbers.{number_of}
use Rattle.state_kinds.specs.Heads.{version_of}

-- epoch, version and treasury
abbrev pub certificate_in : List Text → Option (ℕ × (ℕ × ℕ) × ℕ)
certificate_in ws = do
  epoch ← number_of (word_at 2 ws)
  version ← version_of (word_at 4 ws)
  treasury ← number_of (word_at 6 ws)
  Some (epoch, version, treasury)

-- the stake of a pool of mark
abbrev pub mark_in : List Text → Option (PoolId × ℕ)
mark_in ws = do
  pool ← pool_of (word_at 1 ws)
  stake ← number_of (word_at 2 ws)
  Some (pool, stake)
