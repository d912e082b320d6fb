-- The registered DReps and the dormant count, as plain data.
use Rattle.std.specs.Prelude.{ℕ, List}
use Rattle.gov_ids.specs.declared.Credential.{Credential}
use Rattle.book_records.specs.declared.DrepState.{DrepState}

-- the DReps in order of their credentials, and the dormant count
-- dormant: how many epochs ended without a proposal since a transaction last proposed
pub record Dreps : Type 0 where
  pub dreps : List (Credential × DrepState)
  pub dormant : ℕ
