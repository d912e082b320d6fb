-- A count of the frozen entries as plain data: between two pulses, and after it has ended.
-- (the DRep pulser of cardano-ledger; the representation is own)
use Rattle.std.specs.Prelude.{ℕ, List, [], ◌∷◌, Option, map, unwrap_or}
use Rattle.gov_ids.specs.declared.Credential.{Credential}
use Rattle.gov_ids.specs.declared.Drep.{Drep}
use Rattle.gov_ids.specs.declared.Drep.TheVariants as drep
use Rattle.gov_ids.specs.Orders.{drep_cmp}
use Rattle.book_records.specs.declared.DrepState.{DrepState}
use Rattle.maps.specs.Maps.{value_at, with_values}

-- a count that goes on
pub record Count : Type 0 where
  -- the credential of the last visited entry, none before the first
  pub cursor : Option Credential
  -- how many entries are visited
  pub done : ℕ
  -- how many there are
  pub total : ℕ
  -- how many workers may share the entries that are left
  pub workers : ℕ
  -- the sum of each DRep over the visited entries, in the order of DReps
  pub sums : List (Drep × ℕ)
  -- the deposits of proposals, by the credential to which they return
  pub deposits : List (Credential × ℕ)

-- a count that has ended
pub record Ended : Type 0 where
  -- how many entries there are
  pub total : ℕ
  -- the sum of each DRep over all entries, in the order of DReps
  pub sums : List (Drep × ℕ)

-- the sum of a DRep, 0 where there is none
abbrev pub sum_for : List (Drep × ℕ) → Drep → ℕ
sum_for sums d = unwrap_or (value_at drep_cmp sums d) 0

-- 0 for each DRep, the predefined ones among them
abbrev pub no_sums : List (Credential × DrepState) → List (Drep × ℕ)
no_sums dreps = with_values drep_cmp (map (λ d. (drep.Registered d.0, 0)) dreps) ((drep.Abstain, 0) ∷ (drep.NoConfidence, 0) ∷ [])
