-- Delegations to pools and DReps of plain lists. (Own)
use Rattle.std.specs.Prelude.{Bool, true, ◌&&◌, List}
use Rattle.maps.specs.Maps.{has_key}
use Rattle.maps.specs.Words.{none_or}
use Rattle.gov_ids.specs.declared.Credential.{Credential}
use Rattle.gov_ids.specs.declared.Drep.{Drep}
use Rattle.gov_ids.specs.declared.Drep.TheVariants as drep
use Rattle.gov_ids.specs.declared.PoolId.{PoolId}
use Rattle.gov_ids.specs.Orders.{credential_cmp, pool_cmp}
use Rattle.book_records.specs.declared.DrepState.{DrepState}
use Rattle.book_records.specs.declared.pool.Pool.{Pool}
use Rattle.book_records.specs.declared.Registered.{Registered}

-- a DRep is predefined or one of these
abbrev pub is_registered : List (Credential × DrepState) → Drep → Bool
is_registered dreps (drep.Registered c) = has_key credential_cmp dreps c
is_registered dreps drep.Abstain = true
is_registered dreps drep.NoConfidence = true

-- an account delegates to one of these pools and DReps, if at all
abbrev pub delegates_within : List (PoolId × Pool) → List (Credential × DrepState) → Credential × Registered → Bool
delegates_within pools dreps a = none_or (has_key pool_cmp pools) a.1.pool && none_or (is_registered dreps) a.1.drep
