-- The DReps that an account of a genesis may delegate to. (Own)
use Rattle.std.specs.Prelude.{Bool, true, List}
use Rattle.maps.specs.Maps.{has_member}
use Rattle.gov_ids.specs.declared.Credential.{Credential}
use Rattle.gov_ids.specs.declared.Drep.{Drep}
use Rattle.gov_ids.specs.declared.Drep.TheVariants.{Registered}
use Rattle.gov_ids.specs.Orders.{credential_cmp}

-- a DRep that is predefined or among these
abbrev pub is_drep_among : List Credential → Drep → Bool
is_drep_among dreps (Registered c) = has_member credential_cmp dreps c
is_drep_among dreps _ = true
