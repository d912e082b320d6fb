-- The vote delegation of an account. (DELEG of the formal specification)
use Rattle.std.specs.Prelude.{Bool, None}
use Rattle.gov_ids.specs.of_maps.Words.{holds}
use Rattle.gov_ids.specs.declared.Credential.{Credential}
use Rattle.gov_ids.specs.declared.Drep.TheVariants as drep
use Rattle.gov_ids.specs.Same.{same_drep}
use Rattle.book_records.specs.declared.Registered.{Registered}

-- an account delegates its vote to the DRep
abbrev pub delegates_to_drep : Credential → Registered → Bool
delegates_to_drep c r = holds same_drep r.drep (drep.Registered c)

-- an account without its vote delegation
abbrev pub without_drep : Registered → Registered
without_drep r = record r { drep = None }
