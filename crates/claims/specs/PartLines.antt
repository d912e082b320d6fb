-- The parts that lines of them are printed from. (Own)
use Rattle.std.specs.Prelude.{codes}
use Rattle.gov_ids.specs.Spelling.{credential_text, drep_text, pool_text}
use Rattle.certificate_model.specs.Parts.{Part}
use Rattle.claims.specs.declared.part_line.Named.{Named}
use Rattle.claims.specs.declared.part_line.Named.TheVariants.{Member, Drep, Pool}
use Rattle.claims.specs.declared.part_line.PartLine.{PartLine}
use Rattle.text_model.specs.Words.{Text}

-- the role of a voter
abbrev pub role_of : Named → Text
role_of (Member cold) = codes "committee"
role_of (Drep drep) = codes "drep"
role_of (Pool pool) = codes "pool"

-- its name
abbrev pub name_of : Named → Text
name_of (Member cold) = credential_text cold.now
name_of (Drep drep) = drep_text drep.now
name_of (Pool pool) = pool_text pool.now

-- the part
abbrev pub part_of : PartLine → Part
part_of p = record { role = role_of p.voter; name = name_of p.voter; weight = p.weight; side = p.side }
