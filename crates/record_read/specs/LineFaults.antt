-- Why a line is no record. (Own)
use Rattle.std.specs.Prelude.{ℕ, Option}
use Rattle.tx_records.specs.declared.field.FieldName.{FieldName}

-- it is no JSON value; it is no object or of none of the five kinds; or the first missing or bad
-- field, with the place of the bad entry, if one entry is bad
pub data LineFault : Type 0 where
  BadJson : LineFault
  UnknownKind : LineFault
  BadField : FieldName → Option ℕ → LineFault
