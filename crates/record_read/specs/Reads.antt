-- What a reader of records answers: what the reading gives, unless memory ran out.
use Rattle.std.specs.Prelude.{◌≡◌, Result, Ok, Err}
use Rattle.record_read.specs.declared.fault.RecordFault.{RecordFault}
use Rattle.record_read.specs.declared.fault.RecordFault.TheVariants.{BadJson, UnknownKind, BadField, NoMemory}
use Rattle.record_read.specs.LineFaults as lines

-- a reader of a record, of a field or of a part of one
abbrev pub ReadsRecord : {A : Type 0} → Result A RecordFault → Result A lines.LineFault → Type 0
ReadsRecord (Ok x) reading = reading ≡ Ok x
ReadsRecord (Err BadJson) reading = reading ≡ Err lines.BadJson
ReadsRecord (Err UnknownKind) reading = reading ≡ Err lines.UnknownKind
ReadsRecord (Err (BadField name place)) reading = reading ≡ Err (lines.BadField name place)
ReadsRecord (Err NoMemory) reading = Unit {0}
