-- A fault of a value as the fault of its field. (Own)
use Rattle.std.specs.Prelude.{ℕ, List, Option, None, Result, Ok, Err}
use Rattle.tx_records.specs.declared.field.FieldName.{FieldName}
use Rattle.json_fields.specs.declared.fault.FieldFault.{FieldFault}
use Rattle.json_fields.specs.declared.fault.FieldFault.TheVariants as values
use Rattle.json_fields.specs.declared.lists.ListFault.{ListFault}
use Rattle.record_read.specs.declared.fault.RecordFault.{RecordFault}
use Rattle.record_read.specs.declared.fault.RecordFault.TheVariants as faults

-- the field is bad, unless memory ran out
abbrev pub fault_in : FieldName → Option ℕ → FieldFault → RecordFault
fault_in name place values.Missing = faults.BadField name place
fault_in name place values.WrongKind = faults.BadField name place
fault_in name place values.OutOfRange = faults.BadField name place
fault_in name place values.NoMemory = faults.NoMemory

-- the value, or its fault as that of the field
abbrev pub in_field : {A : Type 0} → FieldName → Result A FieldFault → Result A RecordFault
in_field name (Ok x) = Ok x
in_field name (Err fault) = Err (fault_in name None fault)

-- the list, or its fault as that of the field
abbrev pub in_list : {A : Type 0} → FieldName → Result (List A) ListFault → Result (List A) RecordFault
in_list name (Ok xs) = Ok xs
in_list name (Err e) = Err (fault_in name e.place e.fault)
