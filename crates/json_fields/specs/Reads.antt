-- What a reader answers: what the reading gives, unless memory ran out.
use Rattle.std.specs.Prelude.{◌≡◌, List, Result, Ok, Err}
use Rattle.json_fields.specs.declared.fault.FieldFault.{FieldFault}
use Rattle.json_fields.specs.declared.fault.FieldFault.TheVariants.{Missing, WrongKind, OutOfRange, NoMemory}
use Rattle.json_fields.specs.declared.lists.ListFault.{ListFault}

-- the fact, unless the fault is out of memory
abbrev pub UnlessMemory : FieldFault → Type 0 → Type 0
UnlessMemory Missing fact = fact
UnlessMemory WrongKind fact = fact
UnlessMemory OutOfRange fact = fact
UnlessMemory NoMemory fact = Unit {0}

-- a reader of one value
abbrev pub Reads : {A : Type 0} → Result A FieldFault → Result A FieldFault → Type 0
Reads (Ok x) reading = reading ≡ Ok x
Reads (Err fault) reading = UnlessMemory fault (reading ≡ Err fault)

-- a reader of a list
abbrev pub ReadsList : {A : Type 0} → Result (List A) ListFault → Result (List A) ListFault → Type 0
ReadsList (Ok xs) reading = reading ≡ Ok xs
ReadsList (Err e) reading = UnlessMemory e.fault (reading ≡ Err e)
