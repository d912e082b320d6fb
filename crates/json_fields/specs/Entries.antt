-- The fields of an object that is no record: an entry of a list, or what is in one. (Own)
use Rattle.std.specs.Prelude.{ℕ, List, Option, Some, None, Result, Ok, Err}
use Rattle.serde_json.specs.Data.{Data}
use Rattle.json_fields.specs.declared.fault.FieldFault.{FieldFault}
use Rattle.json_fields.specs.declared.lists.ListFault.{ListFault}
use Rattle.json_fields.specs.Kinds.{field_in, optional_in, pair_in}
use Rattle.json_fields.specs.Steps.{◌>>=◌}

-- a field that must be there
abbrev pub needed_in : {A : Type 0} → List ℕ → (Data → Result A FieldFault) → Data → Result A FieldFault
needed_in name reading d = field_in name d >>= reading

-- a field's value, read, if it is there
abbrev pub maybe_by : {A : Type 0} → (Data → Result A FieldFault) → Option Data → Result (Option A) FieldFault
maybe_by reading None = Ok None
maybe_by reading (Some d) = reading d >>= λ x. Ok (Some x)

-- a field that may be absent or null
abbrev pub maybe_in : {A : Type 0} → List ℕ → (Data → Result A FieldFault) → Data → Result (Option A) FieldFault
maybe_in name reading d = optional_in name d >>= maybe_by reading

-- an array of two entries, each read
unfoldable pub both_in : {A B : Type 0} → (Data → Result A FieldFault) → (Data → Result B FieldFault) → Data → Result (A × B) FieldFault
both_in first second d = do
  parts ← pair_in d
  a ← first parts.0
  b ← second parts.1
  Ok (a, b)

-- a list in an entry: its fault is that of its first bad entry
abbrev pub without_place : {A : Type 0} → Result (List A) ListFault → Result (List A) FieldFault
without_place (Ok xs) = Ok xs
without_place (Err e) = Err e.fault
