-- The fields of a record, each with its name; the first that does not read is named. (Own)
use Rattle.std.specs.Prelude.{ℕ, List, [], Option, Some, None, Result, Ok, Err, unwrap_or}
use Rattle.std.specs.declared.cmp.Ordering.{Ordering}
use Rattle.serde_json.specs.Data.{Data}
use Rattle.json_fields.specs.declared.fault.FieldFault.{FieldFault}
use Rattle.json_fields.specs.declared.lists.ListFault.{ListFault}
use Rattle.json_fields.specs.Entries.{needed_in, maybe_in}
use Rattle.json_fields.specs.Kinds.{field_in, optional_in}
use Rattle.json_fields.specs.Lists.{list_in, distinct_list_in, whole_fault}
use Rattle.json_fields.specs.Steps.{◌>>=◌}
use Rattle.tx_records.specs.declared.field.FieldName.{FieldName}
use Rattle.tx_records.specs.FieldTexts.{text_of_field}
use Rattle.record_read.specs.LineFaults.{LineFault, BadField}

-- the value, or the fault of the field
abbrev pub named : {A : Type 0} → FieldName → Result A FieldFault → Result A LineFault
named name (Ok x) = Ok x
named name (Err fault) = Err (BadField name None)

-- a field that has to be there
abbrev pub needed : {A : Type 0} → FieldName → (Data → Result A FieldFault) → Data → Result A LineFault
needed name reading d = named name (needed_in (text_of_field name) reading d)

-- one that may be absent or null
abbrev pub optional : {A : Type 0} → FieldName → (Data → Result A FieldFault) → Data → Result (Option A) LineFault
optional name reading d = named name (maybe_in (text_of_field name) reading d)

-- one that counts as x where it is absent or null
abbrev pub defaulted : {A : Type 0} → A → FieldName → (Data → Result A FieldFault) → Data → Result A LineFault
defaulted x name reading d = optional name reading d >>= λ found. Ok (unwrap_or found x)

-- the list, or the fault of the field, with the place of the entry that is bad
abbrev pub listed : {A : Type 0} → FieldName → Result (List A) ListFault → Result (List A) LineFault
listed name (Ok xs) = Ok xs
listed name (Err e) = Err (BadField name e.place)

-- the list in a field that has to be there
abbrev pub list_by : {A : Type 0} → (Data → Result (List A) ListFault) → Result Data FieldFault → Result (List A) ListFault
list_by reading (Ok d) = reading d
list_by reading (Err fault) = Err (whole_fault fault)

-- the list in a field that may be absent or null, which is the empty list
abbrev pub optional_list_by : {A : Type 0} → (Data → Result (List A) ListFault) → Result (Option Data) FieldFault → Result (List A) ListFault
optional_list_by reading (Ok None) = Ok []
optional_list_by reading (Ok (Some d)) = reading d
optional_list_by reading (Err fault) = Err (whole_fault fault)

-- a list of at most so many entries
abbrev pub needed_list : {A : Type 0} → FieldName → ℕ → (Data → Result A FieldFault) → Data → Result (List A) LineFault
needed_list name limit reading d = listed name (list_by (list_in limit reading) (field_in (text_of_field name) d))

-- a list of entries with names, none of them twice
abbrev pub needed_distinct_list : {A K : Type 0} → FieldName → (K → K → Ordering) → (A → K) → ℕ → (Data → Result A FieldFault) → Data → Result (List A) LineFault
needed_distinct_list name cmp own limit reading d = listed name (list_by (distinct_list_in cmp own limit reading) (field_in (text_of_field name) d))

-- a list that may be absent or null
abbrev pub optional_list : {A : Type 0} → FieldName → ℕ → (Data → Result A FieldFault) → Data → Result (List A) LineFault
optional_list name limit reading d = listed name (optional_list_by (list_in limit reading) (optional_in (text_of_field name) d))

-- a list of entries with names, none of them twice, that may be absent or null
abbrev pub optional_distinct_list : {A K : Type 0} → FieldName → (K → K → Ordering) → (A → K) → ℕ → (Data → Result A FieldFault) → Data → Result (List A) LineFault
optional_distinct_list name cmp own limit reading d =
    listed name (optional_list_by (distinct_list_in cmp own limit reading) (optional_in (text_of_field name) d))
