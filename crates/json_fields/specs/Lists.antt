-- What a list of entries reads as, or which entry is bad. (Own)
use Rattle.std.specs.Prelude.{ℕ, Bool, ◌||◌, List, [], ◌∷◌, ◌++◌, Some, None, Result, Ok, Err, length, map, nat_le, if◌then◌else◌}
use Rattle.std.specs.declared.cmp.Ordering.{Ordering}
use Rattle.serde_json.specs.Data.{Data, Items, no_items, item}
use Rattle.maps.specs.Maps.{has_member}
use Rattle.json_fields.specs.declared.fault.FieldFault.{FieldFault}
use Rattle.json_fields.specs.declared.fault.FieldFault.TheVariants.{OutOfRange}
use Rattle.json_fields.specs.declared.lists.ListFault.{ListFault}
use Rattle.json_fields.specs.Kinds.{items_in}
use Rattle.json_fields.specs.Steps.{◌>>=◌}

-- a fault of the list itself
abbrev pub whole_fault : FieldFault → ListFault
whole_fault fault = record { place = None; fault = fault }

-- a fault of the entry at the place i
abbrev pub fault_at : ℕ → FieldFault → ListFault
fault_at i fault = record { place = Some i; fault = fault }

-- the entry at the place i; one that is out of place is bad
abbrev pub entry_at : {A : Type 0} → ℕ → (A → Bool) → Result A FieldFault → Result A ListFault
entry_at i out (Err fault) = Err (fault_at i fault)
entry_at i out (Ok x) = if out x then Err (fault_at i OutOfRange) else Ok x

-- those before, then the entries that follow
-- the first bad one is the fault: it cannot be read, or it is out of place after those before it
abbrev pub entries_after : {A : Type 0} → (Data → Result A FieldFault) → (List A → A → Bool) → List A → Items → Result (List A) ListFault
entries_after reading out before no_items = Ok before
entries_after reading out before (item d ds) =
    entry_at (length before) (out before) (reading d) >>= λ x. entries_after reading out (before ++ x ∷ []) ds

-- by whether it is a list
abbrev pub entries_of : {A : Type 0} → (Data → Result A FieldFault) → (List A → A → Bool) → Result Items FieldFault → Result (List A) ListFault
entries_of reading out (Err fault) = Err (whole_fault fault)
entries_of reading out (Ok ds) = entries_after reading out [] ds

-- there are as many before as a list may have
abbrev pub is_full : {A : Type 0} → ℕ → List A → Bool
is_full limit before = nat_le limit (length before)

-- a list of at most so many entries
abbrev pub list_in : {A : Type 0} → ℕ → (Data → Result A FieldFault) → Data → Result (List A) ListFault
list_in limit reading d = entries_of reading (λ before x. is_full limit before) (items_in d)

-- an earlier entry has this name, or there are as many before as a list may have
abbrev pub is_known_or_full : {A K : Type 0} → (K → K → Ordering) → (A → K) → ℕ → List A → A → Bool
is_known_or_full cmp name limit before x = has_member cmp (map name before) (name x) || is_full limit before

-- a list of at most so many entries, each with a name of its own
abbrev pub distinct_list_in : {A K : Type 0} → (K → K → Ordering) → (A → K) → ℕ → (Data → Result A FieldFault) → Data → Result (List A) ListFault
distinct_list_in cmp name limit reading d = entries_of reading (is_known_or_full cmp name limit) (items_in d)
