-- The names of a transaction's fields, each with a place, and the values at the places. (Own)
use Rattle.std.specs.Prelude.{◌≡◌, ℕ, suc, List, [], ◌∷◌, Option, Some, None, bytes_eq, codes, option_map, slice_get, slice_index, ◌-◌, ◌==◌, if◌then◌else◌}
use Rattle.std.specs.Borrow.{Bor}
use Rattle.serde_json.specs.Data.{Data}
use Rattle.serde_json.specs.Find.{as_object, get_member}
use Rattle.json_tree.specs.View.{view, members_view}
use Rattle.json_tree.specs.declared.value.Value.{Value}
use Rattle.tx_records.specs.declared.field.FieldName.{FieldName}
use Rattle.tx_records.specs.FieldTexts.{text_of_field}

-- the place of a name in a list, whose first one has the place k
abbrev pub place_in : List (List ℕ) → ℕ → List ℕ → Option ℕ
place_in [] k name = None
place_in (x ∷ xs) k name = if bytes_eq name x then Some k else place_in xs (suc k) name

-- the names that have a place
abbrev pub names : List (List ℕ)
names =
    codes "kind" ∷ codes "id" ∷ codes "inputs" ∷ codes "outputs" ∷ codes "fee" ∷ codes "size" ∷ codes "scriptFee" ∷ codes "witnessed"
    ∷ codes "scripts" ∷ codes "from" ∷ codes "until" ∷ codes "collateral" ∷ codes "collateralReturn" ∷ codes "mint" ∷ codes "treasury" ∷ codes "donation"
    ∷ codes "withdrawals" ∷ codes "certs" ∷ codes "proposals" ∷ codes "votes" ∷ []

-- the place of a name
abbrev pub place_of : List ℕ → Option ℕ
place_of name = place_in names 0 name

-- the place of a field's name
abbrev pub place_of_name : FieldName → Option ℕ
place_of_name name = place_of (text_of_field name)

-- the value of the member at this index
abbrev pub value_at : List (Bor (List ℕ) × Value) → ℕ → Option Data
value_at es i = option_map (λ (e : Bor (List ℕ) × Value). view e.1) (slice_get es i)

-- the value that a place keeps: of the member at the index one below the number, and none for 0
abbrev pub kept_value : List (Bor (List ℕ) × Value) → ℕ → Option Data
kept_value es kept = if kept == 0 then None else value_at es (kept - 1)

-- the value at a place
abbrev pub at : List (Bor (List ℕ) × Value) → List ℕ → ℕ → Option Data
at es found place = kept_value es (slice_index found place)

-- each place has the value of the last of these members with its name
abbrev pub FindsAmong : List (Bor (List ℕ) × Value) → List (Bor (List ℕ) × Value) → List ℕ → Type 0
FindsAmong es front found = (name : List ℕ) (place : ℕ) → place_of name ≡ Some place → at es found place ≡ get_member name (members_view front)

-- each place has the value of the last member of a value with its name
pub record Finds (v : Value) (es : List (Bor (List ℕ) × Value)) (found : List ℕ) : Type 0 where
  pub members : as_object (view v) ≡ Some (members_view es)
  pub finds : FindsAmong es es found
