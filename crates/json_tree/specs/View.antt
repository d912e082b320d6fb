-- The data of a value, as `serde_json` defines it.
use Rattle.std.specs.Prelude.{ℕ, List, [], ◌∷◌, map}
use Rattle.std.specs.Borrow.{Bor}
use Rattle.serde_json.specs.Data.{Data, null, boolean, number, string, array, object, Items, Members, no_members, put}
use Rattle.serde_json.specs.View.{items_of}
use Rattle.json_tree.specs.Numbers.{number_view}
use Rattle.json_tree.specs.declared.value.Value.{Value, fold-Value}
use Rattle.json_tree.specs.declared.value.Value.TheOpen.{Value-F}

-- members inserted in turn: the last value of a name stays
abbrev pub members_after : Members → List (Bor (List ℕ) × Data) → Members
members_after found [] = found
members_after found (m ∷ ms) = members_after (put m.0.now m.1 found) ms

-- one level, if each value inside is given as its data
abbrev pub view_step : Value-F Data → Data
view_step Value-F.Null = null
view_step (Value-F.Bool b) = boolean b
view_step (Value-F.Number x) = number (number_view x)
view_step (Value-F.String s) = string s.now
view_step (Value-F.Array v) = array (items_of v.items)
view_step (Value-F.Object v) = object (members_after no_members v.items)

-- the data of a value
abbrev pub view : Value → Data
view = fold-Value Data view_step

-- the data of the entries of an array
abbrev pub items_view : List Value → Items
items_view vs = items_of (map view vs)

-- the data of the members of an object
abbrev pub members_view : List (Bor (List ℕ) × Value) → Members
members_view ms = members_after no_members (map (λ m. (m.0, view m.1)) ms)
