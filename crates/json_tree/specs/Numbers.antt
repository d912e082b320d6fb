-- The value of a `Number`.
use Rattle.serde_json.specs.Data.{Num, unsigned, negative, float}
use Rattle.json_tree.specs.declared.number.Number.{Number}
use Rattle.json_tree.specs.declared.number.Number.TheVariants.{Unsigned, Negative, Float}

-- the number of `serde_json`
abbrev pub number_view : Number → Num
number_view (Unsigned n) = unsigned n
number_view (Negative z) = negative z
number_view (Float x) = float x
