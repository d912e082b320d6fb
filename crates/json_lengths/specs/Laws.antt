-- The law on the lengths of JSON texts. (Own)
use Rattle.std.specs.Prelude.{◌≡◌, ℕ, ◌≤◌, List, Some, length}
use Rattle.serde_json.specs.Data.{Data}
use Rattle.serde_json.specs.Read.{read}
use Rattle.json_lengths.specs.Sizes.{data_size}

-- no text is shorter than the value that it is
abbrev pub TextsHoldTheirValues : Type 0
TextsHoldTheirValues = (text : List ℕ) (d : Data) → read text ≡ Some d → data_size d ≤ length text
