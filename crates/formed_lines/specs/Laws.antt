-- The law on the form of what lines give. (Own)
use Rattle.std.specs.Prelude.{◌≡◌, ℕ, IfOk, List, true}
use Rattle.formed_laws.specs.Records.{is_formed}
use Rattle.record_read.specs.Lines.{record_of_line}

-- whatever a line reads as has the form of the formats
abbrev pub LinesGiveFormed : Type 0
LinesGiveFormed = (line : List ℕ) → IfOk (record_of_line line) (λ r. is_formed r ≡ true)
