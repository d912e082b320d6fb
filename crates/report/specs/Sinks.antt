-- What a sink holds after it took only a part of a line. (Own)
use Rattle.std.specs.Prelude.{◌≡◌, ◌<◌, ℕ, List, Option, length, take}
use Rattle.std.specs.Io.KnownBytes.{append_known}

-- the first bytes of the line
abbrev pub IsCut : Option (List ℕ) → List ℕ → Option (List ℕ) → Type 0
IsCut taken line taken' = (k : ℕ) × (k < length line) × (taken' ≡ append_known taken (take k line))
