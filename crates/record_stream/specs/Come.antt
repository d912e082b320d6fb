-- What came of a source, and the records that it says. (Own)
use Rattle.std.specs.Prelude.{◌≡◌, ◌⊎◌, ℕ, ◌<◌, List, [], ◌++◌, Option, Some, length}
use Rattle.byte_lines.specs.Pieces.{open_of}
use Rattle.byte_lines.specs.Reader.{part_max}
use Rattle.record_stream.specs.Records.{records_of}
use Rattle.tx_records.specs.declared.record.Reading.{Reading}

-- what came of a source that held these bytes, and what is left
pub record HasCome (bytes : List ℕ) (left : Option (List ℕ)) : Type 0 where
  pub came : List ℕ
  pub rest : List ℕ
  pub cut : bytes ≡ came ++ rest
  pub told : left ≡ Some rest

-- no more came than these records' lines, up to the last one's, and less than one part beyond:
-- the source is asked nothing once a line is found; that line is whole, or no byte is left
pub record ReadTo (came rest : List ℕ) (records : List (ℕ × Reading)) : Type 0 where
  pub upto : List ℕ
  pub ahead : List ℕ
  pub cut : came ≡ upto ++ ahead
  pub less : length ahead < part_max
  pub whole : (open_of upto ≡ []) ⊎ (rest ≡ [])
  pub all : records ≡ records_of upto

-- these records come first among others
abbrev pub Begin : List (ℕ × Reading) → List (ℕ × Reading) → Type 0
Begin records all = (more : List (ℕ × Reading)) × (all ≡ records ++ more)
