-- What is read of a line, with what more there is to say of it. (Own)
use Rattle.std.specs.Prelude.{ℕ, true, false, Bool, List, [], ◌∷◌, Option, Some, None, codes, filter_map, option_map}
use Rattle.std.specs.List.{enumerate_from}
use Rattle.byte_lines.specs.Pieces.{lines_of}
use Rattle.serde_json.specs.Data.{Data}
use Rattle.json_place.specs.Steps.{place_of}
use Rattle.record_read.specs.Lines.{json_of}
use Rattle.record_stream.specs.Records.{reading_of_line}
use Rattle.tx_records.specs.declared.limits.TheConstants.{LINE_LIMIT}
use Rattle.tx_records.specs.declared.record.Reading.{Reading}
use Rattle.tx_records.specs.declared.record.Reading.TheVariants.{Read, Malformed, TooLong}
use Rattle.record_notes.specs.Notes.{Said, said_of}
use Rattle.record_notes.specs.declared.note.What.TheVariants.{NoJson}

-- what was read, and what more there is to say
pub record Noted : Type 0 where
  pub reading : Reading
  pub said : List Said

-- the line is no record
abbrev pub is_malformed : Reading → Bool
is_malformed (Read r) = false
is_malformed (Malformed field place) = true
is_malformed TooLong = true

-- of the JSON value of a line; of a record only the names that nobody reads. Of a line that is no
-- JSON value, where it stops being the front of one
abbrev pub said_of_value : Reading → List ℕ → Option Data → List Said
said_of_value r bytes None = (codes "json", NoJson (place_of bytes)) ∷ []
said_of_value r bytes (Some d) = said_of (is_malformed r) d

-- of a line; nothing of one that is too long
abbrev pub said_of_line : Reading → Option (List ℕ) → List Said
said_of_line r None = []
said_of_line r (Some bytes) = said_of_value r bytes (json_of bytes)

-- what is read of a line, with what more there is to say; nothing of a blank line
abbrev pub noted_of_line : Option (List ℕ) → Option Noted
noted_of_line line = option_map (λ r. record { reading = r; said = said_of_line r line }) (reading_of_line line)

-- the same of each line of a stream, with the number of the line
abbrev pub noted_of : ℕ × Option (List ℕ) → Option (ℕ × Noted)
noted_of line = option_map (λ r. (line.0, r)) (noted_of_line line.1)

-- of a whole stream, from its first line on
abbrev pub notes_of : List ℕ → List (ℕ × Noted)
notes_of bytes = filter_map noted_of (enumerate_from 1 (lines_of LINE_LIMIT bytes))
