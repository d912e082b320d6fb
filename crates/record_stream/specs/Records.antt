-- What was read of each line of a stream. (Own)
use Rattle.std.specs.Prelude.{◌≡◌, ℕ, ◌==◌, ◌||◌, Bool, true, List, Option, Some, None, Result, Ok, Err, IfSome, filter_map, option_map, if◌then◌else◌}
use Rattle.std.specs.List.{list_all, enumerate_from}
use Rattle.byte_lines.specs.Pieces.{lines_of}
use Rattle.tx_records.specs.declared.field.FieldName.TheVariants as fields
use Rattle.tx_records.specs.declared.record.Reading.{Reading}
use Rattle.tx_records.specs.declared.record.Reading.TheVariants.{Read, Malformed, TooLong}
use Rattle.tx_records.specs.declared.record.Record.{Record}
use Rattle.record_read.specs.LineFaults as faults
use Rattle.record_read.specs.Lines.{record_of_line}
use Rattle.tx_records.specs.RecordLimits.{is_within_limits}
use Rattle.tx_records.specs.declared.limits.TheConstants.{LINE_LIMIT}

-- a space, a tab or a carriage return
abbrev pub is_blank_byte : ℕ → Bool
is_blank_byte b = b == 32 || b == 9 || b == 13

-- nothing but these
abbrev pub is_blank : List ℕ → Bool
is_blank bytes = list_all is_blank_byte bytes

-- the record, or what of the line is wrong
abbrev pub reading_by : Result Record faults.LineFault → Reading
reading_by (Ok r) = Read r
reading_by (Err faults.BadJson) = Malformed fields.Json None
reading_by (Err faults.UnknownKind) = Malformed fields.Kind None
reading_by (Err (faults.BadField name place)) = Malformed name place

-- what a line says; a blank one says nothing, and a line that is too long is never blank
abbrev pub reading_of_line : Option (List ℕ) → Option Reading
reading_of_line None = Some TooLong
reading_of_line (Some bytes) = if is_blank bytes then None else Some (reading_by (record_of_line bytes))

-- the line of this number, where it says something
abbrev pub record_of : ℕ × Option (List ℕ) → Option (ℕ × Reading)
record_of line = option_map (λ r. (line.0, r)) (reading_of_line line.1)

-- the records of lines, each with the number of its line; the first line has the number n
abbrev pub records_from : ℕ → List (Option (List ℕ)) → List (ℕ × Reading)
records_from n lines = filter_map record_of (enumerate_from n lines)

-- the records of a stream: blank lines give none and are numbered
abbrev pub records_of : List ℕ → List (ℕ × Reading)
records_of bytes = records_from 1 (lines_of LINE_LIMIT bytes)

-- what was read is within the limits of records
abbrev pub is_within : Reading → Bool
is_within (Read r) = is_within_limits r
is_within (Malformed field place) = true
is_within TooLong = true

-- what was read of a line of these bytes
pub record IsReadOf (line : List ℕ) (said : Option Reading) : Type 0 where
  pub says : said ≡ reading_of_line (Some line)
  pub within : IfSome said (λ reading. is_within reading ≡ true)
