-- What the lines of a stream with rollbacks say. (Own)
use Rattle.std.specs.Prelude.{◌≡◌, ℕ, Bool, true, List, Option, Some, None, Result, Ok, Err, IfSome, filter_map, if◌then◌else◌}
use Rattle.byte_lines.specs.Pieces.{lines_of}
use Rattle.line_runs.specs.Plays.{records_from}
use Rattle.record_read.specs.LineFaults as faults
use Rattle.record_stream.specs.Records.{is_blank}
use Rattle.tx_records.specs.declared.field.FieldName.TheVariants as fields
use Rattle.tx_records.specs.declared.limits.TheConstants.{LINE_LIMIT}
use Rattle.follow_records.specs.declared.record.FollowReading.{FollowReading}
use Rattle.follow_records.specs.declared.record.FollowReading.TheVariants.{Read, Malformed, TooLong}
use Rattle.follow_records.specs.declared.record.FollowRecord.{FollowRecord}
use Rattle.follow_model.specs.Laws.{is_within_limits}
use Rattle.follow_read.specs.Lines.{follow_record_of_line}

-- the record, or what of the line is wrong
abbrev pub follow_reading_by : Result FollowRecord faults.LineFault → FollowReading
follow_reading_by (Ok r) = Read r
follow_reading_by (Err faults.BadJson) = Malformed fields.Json None
follow_reading_by (Err faults.UnknownKind) = Malformed fields.Kind None
follow_reading_by (Err (faults.BadField name place)) = Malformed name place

-- what a line says; a blank one says nothing, and a line that is too long is never blank
abbrev pub follow_reading_of_line : Option (List ℕ) → Option FollowReading
follow_reading_of_line None = Some TooLong
follow_reading_of_line (Some bytes) = if is_blank bytes then None else Some (follow_reading_by (follow_record_of_line bytes))

-- what the lines of a stream say, each with the number of its line
abbrev pub follow_readings_of : List ℕ → List (ℕ × FollowReading)
follow_readings_of bytes = records_from follow_reading_of_line 1 (lines_of LINE_LIMIT bytes)

-- what was read is within the limits of records
abbrev pub is_reading_within : FollowReading → Bool
is_reading_within (Read r) = is_within_limits r
is_reading_within (Malformed field place) = true
is_reading_within TooLong = true

-- the record that was read, if one was
abbrev pub record_read : FollowReading → Option FollowRecord
record_read (Read r) = Some r
record_read (Malformed field place) = None
record_read TooLong = None

-- the records among what was read, in order
abbrev pub records_read : List (ℕ × FollowReading) → List FollowRecord
records_read rs = filter_map (λ (r : ℕ × FollowReading). record_read r.1) rs

-- what was read of a line of these bytes
pub record IsFollowReadOf (line : List ℕ) (said : Option FollowReading) : Type 0 where
  pub says : said ≡ follow_reading_of_line (Some line)
  pub within : IfSome said (λ reading. is_reading_within reading ≡ true)
