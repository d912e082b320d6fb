-- What a line reads as. (Own; the JSON values are those of `serde_json`)
use Rattle.std.specs.Prelude.{List, ℕ, Option, None, Result, if◌then◌else◌}
use Rattle.std.specs.Str.{is_utf8}
use Rattle.serde_json.specs.Data.{Data}
use Rattle.serde_json.specs.Read.{read}
use Rattle.tx_records.specs.declared.record.Record.{Record}
use Rattle.json_fields.specs.Steps.{◌>>=◌, or_fault}
use Rattle.record_read.specs.LineFaults.{LineFault, BadJson}
use Rattle.record_read.specs.Records.{record_in}

-- the JSON value of bytes that are a text
abbrev pub json_of : List ℕ → Option Data
json_of bytes = if is_utf8 bytes then read bytes else None

-- the record of a line's bytes
abbrev pub record_of_line : List ℕ → Result Record LineFault
record_of_line bytes = or_fault BadJson (json_of bytes) >>= record_in
