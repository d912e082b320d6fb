-- What a line of a followed stream reads as: a rollback, or a record of a replay. (Own)
use Rattle.std.specs.Prelude.{ℕ, Bool, false, List, Result, Ok, Err, bytes_eq, codes, if◌then◌else◌}
use Rattle.serde_json.specs.Data.{Data}
use Rattle.tx_records.specs.declared.field.FieldName.TheVariants as fields
use Rattle.json_fields.specs.declared.fault.FieldFault.{FieldFault}
use Rattle.json_fields.specs.Entries.{needed_in}
use Rattle.json_fields.specs.Kinds.{text_in}
use Rattle.json_fields.specs.Steps.{◌>>=◌, or_fault}
use Rattle.record_read.specs.declared.fault.RecordFault.{RecordFault}
use Rattle.record_read.specs.Entries.{slot_in}
use Rattle.record_read.specs.Fields.{needed}
use Rattle.record_read.specs.LineFaults.{LineFault, BadJson}
use Rattle.record_read.specs.Lines.{json_of}
use Rattle.record_read.specs.Reads.{ReadsRecord}
use Rattle.record_read.specs.Records.{record_in}
use Rattle.follow_records.specs.declared.record.FollowRecord.{FollowRecord}
use Rattle.follow_records.specs.declared.record.FollowRecord.TheVariants.{Plain, Rollback}

-- whether this is the word of a rollback
abbrev pub is_rollback_word : Result (List ℕ) FieldFault → Bool
is_rollback_word (Ok kind) = bytes_eq kind (codes "rollback")
is_rollback_word (Err fault) = false

-- whether a value is a rollback
abbrev pub is_rollback : Data → Bool
is_rollback d = is_rollback_word (needed_in (codes "kind") text_in d)

-- a rollback
abbrev pub rollback_in : Data → Result FollowRecord LineFault
rollback_in d = needed fields.Slot slot_in d >>= λ slot. Ok (Rollback slot)

-- a record of any kind
abbrev pub follow_record_in : Data → Result FollowRecord LineFault
follow_record_in d = if is_rollback d then rollback_in d else (record_in d >>= λ r. Ok (Plain r))

-- the record of a line's bytes
abbrev pub follow_record_of_line : List ℕ → Result FollowRecord LineFault
follow_record_of_line bytes = or_fault BadJson (json_of bytes) >>= follow_record_in

-- what a reader of it answers
abbrev pub ReadsFollow : Result FollowRecord RecordFault → Result FollowRecord LineFault → Type 0
ReadsFollow = ReadsRecord
