-- What is noted beside the records of a stream changes none of them; src/laws.rt has the law.
use Rattle.std.specs.Prelude.{◌≡◌, ℕ, List, map}
use Rattle.record_stream.specs.Records.{records_of}
use Rattle.tx_records.specs.declared.record.Reading.{Reading}
use Rattle.record_notes.specs.Lines.{Noted, notes_of}

-- what was read of each line, without what more there is to say
abbrev pub readings_of : List (ℕ × Noted) → List (ℕ × Reading)
readings_of rs = map (λ (r : ℕ × Noted). (r.0, r.1.reading)) rs

-- the readings are the records of the stream
abbrev pub NotesAreOfRecords : Type 0
NotesAreOfRecords = (bytes : List ℕ) → readings_of (notes_of bytes) ≡ records_of bytes
