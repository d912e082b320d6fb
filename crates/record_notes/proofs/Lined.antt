-- What a line says, by its JSON value.
use Rattle.std.proofs.Common.{◌≡◌, true, false, Bool, ℕ, List, Option, Some, None, Result, Ok, Err, IfOk, ap, ap₂, option_map, refl, sym, ◌∙◌, if◌then◌else◌}
use Rattle.serde_json.specs.Data.{Data}
use Rattle.tx_records.specs.RecordLimits.{is_within_limits}
use Rattle.tx_records.specs.declared.record.Reading.{Reading}
use Rattle.tx_records.specs.declared.record.Record.{Record}
use Rattle.json_fields.specs.Steps.{◌>>=◌, or_fault}
use Rattle.record_read.specs.LineFaults.{LineFault, BadJson, UnknownKind, BadField}
use Rattle.record_read.specs.Lines.{json_of, record_of_line}
use Rattle.record_read.specs.Records.{record_in}
use Rattle.record_stream.specs.Records.{is_blank, is_within, reading_by}
use Rattle.record_notes.specs.Lines.{Noted, is_malformed, noted_of_line, said_of_value}
use Rattle.record_notes.specs.Notes.{Said, said_of}

-- of a value
pub value_noted : (bytes : List ℕ) (d : Data) (r : Reading) (said : List Said) → is_blank bytes ≡ false → Some d ≡ json_of bytes → r ≡ reading_by (record_in d) → said ≡ said_of (is_malformed r) d
    → Some (record { reading = r; said = said }) ≡ noted_of_line (Some bytes)
value_noted bytes d r said written json reads says =
    let same : r ≡ reading_by (record_of_line bytes) = reads ∙ ap (λ (o : Option Data). reading_by (or_fault BadJson o >>= record_in)) json in
    let all : said ≡ said_of_value (reading_by (record_of_line bytes)) bytes (json_of bytes) = says ∙ ap₂ (λ (x : Reading) (o : Option Data). said_of_value x bytes o) same json in
    ap₂ (λ (x : Reading) (s : List Said). Some (record { reading = x; said = s })) same all
    ∙ sym (ap (λ (b : Bool). option_map (λ (x : Reading). record { reading = x; said = said_of_value x bytes (json_of bytes) }) (if b then None else Some (reading_by (record_of_line bytes)))) written)

-- a reading is within the limits where its record is
within_by : (o : Result Record LineFault) → IfOk o (λ (r : Record). is_within_limits r ≡ true) → is_within (reading_by o) ≡ true
within_by (Ok r) h = h
within_by (Err BadJson) h = refl
within_by (Err UnknownKind) h = refl
within_by (Err (BadField name place)) h = refl

pub value_within : (bytes : List ℕ) (d : Data) (r : Reading) → Some d ≡ json_of bytes → r ≡ reading_by (record_in d) → ((line : List ℕ) → IfOk (record_of_line line) (λ (x : Record). is_within_limits x ≡ true))
    → is_within r ≡ true
value_within bytes d r json reads law =
    ap is_within (reads ∙ ap (λ (o : Option Data). reading_by (or_fault BadJson o >>= record_in)) json) ∙ within_by (record_of_line bytes) (law bytes)
