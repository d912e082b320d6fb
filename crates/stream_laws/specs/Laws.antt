-- The laws on checkpoints and certificates over streams of bytes. (Own)
use Rattle.std.specs.Prelude.{◌≡◌, ℕ, ◌≤◌, Bool, List, Option, Some, length, true}
use Rattle.tx_records.specs.declared.limits.TheConstants.{STREAM_LIMIT}
use Rattle.tx_records.specs.Limits.{is_u64}
use Rattle.run_model.specs.World.{World}
use Rattle.text_forms.specs.Lines.{joined_lines}
use Rattle.text_forms.specs.Worlds.{world_of_readings}
use Rattle.checkpoint_model.specs.Resumable.{IsResumable, has_form}
use Rattle.certificate_model.specs.Certificate.{certificate_lines}
use Rattle.certificate_model.specs.Checked.{Answers}
use Rattle.record_stream.specs.Records.{records_of}

-- the World that a stream leaves, if it begins with a genesis that breaks no genesis rule
abbrev pub world_of_bytes : List ℕ → Option World
world_of_bytes bytes = world_of_readings (records_of bytes)

-- every World that bytes leave has the form of the formats
abbrev pub BytesGiveForm : Type 0
BytesGiveForm = (bytes : List ℕ) (w : World) → world_of_bytes bytes ≡ Some w → has_form w ≡ true

-- a stream within its limit counts no more entries than 64 bits hold
abbrev pub BytesCountFits : Type 0
BytesCountFits = (bytes : List ℕ) (w : World) → length bytes ≤ STREAM_LIMIT → world_of_bytes bytes ≡ Some w → is_u64 w.counted ≡ true

-- the World that a stream within its limit leaves can be resumed
abbrev pub BytesAreResumable : Type 0
BytesAreResumable = (bytes : List ℕ) (w : World) → length bytes ≤ STREAM_LIMIT → world_of_bytes bytes ≡ Some w → IsResumable w

-- a checker answers yes to the certificate of what is frozen of a World that bytes leave
abbrev pub BytesAreCertified : Type 0
BytesAreCertified = (bytes : List ℕ) (w : World) → world_of_bytes bytes ≡ Some w → (answer : Bool) →
    Answers (joined_lines (certificate_lines w.frozen)) answer → answer ≡ true
