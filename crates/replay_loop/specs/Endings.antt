-- How a run of `replay` may end, and what it has written then. (Own)
use Rattle.std.specs.Prelude.{◌≡◌, ◌≢◌, ◌⊎◌, ℕ, ◌<◌, ◌↔◌, List, [], ◌∷◌, ◌++◌, Option, Some, None, length}
use Rattle.std.specs.Io.KnownBytes.{append_known}
use Rattle.byte_lines.specs.Pieces.{whole_of}
use Rattle.byte_lines.specs.Reader.{heeded}
use Rattle.replay_loop.specs.declared.status.GenesisCause.{GenesisCause}
use Rattle.replay_loop.specs.declared.status.GenesisCause.TheVariants as causes
use Rattle.replay_loop.specs.declared.status.Status.{Status}
use Rattle.replay_loop.specs.declared.status.Status.TheVariants as statuses
use Rattle.tx_records.specs.declared.limits.TheConstants.{STREAM_LIMIT}
use Rattle.record_stream.specs.Records.{records_of}
use Rattle.record_stream.specs.Come.{HasCome, ReadTo}
use Rattle.replay_loop.specs.Runs.{start_fault, text_of_run, text_or_nothing, text_so_far}
use Rattle.text_model.specs.Words.{Text}
use Rattle.tx_records.specs.declared.record.Reading.{Reading}

-- a fault, if there is one, is that nothing was there yet
abbrev pub IsMissingOnly : Option GenesisCause → Type 0
IsMissingOnly None = Unit {0}
IsMissingOnly (Some causes.Missing) = Unit {0}
IsMissingOnly (Some cause) = ⊥

-- a text begins with another one
abbrev pub IsFront : Text → Text → Type 0
IsFront front text = (rest : Text) × (text ≡ front ++ rest)

-- a prefix of the text of the whole lines that came or, if no byte is left, of all that came
abbrev pub IsPartOfText : List ℕ → List ℕ → Text → Type 0
IsPartOfText came rest written =
    IsFront written (text_or_nothing (whole_of came)) ⊎ ((rest ≡ []) × IsFront written (text_or_nothing came))

-- what came decides that the first record is no genesis to begin with, for this cause: a first line
-- that is whole or, if no byte is left, all that came
abbrev pub IsDecided : GenesisCause → List ℕ → List ℕ → Type 0
IsDecided cause came rest =
    ((cause ≢ causes.Missing) × (start_fault (records_of (whole_of came)) ≡ Some cause))
    ⊎ ((rest ≡ []) × (start_fault (records_of came) ≡ Some cause))

-- no byte is left, and the text of the whole run was written
pub record Finished (bytes rest : List ℕ) (written : Text) : Type 0 where
  pub read : rest ≡ []
  pub text : text_of_run bytes ≡ Some written

-- the first record is no genesis to begin with, as what came decides; nothing was written
pub record NotBegun (cause : GenesisCause) (bytes came rest : List ℕ) (written : Text) : Type 0 where
  pub fault : start_fault (records_of bytes) ≡ Some cause
  pub decided : IsDecided cause came rest
  pub nothing : written ≡ []

-- the text of the whole lines that came was written; there is no bad first record in them
pub record BrokenOff (came : List ℕ) (written : Text) : Type 0 where
  pub text : written ≡ text_or_nothing (whole_of came)
  pub start : IsMissingOnly (start_fault (records_of (whole_of came)))

-- a prefix of the text was written, that of a last record in part; nothing came beyond its line;
-- the first record is a genesis to begin with
pub record CutShort (bytes came rest : List ℕ) (written : Text) : Type 0 where
  pub part : IsPartOfText came rest written
  pub answered : List (ℕ × Reading)
  pub last : ℕ × Reading
  pub read : ReadTo came rest (answered ++ last ∷ [])
  pub after : IsFront (text_so_far answered) written
  pub before : IsFront written (text_so_far (answered ++ last ∷ []))
  pub start : start_fault (records_of bytes) ≡ None

-- by status: of the source's `bytes`, `came` came and `rest` is left; the run wrote `written`
abbrev pub Ends : Status → List ℕ → List ℕ → List ℕ → Text → Type 0
Ends statuses.Done bytes came rest written = Finished bytes rest written
Ends (statuses.BadGenesis cause) bytes came rest written = NotBegun cause bytes came rest written
Ends statuses.ReadFault bytes came rest written = BrokenOff came written
-- the lines are those within the limit of the stream
Ends statuses.TooMuch bytes came rest written = BrokenOff (heeded STREAM_LIMIT came) written
Ends statuses.WriteFault bytes came rest written = CutShort bytes came rest written
Ends statuses.NoMemory bytes came rest written = IsPartOfText came rest written
-- `replay` never ends so
Ends statuses.Usage bytes came rest written = ⊥
Ends statuses.BadCheckpoint bytes came rest written = ⊥

-- how a run of `replay` ended, if its source gave its bytes: the sink took what was written
pub record IsReplayed (status : Status) (bytes : List ℕ) (left had has : Option (List ℕ)) : Type 0 where
  pub come : HasCome bytes left
  pub written : Text
  pub wrote : has ≡ append_known had written
  pub ending : Ends status bytes come.came come.rest written
  -- the stream went on past its limit if and only if the status says so
  pub too_much : (status ≡ statuses.TooMuch) ↔ (STREAM_LIMIT < length come.came)
