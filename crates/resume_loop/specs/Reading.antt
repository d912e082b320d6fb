-- What was read of a stream up to its first `end`. (Own)
use Rattle.std.specs.Prelude.{◌≡◌, ◌⊎◌, ℕ, ◌<◌, ◌≤◌, true, false, List, [], Option, Some, None, IsSome, IsTrue, Result, Ok, Err}
use Rattle.byte_lines.specs.Progress.{HasRead}
use Rattle.byte_lines.specs.Reader.{Reader}
use Rattle.byte_lines.specs.declared.lines.LineFault.{LineFault}
use Rattle.byte_lines.specs.declared.lines.LineFault.TheVariants.{ReadFault, TooMuch, NoMemory}
use Rattle.ended_lines.specs.Ended.{has_end, up_to_end}
use Rattle.ended_source.specs.Ended.{EndedText, IsAt, Standing}
use Rattle.ended_source.specs.Faults.{fault_at}
use Rattle.ended_source.specs.declared.place.Place.{Place}
use Rattle.ended_source.specs.declared.place.Place.TheVariants.{Ended, Through}
use Rattle.run_model.specs.World.{World}
use Rattle.text_model.specs.Words.{Text}
use Rattle.tx_records.specs.declared.limits.TheConstants.{LINE_LIMIT, STREAM_LIMIT}
use Rattle.resume_loop.specs.Heads.{IsCheckpointOf, IsNoCheckpointOf, IsOfNoOther}

-- a reader of records before its first line
abbrev pub fresh_reader : Reader
fresh_reader = record { line_max = LINE_LIMIT; stream_max = STREAM_LIMIT; taken = 0; begun = Some []; ahead = []; held = 0; text = []; number = 0; ended = false; failed = false }

-- the text that begins a stream, which is read through two loans, each by its name
abbrev pub first_text : ℕ → ℕ → Option (List ℕ) → ℕ → EndedText
first_text reader source bytes failed = record { reader = reader; source = source; bytes = bytes; failed = failed; first = []; ended = false; line_max = LINE_LIMIT; stream_max = STREAM_LIMIT }

-- what was read of the lines of a text, at the place where its reading ended
abbrev pub IsReadAt : {State : Type 0} → (State → World) → Option (List ℕ) → List (Option Text) → Place → Result (Option (State × ℕ)) LineFault → Type 0
IsReadAt world bytes head place (Ok (Some (s, line))) = (place ≡ Through) × IsCheckpointOf head (world s) line × (IsSome bytes → IsOfNoOther head (world s) line)
IsReadAt world bytes head place (Ok None) = ((place ≡ Through) ⊎ (place ≡ Ended)) × (IsSome bytes → IsNoCheckpointOf head)
IsReadAt world bytes head place (Err fault) = fault ≡ fault_at place

-- these lines of the text were passed, and this was read of them
pub record ReadsText {State : Type 0} (world : State → World) (s : EndedText) (now : Standing) (read : Result (Option (State × ℕ)) LineFault) : Type 0 where
  pub head : List (Option Text)
  pub at : IsAt s now head
  pub is : IsReadAt world s.bytes head now.place read

-- what each answer says of the lines that were read before it, and of the reader
abbrev pub IsHeadOf : {State : Type 0} → (State → World) → List (Option Text) → Reader → Result (Option (State × ℕ)) LineFault → Type 0
IsHeadOf world head r (Ok (Some (s, line))) = (up_to_end head ≡ head) × (has_end head ≡ true) × IsCheckpointOf head (world s) line × IsOfNoOther head (world s) line × (r.taken ≤ r.stream_max)
IsHeadOf world head r (Ok None) = (up_to_end head ≡ head) × IsNoCheckpointOf head × (has_end head ≡ false → IsTrue r.ended) × (r.taken ≤ r.stream_max)
IsHeadOf world head r (Err ReadFault) = (has_end head ≡ false) × (r.ahead ≡ []) × (r.ended ≡ false) × (r.taken ≤ r.stream_max)
IsHeadOf world head r (Err TooMuch) = (has_end head ≡ false) × (r.ahead ≡ []) × (r.ended ≡ false) × (r.stream_max < r.taken)
IsHeadOf world head r (Err NoMemory) = r.taken ≤ r.stream_max

-- of a stream the reader gave these lines, and this was read of them
pub record ReadsHead {State : Type 0} (world : State → World) (bytes : List ℕ) (r : Reader) (left : Option (List ℕ)) (read : Result (Option (State × ℕ)) LineFault) : Type 0 where
  pub head : List (Option Text)
  pub given : HasRead bytes r left head
  pub line_max : r.line_max ≡ LINE_LIMIT
  pub stream_max : r.stream_max ≡ STREAM_LIMIT
  pub is : IsHeadOf world head r read
