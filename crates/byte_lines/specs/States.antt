-- The states of a reader of lines.
use Rattle.std.specs.Prelude.{◌≡◌, ℕ, ◌+◌, ◌≤◌, ◌<◌, Bool, true, false, List, [], Option, Some, None, IsTrue, length}
use Rattle.byte_lines.specs.Buffers.{BytesAhead, LineBegun}
use Rattle.byte_lines.specs.Reader.{FitsIn, part_max}
use Rattle.byte_lines.specs.declared.lines.State.{State}
use Rattle.byte_lines.specs.declared.lines.State.TheVariants.{Reading, Ended, TooMuch, NoMemory}

-- whether the source gave its end
abbrev pub is_ended : State → Bool
is_ended Reading = false
is_ended Ended = true
is_ended TooMuch = false
is_ended NoMemory = false

-- whether memory ran out
abbrev pub is_failed : State → Bool
is_failed Reading = false
is_failed Ended = false
is_failed TooMuch = false
is_failed NoMemory = true

-- how many bytes beyond the limit were read
abbrev pub bytes_over : State → ℕ
bytes_over Reading = 0
bytes_over Ended = 0
bytes_over TooMuch = 1
bytes_over NoMemory = 0

-- the most lines that the current line can become, by its bytes
abbrev pub weight : Option (List ℕ) → ℕ
weight None = 1
weight (Some line) = length line

-- the invariant of the fields of a reader
pub record AreSoundFields (state : State) (line_max stream_max taken number : ℕ) (begun : LineBegun) (ahead : BytesAhead) (text : List ℕ) : Type 0 where
  -- each line took a byte
  pub few : number + length ahead.bytes + weight begun.line ≤ taken
  pub within : taken ≤ stream_max
  pub text_fits : length text ≤ line_max
  pub holds : begun.held ≤ line_max
  pub begun_fits : FitsIn line_max begun.line
  pub holds_ahead : ahead.held ≤ part_max
  pub part : length ahead.bytes ≤ ahead.held
  pub ended : IsTrue (is_ended state) → (ahead.bytes ≡ []) × (begun.line ≡ Some [])
  pub over : 0 < bytes_over state → (taken ≡ stream_max) × (ahead.bytes ≡ [])
