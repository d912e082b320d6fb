-- The lines of a source up to the first that is `end`. (Own)
use Rattle.std.specs.Prelude.{◌≡◌, ◌⊎◌, ℕ, ◌-◌, ◌^◌, ◌<◌, ◌≤◌, ◌++◌, Bool, true, false, bytes_eq, codes, if◌then◌else◌, List, [], ◌∷◌, Option, Some, None, Result, Ok, Err, IsTrue, length, option_map}
use Rattle.std.specs.Option.{ForSome}
use Rattle.byte_lines.specs.Faults.{CountsFaults}
use Rattle.byte_lines.specs.Progress.{HasRead}
use Rattle.byte_lines.specs.Reader.{Reader, part_max}
use Rattle.byte_lines.specs.declared.lines.Line.{Line}
use Rattle.byte_lines.specs.declared.lines.Line.TheVariants as lines
use Rattle.byte_lines.specs.declared.lines.LineFault.{LineFault}
use Rattle.byte_lines.specs.declared.lines.LineFault.TheVariants as faults
use Rattle.ended_source.specs.declared.place.Place.{Place}
use Rattle.ended_source.specs.declared.place.Place.TheVariants.{Open, Whole, TooLong, Through, Ended, Failed}
use Rattle.ended_lines.specs.Ended.{has_end, is_end_line, up_to_end}
use Rattle.ended_source.specs.Faults.{fault_at}
use Rattle.line_giver.specs.Giving.{Giving}
use Rattle.line_giver.specs.Sourced.{lines_unless}

-- ---- places

-- the place where a line is seen, or the end
abbrev pub place_of : Line → Place
place_of lines.Whole = Whole
place_of lines.TooLong = TooLong
place_of lines.End = Ended

-- the place after a whole line was passed
abbrev pub place_after : List ℕ → Place
place_after line = if bytes_eq line (codes "end") then Through else Open

-- the line that is seen, by the text of the last whole one
abbrev pub seen_at : Place → List ℕ → List (Option (List ℕ))
seen_at Whole text = Some text ∷ []
seen_at TooLong text = None ∷ []
seen_at _ text = []

-- the lines that follow, of those that the reader has still to give
abbrev pub after_at : Place → List ℕ → List (Option (List ℕ)) → List (Option (List ℕ))
after_at Whole text more = if is_end_line (Some text) then [] else up_to_end more
after_at Through text more = []
after_at Ended text more = []
after_at _ text more = up_to_end more

-- a reader and its source, each by the name of its loan, the place, the bytes that the source has
-- left, if it tells them, and how many of its reads failed
pub record Standing : Type 0 where
  pub reader : ℕ
  pub source : ℕ
  pub lines : Reader
  pub place : Place
  pub left : Option (List ℕ)
  pub failed : ℕ

-- what is given
abbrev pub giving_at : Standing → Giving
giving_at m = record {
  text = m.lines.text;
  seen = seen_at m.place m.lines.text;
  after = option_map (λ rest. after_at m.place m.lines.text (lines_unless m.lines.ended m.lines rest)) m.left;
}

-- more bytes came than the stream may have
abbrev pub IsOverAt : Place → Type 0
IsOverAt place = place ≡ Failed faults.TooMuch

-- the count of failed reads, at its greatest value once one failed: that fault is returned again
abbrev pub faults_at : Place → ℕ
faults_at (Failed faults.ReadFault) = 2 ^ 64 - 1
faults_at _ = 0

-- the answer of a call for the next line is that of the place
abbrev pub Tells : Place → Result Line LineFault → Type 0
Tells place (Ok lines.Whole) = place ≡ Whole
Tells place (Ok lines.TooLong) = place ≡ TooLong
Tells place (Ok lines.End) = (place ≡ Through) ⊎ (place ≡ Ended)
Tells place (Err fault) = place ≡ Failed fault

-- how the passing of all lines ended
abbrev pub EndsAt : Place → Result (Unit {0}) LineFault → Type 0
EndsAt place (Ok done) = (place ≡ Through) ⊎ (place ≡ Ended)
EndsAt place (Err fault) = fault ≡ fault_at place

-- ---- what was passed

-- a text in a stream that is read through two loans: their names, the bytes of the source, if it
-- tells them, and, before the text: the failed reads, the lines, whether the reader ended, limits
pub record EndedText : Type 0 where
  pub reader : ℕ
  pub source : ℕ
  pub bytes : Option (List ℕ)
  pub failed : ℕ
  pub first : List (Option (List ℕ))
  pub ended : Bool
  pub line_max : ℕ
  pub stream_max : ℕ

-- the last line is `end`, and no other
pub record IsClosed (lines : List (Option (List ℕ))) : Type 0 where
  pub front : up_to_end lines ≡ lines
  pub has : has_end lines ≡ true

-- the lines of a text that were passed at a place: none is `end`, or the last one
abbrev pub ArePassed : Place → List (Option (List ℕ)) → Type 0
ArePassed Through passed = IsClosed passed
ArePassed _ passed = has_end passed ≡ false

-- after a line or the end the current line is empty, and the buffer has less than one part
pub record IsCalm (r : Reader) : Type 0 where
  pub begun : r.begun ≡ Some []
  pub ahead : length r.ahead < part_max
  pub within : r.taken ≤ r.stream_max

-- how the reader is at a place
abbrev pub StandsAt : Place → Reader → Type 0
StandsAt Open r = IsCalm r
StandsAt Whole r = IsCalm r
StandsAt TooLong r = IsCalm r
StandsAt Through r = IsCalm r
StandsAt Ended r = IsCalm r × IsTrue r.ended
StandsAt (Failed faults.ReadFault) r = (r.ahead ≡ []) × (r.ended ≡ false) × (r.taken ≤ r.stream_max)
StandsAt (Failed faults.TooMuch) r = (r.ahead ≡ []) × (r.ended ≡ false) × (r.stream_max < r.taken)
StandsAt (Failed faults.NoMemory) r = r.taken ≤ r.stream_max

-- of this text these lines of the stream were passed
pub record IsAt (s : EndedText) (m : Standing) (before : List (Option (List ℕ))) : Type 0 where
  pub same_reader : m.reader ≡ s.reader
  pub same_source : m.source ≡ s.source
  pub line_max : m.lines.line_max ≡ s.line_max
  pub stream_max : m.lines.stream_max ≡ s.stream_max
  -- with the line that is seen, the reader gave them
  pub read : ForSome s.bytes (λ bytes. HasRead bytes m.lines m.left (before ++ seen_at m.place m.lines.text))
  pub passed : List (Option (List ℕ))
  pub are : before ≡ s.first ++ passed
  pub text : ArePassed m.place passed
  -- a reader that ended before the text has still ended
  pub again : IsTrue s.ended → IsTrue m.lines.ended
  pub stands : StandsAt m.place m.lines
  pub counts : CountsFaults (m.place ≡ Failed faults.ReadFault) s.failed m.failed

-- these lines were passed
abbrev pub passed_at : Standing → EndedText → List (Option (List ℕ)) → Type 0
passed_at m s before = IsAt s m before
