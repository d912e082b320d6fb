-- Laws on lines.
use Rattle.std.specs.Prelude.{◌≡◌, ℕ, ◌<◌, ◌≤◌, ◌++◌, ◌⊎◌, false, List, [], ◌∷◌, Option, Some, Result, IfSome, IsSome, IsTrue, length}
use Rattle.std.specs.Io.KnownBytes.{append_known, prepend_known}
use Rattle.byte_lines.specs.Answers.{Advances, HasTaken, line_given}
use Rattle.byte_lines.specs.Pieces.{has_feed, kept, line_feed, lines_of, open_of, pieces_of, whole_of}
use Rattle.byte_lines.specs.Progress.{HasRead}
use Rattle.byte_lines.specs.Reader.{FitsIn, Reader, heeded, lines_left}
use Rattle.byte_lines.specs.Told.{HasGiven, given_between}
use Rattle.byte_lines.specs.declared.lines.Line.{Line}
use Rattle.byte_lines.specs.declared.lines.LineFault.{LineFault}

-- the first piece goes up to the first line feed, and the others are those of the rest
abbrev pub FeedEndsPiece : Type 0
FeedEndsPiece =
    (piece rest : List ℕ) → has_feed piece ≡ false → pieces_of (piece ++ line_feed ∷ rest) ≡ piece ∷ pieces_of rest

-- the bytes are the whole lines and then the bytes after the last line feed
abbrev pub CutsInTwo : Type 0
CutsInTwo = (bytes : List ℕ) → (whole_of bytes ++ open_of bytes ≡ bytes) × (has_feed (open_of bytes) ≡ false)

-- the lines of all bytes are the whole ones of the first bytes, and those of what follows
abbrev pub LinesAddUp : Type 0
LinesAddUp =
    (max : ℕ) (bytes more : List ℕ) →
    lines_of max (bytes ++ more) ≡ lines_of max (whole_of bytes) ++ lines_of max (open_of bytes ++ more)

-- at the end of a stream that was not too long, the lines given are those of all its bytes
abbrev pub EndGivesAll : Type 0
EndGivesAll =
    (bytes : List ℕ) (r : Reader) (left : Option (List ℕ)) (given : List (Option (List ℕ))) →
    (read : HasRead bytes r left given) →
    IsTrue r.ended → r.taken ≤ r.stream_max →
    (given ≡ lines_of r.line_max bytes) × (read.came ≡ bytes) × (read.rest ≡ [])

-- before the end, with an empty buffer, the lines given are the whole lines of the bytes that came
abbrev pub BreakGivesWhole : Type 0
BreakGivesWhole =
    (bytes : List ℕ) (r : Reader) (left : Option (List ℕ)) (given : List (Option (List ℕ))) →
    (read : HasRead bytes r left given) →
    r.ended ≡ false → r.ahead ≡ [] → given ≡ lines_of r.line_max (whole_of (heeded r.stream_max read.came))

-- always, the lines given are the first of the whole lines of the bytes that came,
-- or, at the end, all lines of them
abbrev pub GivesFirst : Type 0
GivesFirst =
    (bytes : List ℕ) (r : Reader) (left : Option (List ℕ)) (given : List (Option (List ℕ))) →
    (read : HasRead bytes r left given) →
    ((later : List (Option (List ℕ)))
    × (lines_of r.line_max (whole_of (heeded r.stream_max read.came)) ≡ given ++ later))
    ⊎ ((read.rest ≡ []) × (lines_of r.line_max (heeded r.stream_max read.came) ≡ given))

-- and the first lines of the stream, if it was not too long so far
abbrev pub GivesFirstOfAll : Type 0
GivesFirstOfAll =
    (bytes : List ℕ) (r : Reader) (left : Option (List ℕ)) (given : List (Option (List ℕ))) →
    (read : HasRead bytes r left given) →
    r.taken ≤ r.stream_max → (later : List (Option (List ℕ))) × (lines_of r.line_max bytes ≡ given ++ later)

-- after a line, only its bytes, those of earlier lines and those of the buffer came
abbrev pub NothingBeyond : Type 0
NothingBeyond =
    (bytes : List ℕ) (r : Reader) (left : Option (List ℕ)) (given : List (Option (List ℕ))) →
    (read : HasRead bytes r left given) →
    r.begun ≡ Some [] → r.taken ≤ r.stream_max →
    (upto : List ℕ) × (read.came ≡ upto ++ r.ahead) × (given ≡ lines_of r.line_max upto)
    × ((open_of upto ≡ []) ⊎ (read.rest ≡ []))

-- a reader whose current line and buffer are empty has all lines of the next bytes to give
abbrev pub FreshGivesAll : Type 0
FreshGivesAll =
    (r : Reader) (bytes : List ℕ) → r.begun ≡ Some [] → r.ahead ≡ [] → lines_left r bytes ≡ lines_of r.line_max bytes

-- two calls in a row take and give what each takes and gives; after the end nothing comes
abbrev pub CallsAddUp : Type 0
CallsAddUp =
    (first mid last : Reader) (left left' left'' : Option (List ℕ)) (given more : List (Option (List ℕ))) →
    HasTaken first mid left left' given → HasTaken mid last left' left'' more →
    mid.stream_max ≡ first.stream_max → (IsTrue mid.ended → (last ≡ mid) × (left'' ≡ left')) →
    HasTaken first last left left'' (given ++ more)

-- two writes in a row take what each takes
abbrev pub TakesAddUp : Type 0
TakesAddUp =
    (first mid last : Option (List ℕ)) (piece more : List ℕ) →
    mid ≡ append_known first piece → last ≡ append_known mid more → last ≡ append_known first (piece ++ more)

-- ---- line feeds

-- one more line feed ends the open line after the whole ones
abbrev pub FeedEndsOneMore : Type 0
FeedEndsOneMore =
    (max : ℕ) (bytes : List ℕ) →
    lines_of max (bytes ++ line_feed ∷ []) ≡ lines_of max (whole_of bytes) ++ kept max (open_of bytes) ∷ []

-- with an empty buffer, a line feed ends the current line, if that is not too long, and no other
abbrev pub FeedEndsBegun : Type 0
FeedEndsBegun = (r : Reader) → FitsIn r.line_max r.begun → r.ahead ≡ [] → lines_left r (line_feed ∷ []) ≡ r.begun ∷ []

-- if a line feed is to come, a line is to come
abbrev pub FeedGivesLine : Type 0
FeedGivesLine = (r : Reader) (bytes : List ℕ) → 0 < length (lines_left r (bytes ++ line_feed ∷ []))

-- ---- what a source reports

-- the bytes that a source gave are those between
abbrev pub GivenIsBetween : Type 0
GivenIsBetween =
    (left left' : Option (List ℕ)) (bytes : List ℕ) →
    IsSome left → left ≡ prepend_known bytes left' → given_between left left' ≡ bytes

-- an unchanged source gives nothing
abbrev pub StayingGivesNone : Type 0
StayingGivesNone = (left : Option (List ℕ)) → given_between left left ≡ []

-- the bytes given in two steps are those of the first and then those of the second
abbrev pub GivenAddsUp : Type 0
GivenAddsUp =
    (first mid last : Option (List ℕ)) →
    first ≡ prepend_known (given_between first mid) mid → mid ≡ prepend_known (given_between mid last) last →
    (given_between first last ≡ given_between first mid ++ given_between mid last)
    × (first ≡ prepend_known (given_between first last) last)

-- ---- what a reader gave of it

-- a reader that took nothing gave nothing
abbrev pub BeginsWithNone : Type 0
BeginsWithNone =
    (r : Reader) (left : Option (List ℕ)) →
    r.begun ≡ Some [] → r.ahead ≡ [] → r.taken ≡ 0 → r.ended ≡ false → HasGiven r left left []

-- one more call adds its line to the lines given
abbrev pub CallGivesMore : Type 0
CallGivesMore =
    (old new : Reader) (left left' : Option (List ℕ)) (result : Result Line LineFault) →
    Advances old new result → HasTaken old new left left' (line_given result new) →
    (IsTrue old.ended → (new ≡ old) × (left' ≡ left)) →
    (first : Option (List ℕ)) (given : List (Option (List ℕ))) →
    HasGiven old first left given → HasGiven new first left' (given ++ line_given result new)

-- at the end of a source that was not too long, the lines given are those of all its bytes
abbrev pub GivenAll : Type 0
GivenAll =
    (r : Reader) (first left : Option (List ℕ)) (given : List (Option (List ℕ))) →
    HasGiven r first left given → IsTrue r.ended → r.ahead ≡ [] → r.begun ≡ Some [] → r.taken ≤ r.stream_max →
    IfSome first (λ bytes. given ≡ lines_of r.line_max bytes)

-- before the end, with an empty buffer, they are the whole lines of the bytes that came
abbrev pub GivenWhole : Type 0
GivenWhole =
    (r : Reader) (first left : Option (List ℕ)) (given : List (Option (List ℕ))) →
    HasGiven r first left given → IsSome first → r.ended ≡ false → r.ahead ≡ [] →
    given ≡ lines_of r.line_max (whole_of (heeded r.stream_max (given_between first left)))

-- before the end, they are the first whole lines of all that came, whatever follows
abbrev pub GivenFirst : Type 0
GivenFirst =
    (r : Reader) (first left : Option (List ℕ)) (given : List (Option (List ℕ))) (more : List ℕ) →
    HasGiven r first left given → IsSome first → r.ended ≡ false →
    (later : List (Option (List ℕ)))
    × (given ++ later ≡ lines_of r.line_max (whole_of (heeded r.stream_max (given_between first left) ++ more)))
