-- What a source gave and a reader gave of it, in terms of what the source reports.
use Rattle.std.specs.Prelude.{◌≡◌, ℕ, ◌-◌, ◌++◌, List, [], Option, Some, None, IsSome, IsTrue, length, take}
use Rattle.std.specs.Io.KnownBytes.{IsAtEnd, prepend_known}
use Rattle.byte_lines.specs.Pieces.{lines_of}
use Rattle.byte_lines.specs.Reader.{Reader, heeded, lines_left}

-- the bytes that a source gave between two moments, from what it had left at each;
-- no bytes if it reports nothing
abbrev pub given_between : Option (List ℕ) → Option (List ℕ) → List ℕ
given_between (Some old) (Some new) = take (length old - length new) old
given_between (Some old) None = []
given_between None new = []

-- a reader gave these lines of a source that had `first` left at its start, and has `left` now
pub record HasGiven (r : Reader) (first left : Option (List ℕ)) (given : List (Option (List ℕ))) : Type 0 where
  pub gave : first ≡ prepend_known (given_between first left) left
  pub taken : IsSome first → r.taken ≡ length (given_between first left)
  -- with the lines still to come, they are the lines of the bytes that came, up to the limit,
  -- and of the bytes still to come
  pub lines : IsSome first → (rest : List ℕ) → (IsTrue r.ended → rest ≡ []) →
      given ++ lines_left r rest ≡ lines_of r.line_max (heeded r.stream_max (given_between first left) ++ rest)
  -- at the end nothing is left
  pub drained : IsTrue r.ended → IsAtEnd left
