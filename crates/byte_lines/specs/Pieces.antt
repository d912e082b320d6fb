-- The lines of a stream of bytes. A line ends at a line feed, or at the end if it is not empty.
use Rattle.std.specs.Prelude.{ℕ, Bool, List, [], ◌∷◌, Option, Some, None, length, map, nat_le, ◌==◌, if◌then◌else◌}
use Rattle.std.specs.List.{list_any}

-- the byte that ends a line
abbrev pub line_feed : ℕ
line_feed = 10

-- whether the bytes have a line feed
abbrev pub has_feed : List ℕ → Bool
has_feed bytes = list_any (λ b. b == line_feed) bytes

-- a byte put before the first piece; without pieces it is the first piece
abbrev pub with_first : ℕ → List (List ℕ) → List (List ℕ)
with_first b [] = (b ∷ []) ∷ []
with_first b (p ∷ ps) = (b ∷ p) ∷ ps

-- the bytes up to the first line feed, then the pieces of the rest;
-- the bytes after the last line feed are a piece if there are any
abbrev pub pieces_of : List ℕ → List (List ℕ)
pieces_of [] = []
pieces_of (b ∷ bs) = if b == line_feed then [] ∷ pieces_of bs else with_first b (pieces_of bs)

-- the bytes up to and with the last line feed; without one, no bytes
abbrev pub whole_of : List ℕ → List ℕ
whole_of [] = []
whole_of (b ∷ bs) = if has_feed (b ∷ bs) then b ∷ whole_of bs else []

-- the bytes after the last line feed; without one, all bytes
abbrev pub open_of : List ℕ → List ℕ
open_of [] = []
open_of (b ∷ bs) = if has_feed (b ∷ bs) then open_of bs else b ∷ bs

-- the piece, if it is not longer than max
abbrev pub kept : ℕ → List ℕ → Option (List ℕ)
kept max piece = if nat_le (length piece) max then Some piece else None

-- the lines of the bytes; none instead of each that is longer than max
abbrev pub lines_of : ℕ → List ℕ → List (Option (List ℕ))
lines_of max bytes = map (kept max) (pieces_of bytes)
