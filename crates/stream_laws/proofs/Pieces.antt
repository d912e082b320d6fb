-- A stream has at most half as many lines that say something as it has bytes, and one more.
use Rattle.std.proofs.Common.{ℕ, ◌+◌, ◌*◌, ◌≤◌, ◌==◌, List, [], ◌∷◌, Bool, true, false, cond, length, arith}
use Rattle.byte_lines.specs.Pieces.{line_feed, pieces_of, with_first}

-- how many pieces are not empty
abbrev pub filled : List (List ℕ) → ℕ
filled [] = 0
filled ([] ∷ ps) = filled ps
filled ((b ∷ p) ∷ ps) = 1 + filled ps

-- what the pieces take of the bytes at least, and one
abbrev taken : List (List ℕ) → ℕ
taken [] = 1
taken ([] ∷ ps) = 1 + 2 * filled ps
taken ((b ∷ p) ∷ ps) = 2 + 2 * filled ps

filled_taken : (ps : List (List ℕ)) → 2 * filled ps ≤ taken ps
filled_taken [] = omega arith
filled_taken ([] ∷ ps) = omega arith
filled_taken ((b ∷ p) ∷ ps) = omega arith

first_taken : (b : ℕ) (ps : List (List ℕ)) → taken (with_first b ps) ≤ taken ps + 1
first_taken b [] = omega arith
first_taken b ([] ∷ ps) = omega arith
first_taken b ((x ∷ p) ∷ ps) = omega arith

taken_by : (c : Bool) (b : ℕ) (ps : List (List ℕ)) → taken (cond c ([] ∷ ps) (with_first b ps)) ≤ taken ps + 1
taken_by true b ps = omega (arith, filled_taken ps)
taken_by false b ps = first_taken b ps

taken_within : (bytes : List ℕ) → taken (pieces_of bytes) ≤ length bytes + 1
taken_within [] = omega arith
taken_within (b ∷ bs) = omega (arith, taken_by (b == line_feed) b (pieces_of bs), taken_within bs)

pub filled_within : (bytes : List ℕ) → 2 * filled (pieces_of bytes) ≤ length bytes + 1
filled_within bytes = omega (arith, filled_taken (pieces_of bytes), taken_within bytes)
