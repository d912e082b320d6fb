-- What the words of a checkpoint's first line and of the line of where the chain is read as. (Own)
use Rattle.std.specs.Prelude.{ℕ, ◌^◌, Bool, ◌&&◌, if◌then◌else◌, List, [], ◌∷◌, Option, Some, None, codes, decimal, nat_lt}
use Rattle.gov_ids.specs.Spelling.{◌>>=◌}
use Rattle.text_forms.specs.Actions.{is_version}
use Rattle.text_model.specs.StateLines.{words_of_now}
use Rattle.text_model.specs.Words.{Text}
use Rattle.tx_records.specs.Limits.{is_u64}
use Rattle.line_kinds.specs.Cuts.{word_at}
use Rattle.line_kinds.specs.Numbers.{number_of}
use Rattle.book_kinds.specs.Pools.{halves}

-- a number of 32 bits
abbrev pub u32_of : Text → Option ℕ
u32_of t = do
  n ← number_of t
  if nat_lt n (2 ^ 32) then Some n else None

-- major, then minor
abbrev pub version_of : Text → Option (ℕ × ℕ)
version_of t = do
  parts ← halves 46 t
  major ← u32_of parts.0
  minor ← u32_of parts.1
  Some (major, minor)

-- slot, epoch, version and dormant count
abbrev pub now_in : List Text → Option (ℕ × ℕ × (ℕ × ℕ) × ℕ)
now_in ws = do
  slot ← number_of (word_at 2 ws)
  epoch ← number_of (word_at 4 ws)
  version ← version_of (word_at 6 ws)
  dormant ← number_of (word_at 8 ws)
  Some (slot, epoch, version, dormant)

-- its words
abbrev pub now_line : ℕ × ℕ × (ℕ × ℕ) × ℕ → List Text
now_line n = words_of_now n.0 n.1 n.2 n.3

-- its form
abbrev pub is_now_line : ℕ × ℕ × (ℕ × ℕ) × ℕ → Bool
is_now_line n = is_u64 n.0 && is_u64 n.1 && is_version n.2 && is_u64 n.3

-- the first line of a checkpoint: line, network, length of an epoch, count
abbrev pub head_in : List Text → Option (ℕ × ℕ × ℕ × ℕ)
head_in ws = do
  line ← number_of (word_at 3 ws)
  network ← number_of (word_at 5 ws)
  epoch_length ← number_of (word_at 7 ws)
  counted ← number_of (word_at 9 ws)
  Some (line, network, epoch_length, counted)

-- its words
abbrev pub head_line : ℕ × ℕ × ℕ × ℕ → List Text
head_line h =
    codes "checkpoint" ∷ codes "1" ∷ codes "line" ∷ decimal h.0 ∷ codes "network" ∷ decimal h.1 ∷
    codes "length" ∷ decimal h.2 ∷ codes "counted" ∷ decimal h.3 ∷
    []

-- its form: whether the numbers are those of a state is not asked
abbrev pub is_head_line : ℕ × ℕ × ℕ × ℕ → Bool
is_head_line h = is_u64 h.0 && is_u64 h.1 && is_u64 h.2 && is_u64 h.3
