-- The values of a source over a reader of std and of a sink over a writer.
use Rattle.std.specs.Prelude.{ℕ, ◌-◌, List, Option, Some, None, IsSome, length, option_map, take}

-- a source over a reader: the bytes left, if the reader reports them, and how many reads failed
pub record ReaderTells : Type 0 where
  pub left : Option (List ℕ)
  pub faults : ℕ

-- a sink over a writer: the bytes taken, if the writer reports them, and how many writes failed
pub record WriterTells : Type 0 where
  pub taken : Option (List ℕ)
  pub faults : ℕ

-- the bytes that a reader or a writer reports now, if it reported them at first
abbrev pub told_since : Option (List ℕ) → Option (List ℕ) → Option (List ℕ)
told_since None now = None
told_since (Some first) now = now

-- a reader or a writer that reported its bytes at first reports them now
abbrev pub GoesOnTelling : Option (List ℕ) → Option (List ℕ) → Type 0
GoesOnTelling first now = IsSome first → IsSome now

-- the bytes of a writer, except the last ones, whose flush failed
abbrev pub flushed_of : Option (List ℕ) → ℕ → Option (List ℕ)
flushed_of contents unflushed = option_map (λ bytes. take (length bytes - unflushed) bytes) contents
