-- The two buffers of a reader of lines.
use Rattle.std.specs.Prelude.{◌≡◌, ℕ, List, Option, Some, None}
use Rattle.byte_lines.specs.declared.lines.Line.{Line}
use Rattle.byte_lines.specs.declared.lines.Line.TheVariants.{Whole, TooLong}

-- the current line, none if it is too long already, and how many bytes are held for it
pub record LineBegun : Type 0 where
  pub line : Option (List ℕ)
  pub held : ℕ

-- the bytes read and not examined yet, and how many bytes are held for them
pub record BytesAhead : Type 0 where
  pub bytes : List ℕ
  pub held : ℕ

-- the end of a line: one that is too long leaves the text, and any other becomes it
abbrev pub Finishes : Option (List ℕ) → List ℕ → List ℕ → Line → Type 0
Finishes None old new line = (line ≡ TooLong) × (new ≡ old)
Finishes (Some begun) old new line = (line ≡ Whole) × (new ≡ begun)
