-- What was read of all lines of a giver, and of the lines up to the first `end`. (Own)
use Rattle.std.specs.Prelude.{◌≡◌, ℕ, ◌^◌, ◌<◌, ◌≤◌, ◌++◌, ◌∷◌, Bool, true, List, Option, Some, IsSome, length}
use Rattle.checkpoint_model.specs.Checkpoint.{checkpoint_lines}
use Rattle.checkpoint_model.specs.Resumable.{IsResumable}
use Rattle.ended_lines.specs.Ended.{HasPassedText}
use Rattle.line_giver.specs.Giving.{Giving, HasPassed, IsThrough, lines_of_giving}
use Rattle.line_parts.specs.Parts.{lines_of}
use Rattle.run_model.specs.World.{World}
use Rattle.state_kinds.specs.Heads.{head_line, is_head_line}
use Rattle.text_forms.specs.Lines.{joined}
use Rattle.tx_records.specs.Limits.{is_u64}
use Rattle.text_model.specs.Words.{Text}
use Rattle.checkpoint_reader.specs.declared.read.Gathered.{Gathered}
use Rattle.checkpoint_reader.specs.Gathered.{gathered_rows, gathered_shown}

-- known lines begin with the first line of a checkpoint, of these numbers
abbrev pub BeginsWith : Option (List (Option Text)) → ℕ × ℕ × ℕ × ℕ → Type 0
BeginsWith known h = (more : List (Option Text)) × (known ≡ Some (Some (joined (head_line h)) ∷ more))

-- whether the first line of a checkpoint comes: if so, its count fits in 64 bits; it comes if all
-- of its numbers do
pub record IsHead (known : Option (List (Option Text))) (is : Bool) : Type 0 where
  pub counted : is ≡ true → (h : ℕ × ℕ × ℕ × ℕ) → BeginsWith known h → is_u64 h.3 ≡ true
  pub all : (h : ℕ × ℕ × ℕ × ℕ) → is_head_line h ≡ true → BeginsWith known h → is ≡ true

-- if it was known which lines come, and they are the checkpoint of a World that can be resumed,
-- what was read is what it shows
abbrev pub IsOfEach : Option (List (Option Text)) → List (Option Text) → Option Gathered → Type 0
IsOfEach known lines read =
    IsSome known → (w : World) (line : ℕ) → IsResumable w → line ≤ 2 ^ 48 → lines ≡ lines_of (checkpoint_lines w line) → read ≡ Some (gathered_shown w line)

module _ {Stream : Type 0} (before after : Stream → List (Option Text) → Type 0) (old new : Giving) where
  -- all lines were passed; no stream has more
  pub record PassesAll : Type 0 where
    pub lines : List (Option Text)
    pub passed : HasPassed before after old new lines
    pub through : IsThrough (lines_of_giving new)
    pub few : length lines < 2 ^ 64

  -- all lines were passed, and this was read of the first ones
  pub record ReadsAll (read : Option Gathered) : Type 0 where
    pub lines : List (Option Text)
    pub passed : HasPassed before after old new lines
    pub through : IsThrough (lines_of_giving new)
    pub more : (g : Gathered) → read ≡ Some g → (ls : List (Option Text)) × (lines ≡ lines_of (gathered_rows g) ++ ls)
    pub each : IsOfEach (lines_of_giving old) lines read

  -- a whole text was passed, and this was read of it
  pub record ReadsText (read : Option Gathered) : Type 0 where
    pub lines : List (Option Text)
    pub text : HasPassedText before after old new lines
    pub rows : (g : Gathered) → read ≡ Some g → lines ≡ lines_of (gathered_rows g)
    pub each : IsOfEach (lines_of_giving old) lines read
