-- The lines of a checkpoint at the beginning of a stream. (Own)
-- A line is its bytes, and none if it is too long.
use Rattle.std.specs.Prelude.{◌≡◌, ℕ, List, Option, Some, None, IsSome}
use Rattle.checkpoint_model.specs.Resumed.{IsCheckpoint}
use Rattle.ended_lines.specs.Ended.{HasPassedText}
use Rattle.line_giver.specs.Giving.{Giving, lines_of_giving}
use Rattle.line_giver.specs.OfList.{whole_lines}
use Rattle.run_model.specs.World.{World}
use Rattle.text_model.specs.Words.{Text}

-- lines, none of which is too long, are the checkpoint of a World after a line
pub record IsCheckpointOf (lines : List (Option Text)) (w : World) (line : ℕ) : Type 0 where
  pub texts : List Text
  pub whole : lines ≡ whole_lines texts
  pub is : IsCheckpoint texts w line

-- they are the checkpoint of no World and line
abbrev pub IsNoCheckpointOf : List (Option Text) → Type 0
IsNoCheckpointOf lines = (w : World) (line : ℕ) → IsCheckpointOf lines w line → ⊥

-- they are the checkpoint of no other World or line
abbrev pub IsOfNoOther : List (Option Text) → World → ℕ → Type 0
IsOfNoOther lines w line = (v : World) (l : ℕ) → IsCheckpointOf lines v l → (v ≡ w) × (l ≡ line)

-- what was read of lines: a state and a line, of which they are the checkpoint, or that they are
-- none;
-- if it was known which lines come, they are that of no other state
abbrev pub IsReadAs : {State : Type 0} → (State → World) → Option (List (Option Text)) → List (Option Text) → Option (State × ℕ) → Type 0
IsReadAs world known lines (Some (s, line)) = IsCheckpointOf lines (world s) line × (IsSome known → IsOfNoOther lines (world s) line)
IsReadAs world known lines None = IsSome known → IsNoCheckpointOf lines

-- a whole text was passed, and this was read of it
pub record ReadsCheckpoint {State Stream : Type 0} (world : State → World) (before after : Stream → List (Option Text) → Type 0) (old new : Giving) (read : Option (State × ℕ)) : Type 0 where
  pub lines : List (Option Text)
  pub text : HasPassedText before after old new lines
  pub is : IsReadAs world (lines_of_giving old) lines read
