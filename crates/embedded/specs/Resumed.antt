-- A ledger that begins with a checkpoint. (Own)
use Rattle.std.specs.Prelude.{◌≡◌, ℕ, List, [], Option, Some, None, Result, Ok, Err, ⊤}
use Rattle.embedded.specs.declared.fault.CheckpointFault.{CheckpointFault}
use Rattle.embedded.specs.declared.fault.CheckpointFault.TheVariants as faults
use Rattle.line_giver.specs.OfList.{whole_lines}
use Rattle.resume_loop.specs.Heads.{IsCheckpointOf, IsNoCheckpointOf, IsOfNoOther}
use Rattle.resume_loop.specs.Resumed.{lines_in}
use Rattle.run_model.specs.World.{World}
use Rattle.text_model.specs.Words.{Text}
use Rattle.embedded.specs.Standing.{Standing}

-- the lines of a text, of which none is too long, or that one is
abbrev pub IsCut : List ℕ → Option (List Text) → Type 0
IsCut text (Some lines) = lines_in text ≡ whole_lines lines
IsCut text None = (lines : List Text) → lines_in text ≡ whole_lines lines → ⊥

-- a text is the checkpoint of a World behind a line, and of no other, and this ledger begins there
pub record BeginsAt (text : List ℕ) (s : Standing) : Type 0 where
  pub world : World
  pub line : ℕ
  pub is : IsCheckpointOf (lines_in text) world line
  pub only : IsOfNoOther (lines_in text) world line
  pub stands : s ≡ record { world = Some world; line = line; text = [] }

-- a ledger begins, or the text is the checkpoint of none
abbrev pub Resumes : List ℕ → Result Standing CheckpointFault → Type 0
Resumes text (Ok s) = BeginsAt text s
Resumes text (Err faults.Bad) = IsNoCheckpointOf (lines_in text)
Resumes text (Err faults.NoMemory) = ⊤
