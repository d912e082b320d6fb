-- The output of the commands for checkpoints, and when a text is no checkpoint. (Own)
use Rattle.std.specs.Prelude.{◌≡◌, ℕ, ◌^◌, ◌≤◌, List, Option, option_map}
use Rattle.tx_records.specs.declared.record.Reading.{Reading}
use Rattle.text_forms.specs.of_run_model.World.{World}
use Rattle.text_forms.specs.Lines.{joined_lines}
use Rattle.text_forms.specs.Worlds.{world_of_readings}
use Rattle.text_forms.specs.of_text_model.Runs.{text_from}
use Rattle.text_forms.specs.of_text_model.Words.{Text}
use Rattle.checkpoint_model.specs.Checkpoint.{checkpoint_lines, checkpoint_text}
use Rattle.checkpoint_model.specs.Resumable.{IsResumable}

-- the checkpoint of a run of so many lines, with blank and refused ones,
-- if the run begins with a genesis that breaks no genesis rule
abbrev pub checkpoint_of_readings : ℕ → List (ℕ × Reading) → Option Text
checkpoint_of_readings lines rs = option_map (λ w. checkpoint_text w lines) (world_of_readings rs)

-- lines, up to the first `end`, are the checkpoint of a World after a line
pub record IsCheckpoint (lines : List Text) (w : World) (line : ℕ) : Type 0 where
  pub sound : IsResumable w
  pub within : line ≤ 2 ^ 48
  pub text : lines ≡ joined_lines (checkpoint_lines w line)

-- they are the checkpoint of no World and line
abbrev pub IsNoCheckpoint : List Text → Type 0
IsNoCheckpoint lines = (w : World) (line : ℕ) → IsCheckpoint lines w line → ⊥

-- the text of a resume of a World for the readings after it
-- its lines are numbered from the one after the checkpoint's
abbrev pub text_of_resume : World → List (ℕ × Reading) → Text
text_of_resume w rs = text_from w rs
