-- A checkpoint is that of one World. (Own)
use Rattle.std.specs.Prelude.{◌≡◌, ℕ, List}
use Rattle.checkpoint_model.specs.Resumed.{IsCheckpoint}
use Rattle.run_model.specs.World.{World}

-- lines are the checkpoint of no other World or line
abbrev pub IsOfNoOther : List (List ℕ) → World → ℕ → Type 0
IsOfNoOther lines w line = (v : World) (l : ℕ) → IsCheckpoint lines v l → (v ≡ w) × (l ≡ line)
