-- What was read of lines, for other states with the same Worlds.
use Rattle.std.proofs.Common.{◌≡◌, ℕ, List, Option, Some, subst, sym}
use Rattle.std.specs.Prelude.{IsSome}
use Rattle.line_giver.specs.Giving.{Giving, lines_of_giving}
use Rattle.run_model.specs.World.{World}
use Rattle.resume_loop.specs.Heads.{IsCheckpointOf, IsOfNoOther, ReadsCheckpoint}

pub reads_as : {A B Stream : Type 0} (world : A → World) (world' : B → World) {before after : Stream → List (Option (List ℕ)) → Type 0} {old new : Giving} (a : A) (b : B) (line : ℕ)
    → world' b ≡ world a → ReadsCheckpoint world before after old new (Some (a, line)) → ReadsCheckpoint world' before after old new (Some (b, line))
reads_as world world' {old = old} a b line same h = record {
  lines = h.lines;
  text = h.text;
  is = subst (λ (w : World). IsCheckpointOf h.lines w line × (IsSome (lines_of_giving old) → IsOfNoOther h.lines w line)) (sym same) h.is;
}
