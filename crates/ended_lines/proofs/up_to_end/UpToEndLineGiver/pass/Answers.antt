-- The line that was seen is passed.
use Rattle.std.proofs.Common.{refl}
use Rattle.ended_lines.proofs.UpTo.{passes_seen}
use Rattle.ended_lines.proofs.up_to_end.UpToEndLineGiver.pass.Goals as goal

pub returns-clause-passes : goal.returns-clause-passes
returns-clause-passes g c =
    rw c.stand_after-self.ensures
    (passes_seen _ _ _ _ _ _ _ _ _ _ c.args.self.now.stand c.requires refl c.pass.ensures.none c.pass.ensures.faults c.pass.ensures.passes)
