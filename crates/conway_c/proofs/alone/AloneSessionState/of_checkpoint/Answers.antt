use Rattle.std.proofs.Common.{Err, ap, subst, sym, ◌∙◌}
use Rattle.checkpoint.specs.declared.fault.CheckpointFault.{CheckpointFault}
use Rattle.checkpoint_model.specs.Resumed.{IsCheckpoint}
use Rattle.embedded.specs.Only.{IsOfNoOther}
use Rattle.line_giver.specs.OfList.{texts_of}
use Rattle.run_model.specs.World.{World}
use Rattle.conway_c.proofs.alone.AloneSessionState.of_checkpoint.Goals as goal

pub returns-in-Ok-new-clause-made : goal.returns-in-Ok-new-clause-made
returns-in-Ok-new-clause-made c =
    subst (λ (w : World). IsCheckpoint (texts_of c.args.lines.now) w c.in-Ok.line) (sym c.in-Ok-new.ensures) c.in-Ok.ensures.made

pub returns-in-Ok-new-clause-only : goal.returns-in-Ok-new-clause-only
returns-in-Ok-new-clause-only c =
    subst (λ (w : World). IsOfNoOther (texts_of c.args.lines.now) w c.in-Ok.line) (sym c.in-Ok-new.ensures) c.in-Ok.ensures.only

pub returns-in-Err-Bad-clause-bad : goal.returns-in-Err-Bad-clause-bad
returns-in-Err-Bad-clause-bad c same =
    c.read.ensures.bad (c.in-Err-Bad.is ∙ ap (λ (fault : CheckpointFault). Err fault) c.in-Err-Bad.field-0-is)
