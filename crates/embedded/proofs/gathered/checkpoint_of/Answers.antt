use Rattle.std.specs.Bool.{⊤}
use Rattle.checkpoint_model.specs.Checkpoint.{checkpoint_lines}
use Rattle.replay_loop.proofs.Worded.{checkpoint_has}
use Rattle.run_model.specs.World.{World}
use Rattle.embedded.proofs.Appended.{from_nothing}
use Rattle.embedded.proofs.gathered.checkpoint_of.Goals as goal

pub returns-in-Ok : goal.returns-in-Ok
returns-in-Ok g c =
    let w : World = g.R.RunState.world c.args.state.now in
    from_nothing (λ text line next. ⊤) c.new.result c.show_checkpoint.new.to.text (checkpoint_lines w c.args.line) 0 0 c.show_checkpoint.result c.in-Ok.field-0 (checkpoint_has w c.args.line) c.new.ensures c.show_checkpoint.ensures c.in-Ok.is
