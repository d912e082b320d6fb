use Rattle.std.specs.Bool.{⊤}
use Rattle.outlook_model.specs.Outlook.{outlook_lines}
use Rattle.replay_loop.proofs.Outlooks.{outlook_have}
use Rattle.run_model.specs.World.{World}
use Rattle.embedded.proofs.Appended.{from_nothing}
use Rattle.embedded.proofs.gathered.outlook_of.Goals as goal

pub returns-in-Ok : goal.returns-in-Ok
returns-in-Ok g c =
    let w : World = g.R.RunState.world c.args.state in
    from_nothing (λ text line next. ⊤) c.new.result c.put_outlook.new.to.text (outlook_lines w) 0 0 c.put_outlook.result c.in-Ok.field-0 (outlook_have w) c.new.ensures c.put_outlook.ensures c.in-Ok.is
