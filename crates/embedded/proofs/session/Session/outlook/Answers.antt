use Rattle.std.proofs.Common.{◌≡◌, Some, None, ap, ◌∙◌, option_map, rules}
use Rattle.run_model.specs.World.{World}
use Rattle.embedded.proofs.Written.{closed_is}
use Rattle.embedded.specs.Shown.{outlook_text}
use Rattle.embedded.proofs.session.Session.outlook.Goals as goal

pub returns-in-Ok : goal.returns-in-Ok
returns-in-Ok g c =
    let w : World = g.R.RunState.world c.in-Some.state in
    let shown : c.args.self.now.world ≡ option_map g.R.RunState.world c.self.inside.state = search rules in
    let taken : c.self.inside.state ≡ Some c.in-Some.state = search rules in
    let gone : option_map g.R.RunState.world c.take.new.self ≡ None = search rules in (
      w,
      shown ∙ ap (option_map g.R.RunState.world) taken,
      closed_is c.args.self.now (option_map g.R.RunState.world c.self.inside.state) (option_map g.R.RunState.world c.take.new.self) c.self.inside.line c.self.inside.text c.in-Ok.text (outlook_text w) c.self.view_is gone c.in-Ok.ensures,
    )
