use Rattle.std.proofs.Common.{◌≡◌, ◌+◌, Some, ap, ◌∙◌, option_map, rules}
use Rattle.run_model.specs.World.{World}
use Rattle.embedded.proofs.Written.{next_is}
use Rattle.embedded.proofs.session.Session.record.Goals as goal

pub returns-in-Ok : goal.returns-in-Ok
returns-in-Ok g c =
    let w : World = g.R.RunState.world c.in-Some-take.before in
    let taken : c.self.inside.state ≡ Some c.in-Some-take.before = search rules in
    let shown : c.args.self.now.world ≡ option_map g.R.RunState.world c.self.inside.state = search rules in
    let next : c.in-Some.number ≡ c.args.self.now.line + 1 = search rules in
    (w, shown ∙ ap (option_map g.R.RunState.world) taken, next_is w c.args.self.now.line c.in-Some.number c.args.line.now _ c.in-Ok.ensures next)
