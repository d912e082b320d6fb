use Rattle.std.proofs.Common.{◌≡◌, ℕ, ap, ◌∙◌, option_map, rules}
use Rattle.checkpoint_model.specs.Checkpoint.{checkpoint_text}
use Rattle.run_model.specs.World.{World}
use Rattle.text_model.specs.Words.{Text}
use Rattle.embedded.proofs.Written.{text_is}
use Rattle.embedded.proofs.session.Session.checkpoint.Goals as goal

pub returns-in-Ok : goal.returns-in-Ok
returns-in-Ok g c =
    let w : World = g.R.RunState.world c.in-Some.state in
    let shown : c.args.self.now.world ≡ option_map g.R.RunState.world c.self.inside.state = search rules in
    let at : ℕ → Text = λ line. checkpoint_text w line in (
      w,
      shown ∙ ap (option_map g.R.RunState.world) c.in-Some.is,
      text_is c.args.self.now (option_map g.R.RunState.world c.self.inside.state) c.self.inside.line c.self.inside.text c.in-Ok.text at c.self.view_is c.in-Ok.ensures,
    )
