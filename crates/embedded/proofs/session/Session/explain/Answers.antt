use Rattle.std.proofs.Common.{◌≡◌, ℕ, ◌+◌, ap, ◌∙◌, option_map, rules}
use Rattle.run_model.specs.World.{World}
use Rattle.text_model.specs.Words.{Text}
use Rattle.embedded.proofs.Written.{text_is}
use Rattle.embedded.specs.Verdicts.{explanation_text, noted_by}
use Rattle.embedded.proofs.session.Session.explain.Goals as goal

pub returns-in-Ok : goal.returns-in-Ok
returns-in-Ok g c =
    let w : World = g.R.RunState.world c.in-Some-state.state in
    let shown : c.args.self.now.world ≡ option_map g.R.RunState.world c.self.inside.state = search rules in
    let next : c.in-Some.number ≡ c.self.inside.line + 1 = search rules in
    let at : ℕ → Text = λ line. explanation_text w (line + 1) (noted_by c.args.line.now) in (
      w,
      shown ∙ ap (option_map g.R.RunState.world) c.in-Some-state.is,
      text_is c.args.self.now (option_map g.R.RunState.world c.self.inside.state) c.self.inside.line c.self.inside.text c.in-Ok.text at c.self.view_is
          (c.in-Ok.ensures ∙ ap (λ (n : ℕ). explanation_text w n (noted_by c.args.line.now)) next),
    )
