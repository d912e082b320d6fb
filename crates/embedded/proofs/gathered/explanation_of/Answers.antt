use Rattle.std.specs.Bool.{⊤}
use Rattle.explain_loop.specs.of_explain_model.Explained.{explained_lines}
use Rattle.record_notes.specs.Seen.{noted_seen}
use Rattle.run_model.specs.World.{World}
use Rattle.embedded.proofs.Appended.{numbered_from_nothing}
use Rattle.embedded.proofs.gathered.explanation_of.Goals as goal

pub returns-in-Ok : goal.returns-in-Ok
returns-in-Ok g c =
    let w : World = g.R.RunState.world c.args.state.now in
    numbered_from_nothing (λ text line next. ⊤) c.args.number c.new.result c.put_explained.new.to.text (explained_lines w (noted_seen c.args.noted.now)) 0 0 c.put_explained.result c.in-Ok.field-0 c.new.ensures c.put_explained.ensures c.in-Ok.is
