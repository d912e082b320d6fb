use Rattle.embedded.proofs.Written.{answered_is}
use Rattle.embedded.proofs.keeping.after_read.Goals as goal

pub returns-in-Ok-text_of : goal.returns-in-Ok-text_of
returns-in-Ok-text_of g c =
    answered_is (g.R.RunState.world c.args.before) (g.R.RunState.world c.in-Ok.after) c.args.number c.args.reading.now c.in-Ok.outcome c.in-Ok-text_of.text
    c.in-Ok.ensures c.in-Ok-text_of.ensures
