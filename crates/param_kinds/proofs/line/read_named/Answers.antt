-- The value that follows the name is read.
use Rattle.param_kinds.proofs.Runs.{named_ok}
use Rattle.param_kinds.proofs.line.read_named.Goals as goal

pub returns-in-Some : goal.returns-in-Some
returns-in-Some g c = named_ok g.K.LineKind.form g.K.LineKind.words c.laws.ensures.plain c.args.name.now c.args.line.now c.in-Some.value.now c.in-Some.ensures.some c.read_line.result c.read_line.ensures
