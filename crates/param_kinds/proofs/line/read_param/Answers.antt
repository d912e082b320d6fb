-- The line that is next is not that of the parameter.
use Rattle.std.proofs.Common.{[]}
use Rattle.text_model.specs.ParamLines.{param}
use Rattle.line_giver.proofs.Passing.{passes_of}
use Rattle.param_kinds.proofs.Runs.{one_breaks}
use Rattle.param_kinds.proofs.line.read_param.Goals as goal

pub returns-in-None-clause-reads : goal.returns-in-None-clause-reads
returns-in-None-clause-reads g c =
    let none = rw c.in-None.is at c.in_ok-item.ensures.sees in (
      [],
      c.read_next.ensures.passes,
      one_breaks g.K.LineKind.form (λ x. param c.args.name.now (g.K.LineKind.words x)) (g.G.LineGiver.giving c.read_next.new.giver) c.in_ok-item.ensures.one none c.in_ok-item.ensures.end,
    )

pub returns-in-None-clause-passes : goal.returns-in-None-clause-passes
returns-in-None-clause-passes g c = passes_of [] c.read_next.ensures.passes
