use Rattle.std.proofs.Common.{sym, ◌∙◌}
use Rattle.std.proofs.lemmas.Bool.{eq-eqb, ne_eqb}
use Rattle.claims.proofs.Priorities.{of_another, of_it}
use Rattle.claims.proofs.Passed.{passed_as, passed_none}
use Rattle.claims.proofs.blocks.put_proposal.Goals as goal

pub returns-then-priority-clause-passed : goal.returns-then-priority-clause-passed
returns-then-priority-clause-passed g c = λ s of.
    passed_as s (of_another c.args.priority c.args.a.now (ne_eqb _ _ (λ e. c.if-priority.true (c.priority.ensures ∙ e))))
    (passed_none s (g.T.LineTaker.taken c.args.to.now) (g.T.LineTaker.faults c.args.to.now) c.args.passing)

pub returns-clause-passed : goal.returns-clause-passed
returns-clause-passed g c = λ s of.
    passed_as s (of_it c.args.priority c.args.a.now (eq-eqb _ _ (sym c.priority.ensures ∙ c.if-priority.false))) (c.put_block.ensures.passed s of)
