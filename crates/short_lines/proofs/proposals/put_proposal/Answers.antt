use Rattle.std.proofs.Common.{ap, sym, ◌∙◌}
use Rattle.std.proofs.lemmas.Bool.{eq-eqb, ne_eqb}
use Rattle.report.proofs.Puts.{put_none}
use Rattle.shortfall_model.specs.ShortLines.{short_lines}
use Rattle.short_lines.specs.Ranked.{lines_of, of_priority}
use Rattle.std.proofs.Common.{[], ◌∷◌}
use Rattle.report.proofs.Handed.{put_as, put_nothing}
use Rattle.short_lines.proofs.InPriority.{of_another, of_it}
use Rattle.short_lines.proofs.proposals.put_proposal.Goals as goal

pub returns-then-priority : goal.returns-then-priority
returns-then-priority g c = λ s of ranked counts.
    put_as (of_another s c.args.priority c.args.a.now (ne_eqb _ _ (λ e. c.if-priority.true (c.priority.ensures ∙ e))))
    (put_none g.T.LineTaker.with_line g.T.LineTaker.IsPart c.args.line (g.T.LineTaker.taken c.args.to.now) (g.T.LineTaker.faults c.args.to.now))

pub returns-in_err-short : goal.returns-in_err-short
returns-in_err-short g c = λ s of ranked counts.
    put_nothing (lines_of s (of_priority c.args.priority (c.args.a.now ∷ []))) (g.T.LineTaker.taken c.args.to.now) (g.T.LineTaker.faults c.args.to.now) c.from_residual.ensures.1

pub returns : goal.returns
returns g c = λ s of ranked counts.
    put_as (ap (short_lines c.args.a.now.id) (c.in_ok-short.ensures s of ranked counts) ∙ of_it s c.args.priority c.args.a.now (eq-eqb _ _ (sym c.priority.ensures ∙ c.if-priority.false))) c.put_short.ensures
