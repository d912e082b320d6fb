use Rattle.std.proofs.Common.{ap, ◌∙◌}
use Rattle.held_ledger.proofs.Judging.{applied_judged}
use Rattle.held_ledger.specs.Applied.{applied_outcome}
use Rattle.run_model.specs.World.{World}
use Rattle.held_ledger.proofs.answers.judge_applied.Goals as goal

pub returns : goal.returns
returns g c =
    applied_judged c.args.ledger c.into_value.result c.args.found.now c.in_ok-applied.applied c.in_ok-held.held c.outcome_over-outcome.result
    c.requires.no_print c.into_value.ensures
    (c.requires.applies.stepped c.into_value.result c.args.found c.in_ok-applied.applied c.in_ok-applied.ensures)
    (c.requires.applies.report c.into_value.result c.args.found c.in_ok-applied.applied c.in_ok-applied.ensures)
    c.in_ok-held.ensures
    (c.outcome_over-outcome.ensures ∙ ap (λ (x : World). applied_outcome x c.args.found.now c.in_ok-applied.applied.reply c.in_ok-applied.applied.report) c.get.ensures)
