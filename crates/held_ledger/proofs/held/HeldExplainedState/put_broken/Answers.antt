use Rattle.std.proofs.Common.{map, ap, ◌∙◌}
use Rattle.explain_loop.specs.of_explain_model.Broken.{broken_by}
use Rattle.explain_loop.specs.of_explain_model.Explained.{rule_words}
use Rattle.report.proofs.Handed.{put_as, put_nothing}
use Rattle.run_model.specs.World.{World}
use Rattle.held_ledger.proofs.held.HeldExplainedState.put_broken.Goals as goal

pub returns-in_err-rules : goal.returns-in_err-rules
returns-in_err-rules g c =
    put_nothing (map rule_words (broken_by c.args.self.now.ledger c.args.record.now)) (g.T.LineTaker.taken c.args.to.now) (g.T.LineTaker.faults c.args.to.now) c.from_residual.ensures.1

pub returns : goal.returns
returns g c =
    put_as (ap (map rule_words) (c.as_slice.ensures.value ∙ c.in_ok-rules.ensures ∙ ap (λ (w : World). broken_by w c.args.record.now) c.get.ensures)) c.put_rules.ensures
