use Rattle.std.proofs.Common.{Ok, subst, sym}
use Rattle.run_model.specs.World.{World}
use Rattle.undo_before.specs.of_tx_rule.Judged.{IsJudged}
use Rattle.following.proofs.transactions.after_judged.Goals as goal

pub before_judged-requires-clause-judged : goal.before_judged-requires-clause-judged
before_judged-requires-clause-judged c =
    subst (λ (w : World). IsJudged (Ok c.args.changes) w.ledger c.args.tx.now) (sym c.ledger.ensures) c.requires.judged

pub accepted-requires-clause-judged : goal.accepted-requires-clause-judged
accepted-requires-clause-judged c =
    subst (λ (w : World). IsJudged (Ok c.args.changes) w.ledger c.args.tx.now) (sym c.into_value.ensures) c.requires.judged
