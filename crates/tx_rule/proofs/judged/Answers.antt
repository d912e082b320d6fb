use Rattle.std.proofs.Common.{subst}
use Rattle.ledger_model.specs.Ledger.{Ledger}
use Rattle.tx_rule.specs.Judged.{IsJudged}
use Rattle.tx_rule.proofs.judged.Goals as goal

pub returns : goal.returns
returns c = subst (λ (l : Ledger). IsJudged c.changes_of.result l c.args.tx.now) c.live.ensures.ledger c.changes_of.ensures
