use Rattle.std.proofs.Common.{◌∙◌}
use Rattle.ledger_state.proofs.Amounts.{amounts_next}
use Rattle.ledger_state.proofs.rewards.amounts_of.Goals as goal

pub loop-c-preserved : goal.loop-c-preserved
loop-c-preserved c =
    amounts_next c.args.rewards.now c.loop-c.c-index _ c.loop-c.amounts.entries c.insert.new.self.entries c.loop-c-test.true c.in_ok-insert.ensures.entries ∙ c.loop-c.invariant
