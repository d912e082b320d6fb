use Rattle.action_lines.proofs.Added.{then_added}
use Rattle.action_lines.proofs.actions.push_withdrawals.Goals as goal

pub returns : goal.returns
returns c = then_added _ _ c.push_maybe.result c.in_ok-begun.ensures c.push_maybe.ensures
