use Rattle.action_lines.proofs.Added.{then_added, then_adds}
use Rattle.action_lines.proofs.actions.push_constitution.Goals as goal

pub returns : goal.returns
returns c = then_added _ _ c.push_maybe-2.result (then_adds c.in_ok-begun.ensures c.in_ok-begun-2.ensures) c.push_maybe-2.ensures
