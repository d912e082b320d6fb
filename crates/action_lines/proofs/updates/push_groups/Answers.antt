use Rattle.action_lines.proofs.Added.{then_added, then_adds}
use Rattle.action_lines.proofs.updates.push_groups.Goals as goal

pub returns : goal.returns
returns c = then_added _ _ c.push_governance.result (then_adds (then_adds c.in_ok-begun.ensures c.in_ok-begun-2.ensures) c.in_ok-begun-3.ensures) c.push_governance.ensures
