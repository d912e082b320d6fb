use Rattle.action_lines.proofs.Added.{then_added, then_adds}
use Rattle.action_lines.proofs.updates.push_governance.Goals as goal

pub returns : goal.returns
returns c = then_added _ _ c.push_maybe-8.result (then_adds (then_adds (then_adds (then_adds (then_adds (then_adds c.in_ok-begun.ensures c.in_ok-begun-2.ensures) c.in_ok-begun-3.ensures) c.in_ok-begun-4.ensures) c.in_ok-begun-5.ensures) c.in_ok-begun-6.ensures) c.in_ok-begun-7.ensures) c.push_maybe-8.ensures
