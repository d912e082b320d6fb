use Rattle.action_lines.proofs.Added.{then_added}
use Rattle.action_lines.proofs.actions.push_committee.Goals as goal

pub returns : goal.returns
returns c =
    then_added _ _ c.push_field-3.result c.in_ok-begun.ensures
    (then_added _ _ c.push_field-3.result c.in_ok-begun-2.ensures (then_added _ _ c.push_field-3.result c.in_ok-begun-3.ensures c.push_field-3.ensures))
