use Rattle.std.proofs.Common.{List, flat_map, ap, ◌∙◌}
use Rattle.gov_actions.specs.declared.state.HotState.{HotState}
use Rattle.gov_ids.specs.declared.Credential.{Credential}
use Rattle.report.proofs.Handed.{put_as}
use Rattle.frozen_print.proofs.Lists.{other_lines, others}
use Rattle.frozen_print.proofs.governance.put_other_keys.Goals as goal

pub returns : goal.returns
returns g c =
    put_as (ap (λ (es : List (Credential × HotState)). flat_map (other_lines c.args.committee.now) es) c.as_slice.ensures ∙ others c.args.committee.now c.args.hot.now) c.put_items.ensures
