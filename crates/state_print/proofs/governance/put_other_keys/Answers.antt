use Rattle.state_print.proofs.Walks.{others}
use Rattle.report.proofs.Handed.{put_as}
use Rattle.state_print.proofs.governance.put_other_keys.Goals as goal

pub returns : goal.returns
returns g c = put_as (others c.args.committee.now c.args.hot.now) c.put_walk.ensures
