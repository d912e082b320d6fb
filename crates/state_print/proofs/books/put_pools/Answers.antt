use Rattle.gov_ids.specs.Orders.{pool_cmp}
use Rattle.text_model.specs.StateLines.{pool_lines}
use Rattle.state_print.proofs.Walks.{several}
use Rattle.report.proofs.Handed.{put_as}
use Rattle.state_print.proofs.books.put_pools.Goals as goal

pub returns : goal.returns
returns g c = put_as (several pool_cmp pool_lines c.args.pools.now) c.put_walk.ensures
