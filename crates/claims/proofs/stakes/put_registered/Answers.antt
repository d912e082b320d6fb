use Rattle.report.proofs.Handed.{put_as}
use Rattle.claims.proofs.StakesAre.{stakes_each}
use Rattle.claims.proofs.stakes.put_registered.Goals as goal

pub returns : goal.returns
returns g c = put_as (stakes_each c.args.c.now.sums c.args.dreps.now) c.put_items.ensures
