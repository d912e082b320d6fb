use Rattle.std.proofs.lemmas.List.Concat.{flat_map_single}
use Rattle.frozen_print.specs.Words.{pool_words}
use Rattle.report.proofs.Handed.{put_as}
use Rattle.frozen_print.proofs.voters.put_accounts.Goals as goal

pub returns : goal.returns
returns g c = put_as (flat_map_single pool_words c.args.pools.now) c.put_items.ensures
