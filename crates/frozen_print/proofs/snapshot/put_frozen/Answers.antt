use Rattle.gov_ids.specs.Orders.{credential_cmp}
use Rattle.report.proofs.Handed.{put_as}
use Rattle.view_map.specs.View.{frozen_of}
use Rattle.frozen_print.proofs.Lists.{lines_are}
use Rattle.frozen_print.proofs.snapshot.put_frozen.Goals as goal

pub returns : goal.returns
returns g c = λ s of marks entries.
    put_as (lines_are s c.args.f.now c.args.mark.now (frozen_of credential_cmp c.args.accounts.now) of marks entries) c.put_parts.ensures
