use Rattle.book_records.specs.Outputs.{asset_totals}
use Rattle.gov_ids.specs.Orders.{asset_cmp}
use Rattle.text_model.specs.StateLines.{asset_total_words}
use Rattle.state_print.proofs.Walks.{singles}
use Rattle.report.proofs.Handed.{put_as}
use Rattle.state_print.proofs.outputs.put_assets.Goals as goal

pub returns : goal.returns
returns g c = put_as (singles asset_cmp asset_total_words (asset_totals c.args.outputs.now.outputs)) c.put_walk.ensures
