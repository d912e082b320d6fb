use Rattle.std.proofs.Common.{option_map, ap, sym, ◌∙◌}
use Rattle.book_records.specs.Outputs.{asset_totals}
use Rattle.gov_ids.specs.Orders.{asset_cmp}
use Rattle.gov_ids.proofs.Totals.{asset_total}
use Rattle.view_map.specs.Walk.{entries_past}
use Rattle.state_print.specs.Walks.{entry_then}
use Rattle.state_print.proofs.Totals.{totals_in_order}
use Rattle.state_print.proofs.Walks.{walked}
use Rattle.state_print.proofs.outputs.TotalsWalked.following.Goals as goal

pub returns : goal.returns
returns c =
    walked asset_total (option_map (λ k. k.now) c.args.after) (asset_totals c.args.self.now.outputs.now.outputs) (totals_in_order c.args.self.now.outputs.now.outputs)
    ∙ ap (entry_then (λ k. entries_past asset_cmp k (asset_totals c.args.self.now.outputs.now.outputs))) (sym c.next_asset.ensures)
