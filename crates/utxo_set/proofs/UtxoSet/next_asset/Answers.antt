use Rattle.std.proofs.Common.{ℕ, List, option_map, ap, ◌∙◌}
use Rattle.gov_ids.specs.declared.assets.AssetId.{AssetId}
use Rattle.gov_ids.specs.Orders.{asset_cmp}
use Rattle.maps.specs.Maps.{entry_after}
use Rattle.book_records.specs.Outputs.{asset_totals}
use Rattle.utxo_set.specs.Utxos.{Utxos}
use Rattle.utxo_set.proofs.Totals.{totals_are}
use Rattle.utxo_set.proofs.UtxoSet.next_asset.Goals as goal

pub returns : goal.returns
returns c =
    c.next.ensures
    ∙ ap (λ (ts : List (AssetId × ℕ)). entry_after asset_cmp (option_map (λ a. a.now) c.args.after) ts) (totals_are c.self.inside.outputs.entries c.self.inside.assets c.self.invariant.2 c.self.invariant.3)
    ∙ ap (λ (u : Utxos). entry_after asset_cmp (option_map (λ a. a.now) c.args.after) (asset_totals u.outputs)) c.self.view_is
