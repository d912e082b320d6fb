use Rattle.std.proofs.Common.{ℕ, ap, ◌∙◌}
use Rattle.std.specs.List.{list_all}
use Rattle.assets.specs.Quantities.{is_held}
use Rattle.gov_ids.specs.declared.assets.AssetId.{AssetId}
use Rattle.json_tree.specs.View.{view}
use Rattle.record_read.proofs.AssetsGive.{held_by}
use Rattle.record_read.proofs.quantities.read_assets.Goals as goal

pub from_entries-requires : goal.from_entries-requires
from_entries-requires c = record {
  quantities = ap (list_all (λ (e : AssetId × ℕ). is_held e.1)) c.as_slice.ensures ∙ held_by (view c.args.value.now) c.in-Ok.entries c.in-Ok.ensures;
}
