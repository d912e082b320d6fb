use Rattle.std.proofs.Common.{ap, ◌∙◌}
use Rattle.std.specs.Prelude.{ℤ}
use Rattle.std.specs.List.{list_all}
use Rattle.assets.specs.Quantities.{is_moved}
use Rattle.gov_ids.specs.declared.assets.AssetId.{AssetId}
use Rattle.json_tree.specs.View.{view}
use Rattle.record_read.proofs.AssetsGive.{moved_by}
use Rattle.record_read.proofs.records.read_mint.Goals as goal

pub from_entries-requires : goal.from_entries-requires
from_entries-requires c = record {
  quantities = ap (list_all (λ (e : AssetId × ℤ). is_moved e.1)) c.as_slice.ensures ∙ moved_by (view c.args.object.now) c.in_ok-entries.entries c.in_ok-entries.ensures;
}
