use Rattle.std.proofs.Common.{ℕ, List, length, ap, nat_le, ◌∙◌}
use Rattle.std.specs.Prelude.{ℤ}
use Rattle.std.specs.Map.{keys_of}
use Rattle.gov_ids.proofs.proofs_of_maps.Ordered.{no_repeats}
use Rattle.gov_ids.specs.declared.assets.AssetId.{AssetId}
use Rattle.gov_ids.specs.Orders.{asset_cmp}
use Rattle.tx_records.proofs.Ordered.{within_by}
use Rattle.tx_records.proofs.within.is_mint.Goals as goal

pub returns : goal.returns
returns c =
    ap (λ (es : List (AssetId × ℤ)). nat_le (length es) c.from.result) c.as_slice.ensures.value
    ∙ ap (λ (n : ℕ). nat_le (length c.args.mint.now) n) c.from.ensures
    ∙ within_by _ _ _ (no_repeats asset_cmp (keys_of c.args.mint.now) c.as_slice.ensures.in_order) c.as_slice.ensures.quantities
