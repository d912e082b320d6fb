-- What outputs hold of assets is in order.
use Rattle.std.proofs.Common.{ℕ, List, flat_map, map, nat_lt, sym, subst}
use Rattle.std.specs.Map.{keys_of, values_of}
use Rattle.book_records.specs.declared.Output.{Output}
use Rattle.book_records.specs.Outputs.{asset_totals, assets_in, assets_named}
use Rattle.gov_ids.specs.declared.assets.AssetId.{AssetId}
use Rattle.gov_ids.specs.declared.OutRef.{OutRef}
use Rattle.gov_ids.specs.Orders.{asset_cmp}
use Rattle.gov_ids.proofs.Totals.{asset_total}
use Rattle.maps.specs.Maps.{IsMap, IsSet}
use Rattle.maps.proofs.Kept.{IsMap-filter, keys_of-each}
use Rattle.maps.proofs.Sets.{IsSet-in_order}

pub totals_in_order : (es : List (OutRef × Output)) → IsMap asset_cmp (asset_totals es)
totals_in_order es =
    IsMap-filter asset_cmp (λ (t : AssetId × ℕ). nat_lt 0 t.1) (map (λ a. (a, assets_in es a)) (assets_named es))
    (subst (λ (ks : List AssetId). IsSet asset_cmp ks) (sym (keys_of-each (assets_in es) (assets_named es)))
    (IsSet-in_order asset_total (keys_of (flat_map (λ (o : Output). o.assets) (values_of es)))))
