use Rattle.std.proofs.Common.{rules, ◌≡◌, true, List, [], refl, subst, sym}
use Rattle.std.specs.List.{list_all}
use Rattle.std.specs.List.Sorted.{IsStrictlySortedBy}
use Rattle.gov_ids.specs.declared.assets.AssetId.{AssetId}
use Rattle.gov_ids.specs.Orders.{asset_cmp}
use Rattle.gov_ids.proofs.Totals.{asset_total}
use Rattle.gov_ids.proofs.proofs_of_maps.Kept.{IsMap-with_values}
use Rattle.gov_ids.specs.of_maps.Maps.{IsMap, with_values}
use Rattle.assets.proofs.Lists.{all-with_values}
use Rattle.assets.proofs.asset_list.AssetList.from_entries.Goals as goal

pub invariant_of-result : goal.invariant_of-result
unfolding IsStrictlySortedBy
invariant_of-result g c =
    let made : ◌≡◌ {A = List (AssetId × g.row.Q.Denot)} c.in_ok-entries-2.entries (with_values asset_cmp c.args.entries.now []) = search rules in
    subst (λ (es : List (AssetId × g.row.Q.Denot)). IsMap asset_cmp es × (list_all (λ (e : AssetId × g.row.Q.Denot). g.Q.Quantity.is_quantity e.1) es ≡ true)) (sym made)
    (IsMap-with_values asset_total c.args.entries.now [] tt, all-with_values asset_cmp g.Q.Quantity.is_quantity c.args.entries.now [] c.requires.quantities refl)
