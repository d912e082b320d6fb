use Rattle.std.proofs.Common.{List, ℕ, option_map, slice_get, ap, sym, ◌∙◌}
use Rattle.std.specs.Bound.{bound_map}
use Rattle.gov_ids.specs.declared.assets.AssetId.{AssetId}
use Rattle.gov_ids.specs.Orders.{asset_cmp}
use Rattle.gov_ids.proofs.proofs_of_maps.Next.{entry_after-range}
use Rattle.gov_ids.specs.of_maps.Maps.{entry_after}
use Rattle.assets.proofs.totals.AssetTotals.next.Goals as goal

pub returns-in_err-asset : goal.returns-in_err-asset
returns-in_err-asset c =
    c.from_residual.ensures ∙ sym (ap (λ (es : List (AssetId × ℕ)). slice_get es 0) c.in_err-asset.ensures.steps.0)
    ∙ entry_after-range asset_cmp _ _ _ _ _ c.keys_past.ensures.start (ap (bound_map (λ k. k.now)) c.keys_past.ensures.end) (c.range.ensures.between tt)
    ∙ ap (λ (es : List (AssetId × ℕ)). entry_after asset_cmp (option_map (λ a. a.now) c.args.after) es) c.self.view_is

pub returns : goal.returns
returns c =
    sym (ap (λ (es : List (AssetId × ℕ)). slice_get es 0) c.in_ok-asset.ensures.steps)
    ∙ entry_after-range asset_cmp _ _ _ _ _ c.keys_past.ensures.start (ap (bound_map (λ k. k.now)) c.keys_past.ensures.end) (c.range.ensures.between tt)
    ∙ ap (λ (es : List (AssetId × ℕ)). entry_after asset_cmp (option_map (λ a. a.now) c.args.after) es) c.self.view_is
