use Rattle.std.proofs.Common.{ℕ, List, [], ◌∷◌, map, refl, ap, ◌∙◌}
use Rattle.gov_ids.specs.declared.assets.AssetId.{AssetId}
use Rattle.std.proofs.lemmas.List.Concat.{flat_map_single}
use Rattle.text_model.specs.StateLines.{asset_words, output_words}
use Rattle.report.proofs.Puts.{put_first_as, put_second_as}
use Rattle.state_print.proofs.outputs.put_output.Goals as goal

pub returns-in_err-put_one : goal.returns-in_err-put_one
returns-in_err-put_one g c =
    put_first_as _ (output_words (c.args.reference.now, c.args.output.now) ∷ [])
    (map asset_words c.args.output.now.assets)
    refl c.in_err-put_one.ensures c.from_residual.ensures.1

pub returns : goal.returns
returns g c =
    put_second_as _ (output_words (c.args.reference.now, c.args.output.now) ∷ []) _
    (map asset_words c.args.output.now.assets)
    refl (flat_map_single asset_words c.as_slice.result.now ∙ ap (λ (l : List (AssetId × ℕ)). map asset_words l) c.as_slice.ensures.value) c.in_ok-put_one.ensures c.put_items.ensures
