-- The words of the line of an asset's total. (Own)
use Rattle.std.specs.Prelude.{List}
use Rattle.state_lines.specs.declared.asset_total.AssetTotal.{AssetTotal}
use Rattle.text_model.specs.StateLines.{asset_total_words}
use Rattle.text_model.specs.Words.{Text}

-- the asset, then its total
abbrev pub words_of_total : AssetTotal → List Text
words_of_total t = asset_total_words (t.asset, t.total)
