use Rattle.book_kinds.proofs.OutputLaws.{asset_back, asset_formed, asset_plain}
use Rattle.book_kinds.proofs.outputs.AssetLinesLineKind.laws.Goals as goal

pub returns-clause-formed : goal.returns-clause-formed
returns-clause-formed c = asset_formed

pub returns-clause-plain : goal.returns-clause-plain
returns-clause-plain c = asset_plain

pub returns-clause-back : goal.returns-clause-back
returns-clause-back c = asset_back
