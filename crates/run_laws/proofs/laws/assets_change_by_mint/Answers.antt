use Rattle.run_laws.proofs.AssetMoves.{assets_change_by_mint}
use Rattle.run_laws.proofs.laws.assets_change_by_mint.Goals as goal

pub returns : goal.returns
returns c = assets_change_by_mint
