use Rattle.std.proofs.Common.{◌≡◌, ◌++◌, ℕ, List, take}
use Rattle.gov_ids.specs.declared.assets.AssetId.{AssetId}
use Rattle.assets.specs.Balances.{balance_of}
use Rattle.assets.specs.Quantities.{all_burned, all_minted}
use Rattle.utxo_rules.proofs.told_assets.mint.Given as goal

-- with the entries so far
abbrev pub invariant-loop-asset : goal.invariant-loop-asset
invariant-loop-asset l = (ts gs : List (AssetId × ℕ)) → l.fn.sums.entries ≡ balance_of ts gs
    → l.sums.entries ≡ balance_of (ts ++ all_minted (take l.asset-index l.entries)) (gs ++ all_burned (take l.asset-index l.entries))
