use Rattle.std.proofs.Common.{◌≡◌, ◌++◌, ℕ, List, take}
use Rattle.gov_ids.specs.declared.assets.AssetId.{AssetId}
use Rattle.assets.specs.Balances.{balance_of}
use Rattle.assets.specs.Quantities.{all_burned, all_minted}
use Rattle.assets.proofs.balance.AssetBalance.mint.Given as goal

-- with the entries so far
abbrev pub invariant-loop-asset : goal.invariant-loop-asset
invariant-loop-asset l = (ts gs : List (AssetId × ℕ)) → l.fn.self ≡ balance_of ts gs
    → l.self ≡ balance_of (ts ++ all_minted (take l.asset-index l.asset-items)) (gs ++ all_burned (take l.asset-index l.asset-items))
