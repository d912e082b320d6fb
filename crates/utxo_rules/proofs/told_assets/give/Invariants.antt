use Rattle.std.proofs.Common.{◌≡◌, ◌++◌, ℕ, List, take}
use Rattle.gov_ids.specs.declared.assets.AssetId.{AssetId}
use Rattle.assets.specs.Balances.{balance_of}
use Rattle.utxo_rules.proofs.told_assets.give.Given as goal

-- with the entries so far
abbrev pub invariant-loop-asset : goal.invariant-loop-asset
invariant-loop-asset l = (ts gs : List (AssetId × ℕ)) → l.fn.sums.entries ≡ balance_of ts gs → l.sums.entries ≡ balance_of ts (gs ++ take l.asset-index l.entries)
