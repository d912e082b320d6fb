use Rattle.std.proofs.Common.{◌≡◌, ◌++◌, ℕ, List, take}
use Rattle.gov_ids.specs.declared.assets.AssetId.{AssetId}
use Rattle.assets.specs.Balances.{balance_of}
use Rattle.assets.proofs.balance.AssetBalance.take.Given as goal

-- with the entries so far
abbrev pub invariant-loop-asset : goal.invariant-loop-asset
invariant-loop-asset l = (ts gs : List (AssetId × ℕ)) → l.fn.self ≡ balance_of ts gs → l.self ≡ balance_of (ts ++ take l.asset-index l.entries) gs
