use Rattle.std.proofs.Common.{◌≡◌, ◌++◌, ℕ, List, flat_map, take}
use Rattle.gov_ids.specs.declared.assets.AssetId.{AssetId}
use Rattle.assets.specs.Balances.{balance_of}
use Rattle.ledger_model.specs.UtxoRules.{assets_at}
use Rattle.utxo_rules.proofs.told_assets.take_inputs.Given as goal

-- with the references so far
abbrev pub invariant-loop-at : goal.invariant-loop-at
invariant-loop-at l = (ts gs : List (AssetId × ℕ)) → l.fn.sums.entries ≡ balance_of ts gs
    → l.sums.entries ≡ balance_of (ts ++ flat_map (assets_at l.s.ledger) (take l.at-index l.refs)) gs
