use Rattle.std.proofs.Common.{◌≡◌, ◌≤◌, ◌*◌, ◌^◌, ℕ, take}
use Rattle.gov_ids.specs.declared.assets.AssetId.{AssetId}
use Rattle.maps.specs.Words.{amount}
use Rattle.asset_fronts.specs.Fronts.{AreSound, fronts, lowest_of}
use Rattle.ledger_model.specs.UtxoRules.{assets_at}
use Rattle.utxo_rules.proofs.asset_sums.lowest_taken.Given as goal

-- the lowest asset of the references so far
abbrev pub invariant-loop-at : goal.invariant-loop-at
invariant-loop-at l = record {
  lowest : l.lowest ≡ lowest_of (fronts (assets_at l.s.ledger) 0 (take l.at-index l.refs));
  fits : amount (λ (e : AssetId × ℕ). e.1) l.lowest ≤ l.at-index * 2 ^ 64;
  sound : AreSound (assets_at l.s.ledger) (take l.at-index l.refs);
}
