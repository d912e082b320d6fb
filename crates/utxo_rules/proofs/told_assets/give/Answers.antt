use Rattle.std.proofs.Common.{ℕ, List, ◌++◌, take, ap, ◌∙◌}
use Rattle.gov_ids.specs.declared.assets.AssetId.{AssetId}
use Rattle.assets.specs.Balances.{balance_of}
use Rattle.utxo_rules.specs.Raised.{raised}
use Rattle.utxo_rules.proofs.Raised.{front_more, raised_given}
use Rattle.utxo_rules.proofs.told_assets.give.Goals as goal

pub loop-asset-preserved : goal.loop-asset-preserved
loop-asset-preserved c = λ ts gs e.
    let es = c.args.entries.now in
    let i = c.loop-asset.asset-index in
    let item = c.loop-asset-item.result in
    c.in_ok-raise.ensures
    ∙ ap (λ (sums : List (AssetId × (ℕ × ℕ))). raised item.0 0 item.1 sums) (c.loop-asset.invariant ts gs e)
    ∙ raised_given item.0 ts (gs ++ take i es) item.1
    ∙ ap (λ (l : List (AssetId × ℕ)). balance_of ts l) (front_more gs es i item c.loop-asset-test.true c.loop-asset-item.is)
