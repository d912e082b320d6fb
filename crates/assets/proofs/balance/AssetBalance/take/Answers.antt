use Rattle.std.proofs.Common.{ℕ, List, ◌++◌, take, ap, ◌∙◌}
use Rattle.gov_ids.specs.declared.assets.AssetId.{AssetId}
use Rattle.assets.specs.Balances.{balance_of}
use Rattle.assets.proofs.Balanced.{front_more, taken_alone}
use Rattle.assets.proofs.balance.AssetBalance.take.Goals as goal

pub loop-asset-preserved : goal.loop-asset-preserved
loop-asset-preserved c = λ ts gs e.
    let es = c.args.entries.now in
    let i = c.loop-asset.asset-index in
    let item = c.loop-asset-item.result in
    c.in_ok-raise.ensures (ts ++ take i es) gs (c.loop-asset.invariant ts gs e)
    ∙ taken_alone item.0 (ts ++ take i es) gs item.1
    ∙ ap (λ (l : List (AssetId × ℕ)). balance_of l gs) (front_more ts es i item c.loop-asset-test.true c.loop-asset-item.is)
