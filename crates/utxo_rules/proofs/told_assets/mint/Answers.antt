use Rattle.std.proofs.Common.{◌≡◌, ℕ, ◌++◌, take, ◌∙◌, rules, arith, w64, to_z, of_z}
use Rattle.std.proofs.lemmas.Int.{to_z-of_z}
use Rattle.std.specs.Prelude.{ℤ, FitsSigned}
use Rattle.gov_ids.specs.declared.assets.AssetId.{AssetId}
use Rattle.assets.specs.Balances.{balance_of}
use Rattle.assets.specs.Quantities.{all_burned, all_minted, burned_of, minted_of}
use Rattle.utxo_rules.specs.Raised.{raised}
use Rattle.utxo_rules.proofs.Raised.{map_more, raised_both}
use Rattle.utxo_rules.proofs.told_assets.mint.Goals as goal

passed : (f : ℤ → ℕ) (x : ℤ) (r : ℕ) → FitsSigned w64 x → r ≡ f (to_z w64 (of_z w64 x)) → r ≡ f x
passed f x r fits e = grind (arith, to_z-of_z)

pub loop-asset-preserved : goal.loop-asset-preserved
loop-asset-preserved c = λ ts gs e.
    let es = c.args.entries.now in
    let i = c.loop-asset.asset-index in
    let item = c.loop-asset-item.result in
    let fits : FitsSigned w64 item.1 = search rules in
    let minted : c.minted.result ≡ minted_of item.1 = passed minted_of item.1 c.minted.result fits c.minted.ensures in
    let burned : c.burned.result ≡ burned_of item.1 = passed burned_of item.1 c.burned.result fits c.burned.ensures in
    let taken = map_more (λ (x : AssetId × ℤ). (x.0, minted_of x.1)) ts es i item c.loop-asset-test.true c.loop-asset-item.is in
    let given = map_more (λ (x : AssetId × ℤ). (x.0, burned_of x.1)) gs es i item c.loop-asset-test.true c.loop-asset-item.is in
    c.in_ok-raise.ensures
    ∙ (λ j. raised item.0 (minted j) (burned j) (c.loop-asset.invariant ts gs e j))
    ∙ raised_both item.0 (ts ++ all_minted (take i es)) (gs ++ all_burned (take i es)) (minted_of item.1) (burned_of item.1)
    ∙ (λ j. balance_of (taken j) (given j))
