use Rattle.std.proofs.Common.{ℕ, List, [], ◌++◌, take, ap, arith, subst, ◌∙◌}
use Rattle.asset_fronts.specs.Fronts.{IsSound, front, fronts, lowest_of}
use Rattle.gov_ids.specs.declared.assets.AssetId.{AssetId}
use Rattle.gov_ids.specs.declared.OutRef.{OutRef}
use Rattle.ledger_model.specs.UtxoRules.{assets_at}
use Rattle.utxo_rules.proofs.Uneven.{all_more, flat_more}
use Rattle.utxo_rules.proofs.asset_sums.lowest_taken.Goals as goal

abbrev nowhere : OutRef
nowhere = record { tx = record { 0 = [] }; index = 0 }

pub loop-at-preserved : goal.loop-at-preserved
loop-at-preserved c =
    let l = c.args.s.now.ledger in
    let refs = c.args.refs.now in
    let i = c.loop-at.at-index in
    record {
      lowest = c.lowest_with-lowest.ensures.lowest (fronts (assets_at l) 0 (take i refs)) c.loop-at.invariant.lowest
          ∙ ap (λ (own : List (AssetId × ℕ)). lowest_of (fronts (assets_at l) 0 (take i refs) ++ front 0 own)) c.assets_at.ensures.value
          ∙ ap (λ (taken : List (AssetId × ℕ)). lowest_of taken) (flat_more (λ at. front 0 (assets_at l at)) refs i nowhere c.loop-at-test.true);
      fits = omega (arith, c.lowest_with-lowest.ensures.fits, c.loop-at.invariant.fits);
      sound = all_more (λ (at : OutRef). IsSound (assets_at l at)) refs i nowhere c.loop-at-test.true c.loop-at.invariant.sound (subst (λ (es : List (AssetId × ℕ)). IsSound es) c.assets_at.ensures.value c.assets_at.ensures.sound);
    }
