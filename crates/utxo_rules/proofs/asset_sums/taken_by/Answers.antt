use Rattle.std.proofs.Common.{ℕ, List, [], ◌++◌, take, ap, subst, ◌∙◌}
use Rattle.asset_fronts.specs.Fronts.{IsSound, front, fronts}
use Rattle.assets.specs.Balances.{balance_of}
use Rattle.gov_ids.specs.declared.assets.AssetId.{AssetId}
use Rattle.gov_ids.specs.declared.OutRef.{OutRef}
use Rattle.ledger_model.specs.UtxoRules.{assets_at}
use Rattle.utxo_rules.proofs.Uneven.{all_more, flat_more}
use Rattle.utxo_rules.proofs.asset_sums.taken_by.Goals as goal

abbrev nowhere : OutRef
nowhere = record { tx = record { 0 = [] }; index = 0 }

pub loop-at-preserved : goal.loop-at-preserved
loop-at-preserved c =
    let l = c.args.s.now.ledger in
    let refs = c.args.refs.now in
    let i = c.loop-at.at-index in
    let n = c.args.named in
    record {
      balance = c.in_ok-take.ensures (fronts (assets_at l) n (take i refs)) [] c.loop-at.invariant.balance
          ∙ ap (λ (own : List (AssetId × ℕ)). balance_of (fronts (assets_at l) n (take i refs) ++ own) []) (c.front.ensures ∙ ap (λ (es : List (AssetId × ℕ)). front n es) c.assets_at.ensures.value)
          ∙ ap (λ (taken : List (AssetId × ℕ)). balance_of taken []) (flat_more (λ at. front n (assets_at l at)) refs i nowhere c.loop-at-test.true);
      sound = all_more (λ (at : OutRef). IsSound (assets_at l at)) refs i nowhere c.loop-at-test.true c.loop-at.invariant.sound (subst (λ (es : List (AssetId × ℕ)). IsSound es) c.assets_at.ensures.value c.assets_at.ensures.sound);
    }
