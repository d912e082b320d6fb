use Rattle.std.proofs.Common.{ℕ, List, [], ◌++◌, flat_map, take, ap, append_assoc, ◌∙◌}
use Rattle.assets.specs.Balances.{balance_of}
use Rattle.gov_ids.specs.declared.assets.AssetId.{AssetId}
use Rattle.gov_ids.specs.declared.OutRef.{OutRef}
use Rattle.ledger_model.specs.UtxoRules.{assets_at}
use Rattle.utxo_rules.proofs.Uneven.{flat_more}
use Rattle.utxo_rules.proofs.told_assets.take_inputs.Goals as goal

abbrev nowhere : OutRef
nowhere = record { tx = record { 0 = [] }; index = 0 }

pub loop-at-preserved : goal.loop-at-preserved
loop-at-preserved c = λ ts gs e.
    let f = assets_at c.args.s.now.ledger in
    let refs = c.args.refs.now in
    let i = c.loop-at.at-index in
    let before : List (AssetId × ℕ) = flat_map f (take i refs) in
    c.in_ok-take.ensures (ts ++ before) gs (c.loop-at.invariant ts gs e)
    ∙ ap (λ (own : List (AssetId × ℕ)). balance_of ((ts ++ before) ++ own) gs) c.assets_at.ensures.value
    ∙ ap (λ (l : List (AssetId × ℕ)). balance_of l gs) (append_assoc ts before _)
    ∙ ap (λ (l : List (AssetId × ℕ)). balance_of (ts ++ l) gs) (flat_more f refs i nowhere c.loop-at-test.true)
