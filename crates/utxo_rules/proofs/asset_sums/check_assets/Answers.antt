use Rattle.std.proofs.Common.{Some, None, refl, sym, ap, ◌∙◌}
use Rattle.assets.specs.Balances.{balance_of}
use Rattle.tx_records.specs.Rules.{placed}
use Rattle.tx_records.specs.declared.reply.Rule.{Rule}
use Rattle.ledger_model.specs.Broken.{assets_consumed, assets_produced}
use Rattle.utxo_rules.proofs.Assets.{first_refused}
use Rattle.utxo_rules.proofs.asset_sums.check_assets.Goals as goal

pub returns-in-Some-clause-rule : goal.returns-in-Some-clause-rule
returns-in-Some-clause-rule c =
    let l = c.args.s.now.ledger in
    let tx = c.args.tx.now in
    first_refused l tx (balance_of (assets_consumed l tx) (assets_produced tx)) (Some (c.in-Some.place, c.in-Some.taken, c.in-Some.given)) (sym c.in-Some.is ∙ c.in_ok-place.ensures.first) refl
    ∙ ap (λ (r : Rule). Some r) (sym (c.at.ensures ∙ (λ j. placed (c.told_place.ensures j) (c.keeping_two-rule.ensures j))))

pub returns-in-None-clause-rule : goal.returns-in-None-clause-rule
returns-in-None-clause-rule c =
    let l = c.args.s.now.ledger in
    let tx = c.args.tx.now in
    first_refused l tx (balance_of (assets_consumed l tx) (assets_produced tx)) None (sym c.in-None.is ∙ c.in_ok-place.ensures.first) refl
