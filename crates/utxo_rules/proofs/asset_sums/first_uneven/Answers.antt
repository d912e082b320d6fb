use Rattle.std.proofs.Common.{◌≡◌, ℕ, false, List, [], Option, flat_map, option_map, ap, sym, subst, rules, ◌∙◌}
use Rattle.asset_fronts.specs.Fronts.{AreSound, fronts, lowest_of}
use Rattle.assets.specs.Balances.{balance_of, first_uneven}
use Rattle.gov_ids.specs.declared.assets.AssetId.{AssetId}
use Rattle.gov_ids.specs.declared.OutRef.{OutRef}
use Rattle.ledger_model.specs.UtxoRules.{assets_at}
use Rattle.tx_records.specs.declared.tx.TxOutput.{TxOutput}
use Rattle.utxo_rules.specs.Plain.{names_assets}
use Rattle.utxo_rules.proofs.Assets.{Uneven, lone_sums, named_first, sums_of, unnamed_first}
use Rattle.utxo_rules.proofs.asset_sums.first_uneven.Goals as goal

pub returns-then-not-names_assets-clause-first : goal.returns-then-not-names_assets-clause-first
returns-then-not-names_assets-clause-first c =
    let l = c.args.s.now.ledger in
    let tx = c.args.tx.now in
    let refs = c.as_slice-refs.ensures in
    let none : names_assets tx ≡ false = sym c.names_assets.ensures ∙ c.if-not-names_assets.true in
    let lone : c.map.result ≡ option_map lone_sums c.lowest_taken.result = search rules in
    lone
    ∙ ap (λ (o : Option (AssetId × ℕ)). option_map lone_sums o) (c.lowest_taken.ensures.lowest ∙ ap (λ (refs : List OutRef). lowest_of (fronts (assets_at l) 0 refs)) refs)
    ∙ unnamed_first l tx none (subst (λ (refs : List OutRef). AreSound (assets_at l) refs) refs c.lowest_taken.ensures.sound)

pub returns-clause-first : goal.returns-clause-first
returns-clause-first c =
    let l = c.args.s.now.ledger in
    let tx = c.args.tx.now in
    let n = c.in_ok-named_by.field-0 in
    let refs = c.as_slice-refs.ensures in
    let front = fronts (assets_at l) n tx.inputs in
    let taken = c.in_ok-balance.ensures.balance ∙ ap (λ (refs : List OutRef). balance_of (fronts (assets_at l) n refs) []) refs in
    let given = c.in_ok-give.ensures front taken ∙ ap (λ (outputs : List TxOutput). balance_of front (flat_map (λ (o : TxOutput). o.assets) outputs)) c.as_slice.ensures in
    let all = c.in_ok-mint.ensures front (flat_map (λ (o : TxOutput). o.assets) tx.outputs) given in
    c.first_uneven.ensures
    ∙ ap (λ (balance : List (AssetId × (ℕ × ℕ))). option_map sums_of (first_uneven balance)) all
    ∙ ap (λ (o : Option Uneven). option_map sums_of o) (named_first l tx n c.in_ok-named_by.ensures (subst (λ (refs : List OutRef). AreSound (assets_at l) refs) refs c.in_ok-balance.ensures.sound))
