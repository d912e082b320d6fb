use Rattle.std.proofs.Common.{◌≡◌, ℕ, List, [], Option, is_some, length, option_map, ap, refl, sym, subst, arith, rules, ◌∙◌}
use Rattle.std.proofs.lemmas.Grind.{common_steps}
use Rattle.asset_fronts.specs.Fronts.{AreSound, fronts, lowest_of}
use Rattle.assets.specs.Balances.{balance_of, first_uneven}
use Rattle.gov_ids.specs.declared.assets.AssetId.{AssetId}
use Rattle.gov_ids.specs.declared.OutRef.{OutRef}
use Rattle.ledger_model.specs.UtxoRules.{assets_at, collateral_assets, returned_assets}
use Rattle.utxo_rules.proofs.Assets.{Uneven, returned_first, sums_of, uneven_collateral, unreturned}
use Rattle.utxo_rules.proofs.collateral.is_collateral_uneven.Goals as goal

pub returns-then-is_empty-clause-uneven : goal.returns-then-is_empty-clause-uneven
returns-then-is_empty-clause-uneven c =
    let l = c.args.s.now.ledger in
    let tx = c.args.tx.now in
    let refs = c.as_slice-refs.ensures in
    let nothing : c.returned_assets-returned.result.now ≡ [] = grind (arith, common_steps) in
    let some : c.is_some.result ≡ is_some c.lowest_taken.result = search rules in
    some
    ∙ ap (λ (o : Option (AssetId × ℕ)). is_some o) (c.lowest_taken.ensures.lowest ∙ ap (λ (refs : List OutRef). lowest_of (fronts (assets_at l) 0 refs)) refs)
    ∙ unreturned l tx (sym c.returned_assets-returned.ensures ∙ nothing) (subst (λ (refs : List OutRef). AreSound (assets_at l) refs) refs c.lowest_taken.ensures.sound)

pub returns-clause-uneven : goal.returns-clause-uneven
returns-clause-uneven c =
    let l = c.args.s.now.ledger in
    let tx = c.args.tx.now in
    let refs = c.as_slice-refs.ensures in
    let returned = c.returned_assets-returned.ensures in
    let n = length c.returned_assets-returned.result.now in
    let front = fronts (assets_at l) n tx.collateral in
    let taken = c.in_ok-balance.ensures.balance ∙ ap (λ (refs : List OutRef). balance_of (fronts (assets_at l) n refs) []) refs in
    let given = c.in_ok-give.ensures front [] taken ∙ ap (λ (entries : List (AssetId × ℕ)). balance_of front entries) returned in
    let first = c.first_uneven.ensures
    ∙ ap (λ (balance : List (AssetId × (ℕ × ℕ))). option_map sums_of (first_uneven balance)) given
    ∙ ap (λ (o : Option Uneven). option_map sums_of o) (returned_first l tx n (ap (λ (entries : List (AssetId × ℕ)). length entries) returned) (subst (λ (refs : List OutRef). AreSound (assets_at l) refs) refs c.in_ok-balance.ensures.sound)) in
    let some : c.is_some-2.result ≡ is_some c.first_uneven.result = search rules in
    some ∙ uneven_collateral l tx (balance_of (collateral_assets l tx) (returned_assets tx)) c.first_uneven.result first refl
