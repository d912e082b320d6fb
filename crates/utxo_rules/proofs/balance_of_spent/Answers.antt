use Rattle.std.proofs.Common.{◌≡◌, List, [], ◌||◌, Ok, ap, sym, ◌∙◌}
use Rattle.ledger_model.specs.Broken.{asset_checks, balance_checks}
use Rattle.ledger_model.specs.Checks.{Check, first_among}
use Rattle.rule_checks.proofs.Faults.{answered_later, told}
use Rattle.utxo_rules.specs.Plain.{lovelace_checks, names_assets}
use Rattle.utxo_rules.proofs.Assets.{none_asked}
use Rattle.utxo_rules.proofs.Groups.{balance_groups}
use Rattle.utxo_rules.proofs.balance_of_spent.Goals as goal

pub returns-else-moves_assets-clause-rule : goal.returns-else-moves_assets-clause-rule
returns-else-moves_assets-clause-rule c =
    let l = c.args.d.now.start in
    let tx = c.args.tx.now in
    let none : asset_checks l tx ≡ [] = none_asked l tx (ap (λ b. b || names_assets tx) (sym c.requires.spent.assets) ∙ sym c.moves_assets.ensures ∙ c.if-moves_assets.false) in
    answered_later (first_among (lovelace_checks l tx)) (first_among (asset_checks l tx)) (first_among (balance_checks l tx)) (Ok tt) (balance_groups l tx) (told (lovelace_checks l tx) c.balance_of_lovelace.result (Ok tt) c.balance_of_lovelace.ensures c.in_ok-as_fault.ensures) (ap (λ (cs : List Check). first_among cs) none)
