-- The answer of the groups of checks that ask for no sum of assets, from the answers of the groups.
use Rattle.std.proofs.Common.{◌≡◌, List, ◌++◌, Result, sym, ap, ◌∙◌, append_assoc}
use Rattle.std.specs.Prelude.{⊤, option_to_list}
use Rattle.tx_records.specs.declared.reply.Rule.{Rule}
use Rattle.tx_records.specs.declared.tx.Tx.{Tx}
use Rattle.ledger_model.specs.Ledger.{Ledger}
use Rattle.maps.specs.Words.{or_else}
use Rattle.ledger_model.specs.Broken.{asset_checks, balance_checks}
use Rattle.ledger_model.specs.Checks.{Check, answer_of, first_among, per_place}
use Rattle.ledger_model.specs.UtxoRules.{id_checks, input_checks, fee_checks, output_checks, collateral_list_checks, collateral_checks, collateral_sum_checks, treasury_checks, unless_failed, collateral_assets_checks, utxo_checks}
use Rattle.ledger_model.proofs.CheckLaws.{answer-append, first_among-append}
use Rattle.rule_checks.proofs.Groups.{before}
use Rattle.utxo_rules.specs.Plain.{lovelace_checks, plain_checks}

eight : (a b c d e f g h : List Check) → before a (before b (before c (before d (before e (before f (before g (answer_of h))))))) ≡ answer_of (a ++ b ++ c ++ d ++ e ++ f ++ g ++ h)
unfolding before
eight a b c d e f g h =
    let right : a ++ b ++ c ++ d ++ e ++ f ++ g ++ h ≡ a ++ (b ++ (c ++ (d ++ (e ++ (f ++ (g ++ h)))))) = simp append_assoc in
    sym (ap answer_of right
    ∙ answer-append a (b ++ (c ++ (d ++ (e ++ (f ++ (g ++ h))))))
    ∙ ap (before a) (answer-append b (c ++ (d ++ (e ++ (f ++ (g ++ h)))))
    ∙ ap (before b) (answer-append c (d ++ (e ++ (f ++ (g ++ h))))
    ∙ ap (before c) (answer-append d (e ++ (f ++ (g ++ h)))
    ∙ ap (before d) (answer-append e (f ++ (g ++ h))
    ∙ ap (before e) (answer-append f (g ++ h)
    ∙ ap (before f) (answer-append g h)))))))

pub plain_answer : (w : Ledger) (tx : Tx) (answer : Result ⊤ Rule)
    → answer ≡ before (id_checks w tx) (before (per_place (input_checks w tx) tx.inputs) (before (fee_checks w tx)
    (before (per_place (output_checks w tx) (tx.outputs ++ option_to_list tx.collateral_return)) (before (collateral_list_checks w tx)
    (before (per_place (collateral_checks w tx) tx.collateral) (before (collateral_sum_checks w tx) (answer_of (unless_failed tx.scripts (treasury_checks w tx)))))))))
    → answer ≡ answer_of (plain_checks w tx)
plain_answer w tx answer e =
    e
    ∙ eight (id_checks w tx) (per_place (input_checks w tx) tx.inputs) (fee_checks w tx)
    (per_place (output_checks w tx) (tx.outputs ++ option_to_list tx.collateral_return)) (collateral_list_checks w tx)
    (per_place (collateral_checks w tx) tx.collateral) (collateral_sum_checks w tx) (unless_failed tx.scripts (treasury_checks w tx))

-- these groups, and the rule on the assets of the collateral
pub all_groups : (l : Ledger) (tx : Tx) → or_else (first_among (plain_checks l tx)) (first_among (collateral_assets_checks l tx)) ≡ first_among (utxo_checks l tx)
all_groups l tx = sym (first_among-append (plain_checks l tx) (collateral_assets_checks l tx))

-- the rule on the balance of lovelace, and those on assets
pub balance_groups : (l : Ledger) (tx : Tx) → or_else (first_among (lovelace_checks l tx)) (first_among (asset_checks l tx)) ≡ first_among (balance_checks l tx)
balance_groups l tx = sym (first_among-append (lovelace_checks l tx) (asset_checks l tx))
