-- The rules that ask for no sum of assets, and those that do. (Own)
use Rattle.std.specs.Prelude.{◌==◌, Bool, not, ◌||◌, List, [], ◌∷◌, ◌++◌, option_to_list}
use Rattle.std.specs.List.{list_any}
use Rattle.maps.specs.Words.{is_empty}
use Rattle.tx_records.specs.declared.rules.TheConstants.{NOT_BALANCED}
use Rattle.tx_records.specs.declared.tx.Tx.{Tx}
use Rattle.tx_records.specs.declared.tx.TxOutput.{TxOutput}
use Rattle.ledger_model.specs.Broken.{consumed, produced}
use Rattle.ledger_model.specs.Checks.{Check, breaks_keeping_two, per_place}
use Rattle.ledger_model.specs.Ledger.{Ledger}
use Rattle.ledger_model.specs.UtxoRules.{id_checks, input_checks, fee_checks, output_checks, collateral_list_checks, collateral_checks, collateral_sum_checks, treasury_checks, unless_failed}

-- all that read the ledger before the transaction, except the rule on the collateral's assets
abbrev pub plain_checks : Ledger → Tx → List Check
plain_checks l tx =
    id_checks l tx
    ++ per_place (input_checks l tx) tx.inputs
    ++ fee_checks l tx
    ++ per_place (output_checks l tx) (tx.outputs ++ option_to_list tx.collateral_return)
    ++ collateral_list_checks l tx
    ++ per_place (collateral_checks l tx) tx.collateral
    ++ collateral_sum_checks l tx
    ++ unless_failed tx.scripts (treasury_checks l tx)

-- the rule on the balance of lovelace
abbrev pub lovelace_checks : Ledger → Tx → List Check
lovelace_checks l tx =
    breaks_keeping_two NOT_BALANCED (consumed l tx) (produced l tx) (not (consumed l tx == produced l tx)) ∷ []

-- whether a transaction mints or burns an asset, or makes an output that holds one
abbrev pub names_assets : Tx → Bool
names_assets tx = not (is_empty tx.mint) || list_any (λ (o : TxOutput). not (is_empty o.assets)) tx.outputs
