-- A transaction changes the assets of outputs by what it mints and burns.
use Rattle.std.proofs.Common.{◌≡◌, ℕ, ◌+◌, ◌-◌, ◌^◌, List, [], true, false, Option, Some, None, flat_map, min, sum_by, refl, ◌∙◌, arith}
use Rattle.std.specs.Option.{option_map, option_to_list, unwrap_or}
use Rattle.maps.specs.Words.{amount}
use Rattle.assets.specs.Balances.{balance_of}
use Rattle.assets.specs.Quantities.{all_burned, all_minted, quantity_of}
use Rattle.gov_ids.specs.declared.assets.AssetId.{AssetId}
use Rattle.gov_ids.specs.declared.OutRef.{OutRef}
use Rattle.book_records.specs.declared.Output.{Output}
use Rattle.book_records.specs.Outputs.{assets_in}
use Rattle.tx_records.specs.declared.tx.Scripts.{Scripts}
use Rattle.tx_records.specs.declared.tx.Scripts.TheVariants.{Absent, Passed, Failed}
use Rattle.tx_records.specs.declared.tx.Tx.{Tx}
use Rattle.tx_records.specs.declared.tx.TxOutput.{TxOutput}
use Rattle.ledger_model.specs.Broken.{assets_consumed, assets_produced, body_checks}
use Rattle.ledger_model.specs.Ledger.{Ledger, output_at}
use Rattle.ledger_model.specs.Sound.{IsSound}
use Rattle.ledger_model.specs.Transaction.{after_failed, after_passed, after_scripts}
use Rattle.ledger_model.specs.UtxoRules.{assets_at, collateral_assets, has_scripts, is_failed, returned_assets}
use Rattle.ledger_model.proofs.SameSums.{sum_by-same}
use Rattle.tx_balance.specs.Laws.{FailedKeepsAssets, PassedMints}
use Rattle.tx_balance.proofs.Assets.{all_even, even_unbroken, even_unless, quantity_of-append, quantity_of-flat_map, quantity_of-there}
use Rattle.tx_balance.proofs.Failed.{collateral_settled}
use Rattle.tx_balance.proofs.OutputParts.{IsPassed, collateral_even, parts_of}
use Rattle.tx_balance.proofs.Passed.{IsBodyPassed, body_by, body_parts, inputs_settled}

module _ (l : Ledger) (tx : Tx) (s : IsSound l) (a : AssetId) where
  abbrev of_output : Output → ℕ
  of_output o = quantity_of o.assets a

  abbrev of_made : TxOutput → ℕ
  of_made o = quantity_of o.assets a

  -- what unspent outputs of these references have
  of_spent : (rs : List OutRef) → quantity_of (flat_map (assets_at l) rs) a ≡ sum_by (λ r. amount of_output (output_at l r)) rs
  of_spent rs =
      quantity_of-flat_map a (assets_at l) rs
      ∙ sum_by-same (λ r. quantity_of (assets_at l r) a) (λ r. amount of_output (output_at l r)) (λ r. quantity_of-there a (output_at l r)) rs

  abbrev minted : ℕ
  minted = quantity_of (all_minted tx.mint) a

  abbrev burned : ℕ
  burned = quantity_of (all_burned tx.mint) a

  passed_mint : IsPassed l tx → IsBodyPassed l tx → assets_in (after_passed l tx).outputs a + burned ≡ assets_in l.outputs a + minted
  passed_mint p b =
      let even : quantity_of (assets_consumed l tx) a ≡ quantity_of (assets_produced tx) a =
      all_even (assets_consumed l tx) (assets_produced tx) (even_unbroken (λ n. min n (2 ^ 32 - 1)) 0 (balance_of (assets_consumed l tx) (assets_produced tx)) b.assets) a in
      omega (
        arith,
        even,
        quantity_of-append a (flat_map (assets_at l) tx.inputs) (all_minted tx.mint),
        quantity_of-append a (flat_map (λ (o : TxOutput). o.assets) tx.outputs) (all_burned tx.mint),
        of_spent tx.inputs,
        quantity_of-flat_map a (λ (o : TxOutput). o.assets) tx.outputs,
        inputs_settled l tx s p of_output,
      )

  of_returned : (o : Option TxOutput) → quantity_of (unwrap_or (option_map (λ (x : TxOutput). x.assets) o) []) a ≡ sum_by of_made (option_to_list o)
  of_returned None = refl
  of_returned (Some o) = omega arith

  failed_keep : IsPassed l tx → has_scripts tx.scripts ≡ true → assets_in (after_failed l tx).outputs a ≡ assets_in l.outputs a
  failed_keep p e =
      let even : quantity_of (collateral_assets l tx) a ≡ quantity_of (returned_assets tx) a =
      all_even (collateral_assets l tx) (returned_assets tx) (even_unless (balance_of (collateral_assets l tx) (returned_assets tx)) (collateral_even l tx p e)) a in
      omega (arith, even, of_spent tx.collateral, of_returned tx.collateral_return, collateral_settled l tx s p of_output)

  passed_by : (sc : Scripts) → is_failed sc ≡ false → assets_in (after_passed l tx).outputs a + burned ≡ assets_in l.outputs a + minted
      → assets_in (after_scripts sc l tx).outputs a + burned ≡ assets_in l.outputs a + minted
  passed_by Absent e h = h
  passed_by Passed e h = h
  passed_by Failed e h = cc

  failed_by : (sc : Scripts) → is_failed sc ≡ true → (has_scripts sc ≡ true → assets_in (after_failed l tx).outputs a ≡ assets_in l.outputs a)
      → assets_in (after_scripts sc l tx).outputs a ≡ assets_in l.outputs a
  failed_by Absent e h = cc
  failed_by Passed e h = cc
  failed_by Failed e h = h refl

pub passed_mints : PassedMints
passed_mints l tx s e allowed a =
    let p : IsPassed l tx = parts_of l tx allowed in
    passed_by l tx s a tx.scripts e (passed_mint l tx s a p (body_parts l tx (body_by l tx tx.scripts (body_checks l tx) e p.body)))

pub failed_keeps_assets : FailedKeepsAssets
failed_keeps_assets l tx s e allowed a = failed_by l tx s a tx.scripts e (λ has. failed_keep l tx s a (parts_of l tx allowed) has)
