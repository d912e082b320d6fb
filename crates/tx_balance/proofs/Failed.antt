-- A transaction whose scripts failed moves the pots by its flows.
use Rattle.std.proofs.Common.{◌≡◌, ℕ, ◌+◌, List, [], ◌∷◌, ◌++◌, true, cond, Option, Some, None, map, sum_by, length, refl, ap, arith}
use Rattle.std.specs.Option.{option_to_list}
use Rattle.maps.specs.Maps.{value_at, sum_values, with_values, without_keys}
use Rattle.maps.specs.Words.{amount}
use Rattle.gov_ids.specs.declared.OutRef.{OutRef}
use Rattle.gov_ids.specs.Orders.{outref_cmp}
use Rattle.book_records.specs.declared.Output.{Output}
use Rattle.tx_records.specs.declared.tx.Scripts.{Scripts}
use Rattle.tx_records.specs.declared.tx.Scripts.TheVariants.{Absent, Passed, Failed}
use Rattle.tx_records.specs.declared.tx.Tx.{Tx}
use Rattle.tx_records.specs.declared.tx.TxOutput.{TxOutput}
use Rattle.ledger_model.specs.Ledger.{Ledger, output_at}
use Rattle.ledger_model.specs.UtxoRules.{lovelace_at, is_failed, has_scripts, collateral_left, returned}
use Rattle.ledger_model.specs.Supply.{pots_of}
use Rattle.ledger_model.specs.Flows.{Pot, outputs, deposits, rewards, fees, donations, treasury, reserves, hand, Flow, flow, End, source, sink, sum_at, flows_of_failed, flows_of_scripts}
use Rattle.ledger_model.specs.Moves.{IsMovedBy, held_in}
use Rattle.ledger_model.specs.Transaction.{after_failed, after_scripts, made_return, kept_output}
use Rattle.ledger_model.specs.Sound.{IsSound}
use Rattle.tx_balance.specs.Laws.{FailedBalances}
use Rattle.ledger_model.proofs.FlowSums.{is_end, sum-cons, sum-append, sum-map}
use Rattle.tx_balance.proofs.Outputs.{made_from, made_once, made_not_there, sum_values-made, outputs_settled, not_there_after}
use Rattle.tx_balance.proofs.OutputParts.{IsPassed, parts_of, id_is_new, collateral_once, collateral_split}

abbrev lovelace_of : TxOutput → ℕ
lovelace_of o = o.lovelace

module _ (l : Ledger) (tx : Tx) where
  abbrev spent : List Flow
  spent = map (λ r. flow outputs hand (lovelace_at l r)) tx.collateral

  abbrev given_back : List Flow
  given_back = map (λ (o : TxOutput). flow hand outputs o.lovelace) (option_to_list tx.collateral_return)

  abbrev all_spent : ℕ
  all_spent = sum_by (lovelace_at l) tx.collateral

  abbrev all_returned : ℕ
  all_returned = sum_by lovelace_of (option_to_list tx.collateral_return)

  failed_sum : (end : End) (p : Pot) → sum_at end p (flows_of_failed l tx)
      ≡ cond (is_end end p outputs hand) all_spent 0 + cond (is_end end p hand outputs) all_returned 0
      + cond (is_end end p hand fees) (collateral_left l tx) 0
  failed_sum end p = omega (
    arith,
    sum-append end p (spent ++ given_back) (flow hand fees (collateral_left l tx) ∷ []),
    sum-append end p spent given_back,
    sum-map end p outputs hand (lovelace_at l) tx.collateral,
    sum-map end p hand outputs lovelace_of (option_to_list tx.collateral_return),
    sum-cons end p (flow hand fees (collateral_left l tx)) [],
  )

  returned_sum_by : (o : Option TxOutput) → tx.collateral_return ≡ o → sum_by lovelace_of (option_to_list o) ≡ returned (record tx { collateral_return = o })
  returned_sum_by None e = refl
  returned_sum_by (Some o) e = omega arith

  pub returned_sum : all_returned ≡ returned tx
  returned_sum = returned_sum_by tx.collateral_return refl

  made_by : (o : Option TxOutput) → map (λ (o : TxOutput). (record { tx = tx.id; index = length tx.outputs }, kept_output o)) (option_to_list o) ≡ made_from tx.id kept_output (length tx.outputs) (option_to_list o)
  made_by None = refl
  made_by (Some o) = refl

  pub made : made_return tx ≡ made_from tx.id kept_output (length tx.outputs) (option_to_list tx.collateral_return)
  made = made_by tx.collateral_return

  -- what collateral and its return hold of anything, beside what there was
  pub collateral_settled : IsSound l → IsPassed l tx → (f : Output → ℕ)
      → sum_values f (after_failed l tx).outputs + sum_by (λ r. amount f (output_at l r)) tx.collateral ≡ sum_values f l.outputs + sum_by (λ o. f (kept_output o)) (option_to_list tx.collateral_return)
  collateral_settled s p f =
      let n : ℕ = length tx.outputs in
      let back : List TxOutput = option_to_list tx.collateral_return in
      let settled =
      outputs_settled f l tx.collateral (made_from tx.id kept_output n back) s (collateral_once l tx p) (made_once tx.id kept_output n back)
      (made_not_there tx.id kept_output (λ r. value_at outref_cmp (without_keys outref_cmp tx.collateral l.outputs) r ≡ None) (λ i. not_there_after l tx.id i tx.collateral s (id_is_new l tx p)) n back) in
      let there = ap (λ (es : List (OutRef × Output)). sum_values f (with_values outref_cmp es (without_keys outref_cmp tx.collateral l.outputs))) made in
      omega (arith, settled, there, sum_values-made tx.id kept_output f n back)

  failed_moves : IsSound l → IsPassed l tx → has_scripts tx.scripts ≡ true → IsMovedBy (flows_of_failed l tx) (pots_of l) (pots_of (after_failed l tx))
  failed_moves s once e =
      let settled = collateral_settled s once (λ (o : Output). o.lovelace) in
      λ p. elim p as (λ p. held_in p (pots_of (after_failed l tx)) + sum_at source p (flows_of_failed l tx) ≡ held_in p (pots_of l) + sum_at sink p (flows_of_failed l tx)) [
        | outputs ↦ omega (arith, failed_sum sink outputs, failed_sum source outputs, settled)
        | deposits ↦ omega (arith, failed_sum sink deposits, failed_sum source deposits)
        | rewards ↦ omega (arith, failed_sum sink rewards, failed_sum source rewards)
        | fees ↦ omega (arith, failed_sum sink fees, failed_sum source fees)
        | donations ↦ omega (arith, failed_sum sink donations, failed_sum source donations)
        | treasury ↦ omega (arith, failed_sum sink treasury, failed_sum source treasury)
        | reserves ↦ omega (arith, failed_sum sink reserves, failed_sum source reserves)
        | hand ↦ omega (arith, failed_sum sink hand, failed_sum source hand, returned_sum, collateral_split l tx once e)
      ]

  failed_by : (sc : Scripts) → is_failed sc ≡ true → (has_scripts sc ≡ true → IsMovedBy (flows_of_failed l tx) (pots_of l) (pots_of (after_failed l tx)))
      → IsMovedBy (flows_of_scripts sc l tx) (pots_of l) (pots_of (after_scripts sc l tx))
  failed_by Absent e h = cc
  failed_by Passed e h = cc
  failed_by Failed e h = h refl

pub failed_balances : FailedBalances
failed_balances l tx s e allowed = failed_by l tx tx.scripts e (λ has. failed_moves l tx s (parts_of l tx allowed) has)
