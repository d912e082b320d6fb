-- What holds where none of the rules on ids, inputs and collateral is broken.
use Rattle.std.proofs.Common.{◌≡◌, ℕ, ◌+◌, List, [], ◌++◌, Bool, true, false, ◌&&◌, nat_lt, is_none, refl, ap, sym, ◌∙◌, arith}
use Rattle.std.specs.List.{IsDistinct}
use Rattle.std.proofs.lemmas.Bool.{ltb-false, or_parts}
use Rattle.std.specs.Option.{option_to_list}
use Rattle.maps.specs.Maps.{has_member}
use Rattle.gov_ids.specs.declared.OutRef.{OutRef}
use Rattle.gov_ids.specs.Orders.{txid_cmp}
use Rattle.gov_ids.specs.Same.{same_outref}
use Rattle.tx_records.specs.declared.tx.Scripts.{Scripts}
use Rattle.tx_records.specs.declared.tx.Tx.{Tx}
use Rattle.ledger_model.specs.Ledger.{Ledger, output_at}
use Rattle.ledger_model.specs.Checks.{Check, per_place}
use Rattle.ledger_model.specs.UtxoRules.{utxo_checks, id_checks, input_checks, fee_checks, output_checks, collateral_list_checks, collateral_checks, collateral_sum_checks, treasury_checks, collateral_assets_checks, unless_failed, has_scripts, is_collateral_too_small, is_collateral_uneven, collateral_sum, collateral_left, returned, is_spent_before}
use Rattle.ledger_model.specs.Broken.{tx_checks, body_checks, is_allowed, first_broken}
use Rattle.ledger_model.proofs.Unbroken.{IsUnbroken, unbroken_from, unbroken-append, unbroken-cons}
use Rattle.tx_balance.proofs.Outputs.{all_fresh}

module _ (l : Ledger) (tx : Tx) where
  abbrev inputs_front : List Check
  inputs_front = id_checks l tx ++ per_place (input_checks l tx) tx.inputs

  abbrev fee_front : List Check
  fee_front = inputs_front ++ fee_checks l tx

  abbrev outputs_front : List Check
  outputs_front = fee_front ++ per_place (output_checks l tx) (tx.outputs ++ option_to_list tx.collateral_return)

  abbrev list_front : List Check
  list_front = outputs_front ++ collateral_list_checks l tx

  abbrev collateral_front : List Check
  collateral_front = list_front ++ per_place (collateral_checks l tx) tx.collateral

  abbrev sum_front : List Check
  sum_front = collateral_front ++ collateral_sum_checks l tx

  abbrev treasury_front : List Check
  treasury_front = sum_front ++ unless_failed tx.scripts (treasury_checks l tx)

  -- the parts that the laws use
  pub record IsPassed : Type 0 where
    pub id : IsUnbroken (id_checks l tx)
    pub inputs : IsUnbroken (per_place (input_checks l tx) tx.inputs)
    pub collateral : IsUnbroken (per_place (collateral_checks l tx) tx.collateral)
    pub sum : IsUnbroken (collateral_sum_checks l tx)
    pub assets : IsUnbroken (collateral_assets_checks l tx)
    pub body : IsUnbroken (unless_failed tx.scripts (body_checks l tx))

  pub parts_of : is_allowed l tx ≡ true → IsPassed
  parts_of h =
      let all : IsUnbroken (tx_checks l tx) = record { none = unbroken_from (first_broken l tx) h } in
      let halves = unbroken-append (utxo_checks l tx) (unless_failed tx.scripts (body_checks l tx)) all in
      let last = unbroken-append treasury_front (collateral_assets_checks l tx) halves.0 in
      let a = unbroken-append sum_front (unless_failed tx.scripts (treasury_checks l tx)) last.0 in
      let b = unbroken-append collateral_front (collateral_sum_checks l tx) a.0 in
      let c = unbroken-append list_front (per_place (collateral_checks l tx) tx.collateral) b.0 in
      let d = unbroken-append outputs_front (collateral_list_checks l tx) c.0 in
      let e = unbroken-append fee_front (per_place (output_checks l tx) (tx.outputs ++ option_to_list tx.collateral_return)) d.0 in
      let f = unbroken-append inputs_front (fee_checks l tx) e.0 in
      let g = unbroken-append (id_checks l tx) (per_place (input_checks l tx) tx.inputs) f.0 in
      record { id = g.0; inputs = g.1; collateral = c.1; sum = b.1; assets = last.1; body = halves.1 }

  -- the id is a new one
  pub id_is_new : IsPassed → has_member txid_cmp l.used tx.id ≡ false
  id_is_new p = (unbroken-cons _ _ p.id).0

  -- each input stands once
  spent_inputs : (i : ℕ) (r : OutRef) → IsUnbroken (input_checks l tx i r) → is_spent_before tx.inputs i r ≡ false
  spent_inputs i r h = (unbroken-cons _ _ (unbroken-cons _ _ h).1).0

  pub inputs_once : IsPassed → IsDistinct same_outref tx.inputs
  inputs_once p = (all_fresh tx.inputs (input_checks l tx) spent_inputs [] tx.inputs refl p.inputs).1

  -- each collateral input stands once
  spent_collateral : (i : ℕ) (r : OutRef) → IsUnbroken (collateral_checks l tx i r) → is_spent_before tx.collateral i r ≡ false
  spent_collateral i r h = (or_parts (is_none (output_at l r)) (is_spent_before tx.collateral i r) (unbroken-cons _ _ h).0).1

  pub collateral_once : IsPassed → IsDistinct same_outref tx.collateral
  collateral_once p = (all_fresh tx.collateral (collateral_checks l tx) spent_collateral [] tx.collateral refl p.collateral).1

  with_scripts : (sc : Scripts) (wrong : Bool) → has_scripts sc ≡ true → (has_scripts sc && wrong) ≡ false → wrong ≡ false
  with_scripts sc wrong e h = sym (ap (λ (b : Bool). b && wrong) e) ∙ h

  -- the collateral is its return and what is left
  pub collateral_split : IsPassed → has_scripts tx.scripts ≡ true → collateral_left l tx + returned tx ≡ collateral_sum l tx
  collateral_split p e =
      let enough : is_collateral_too_small l tx ≡ false = with_scripts tx.scripts (is_collateral_too_small l tx) e (unbroken-cons _ _ p.sum).0 in
      let covers : nat_lt (collateral_sum l tx) (returned tx) ≡ false = (or_parts _ _ enough).0 in
      omega (arith, ltb-false (collateral_sum l tx) (returned tx) covers)

  -- and its return gives back all its assets
  pub collateral_even : IsPassed → has_scripts tx.scripts ≡ true → is_collateral_uneven l tx ≡ false
  collateral_even p e = with_scripts tx.scripts (is_collateral_uneven l tx) e (unbroken-cons _ _ p.assets).0
