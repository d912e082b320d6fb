-- The rules that are told of references in turn, each by whether it stood before.
use Rattle.std.proofs.Common.{◌≡◌, ℕ, ◌+◌, ◌<◌, List, [], ◌∷◌, ◌++◌, Bool, true, false, not, Result, Ok, Err, OnOk, map, length, take, drop, get_or, refl, sym, ap, ◌∙◌, add-one, add-zero, append-nil, append_assoc, arith}
use Rattle.std.proofs.Math.Seq.{drop-cons}
use Rattle.std.specs.Prelude.{option_to_list}
use Rattle.gov_ids.specs.declared.OutRef.{OutRef}
use Rattle.gov_ids.specs.Orders.{outref_cmp}
use Rattle.maps.specs.Maps.{has_member}
use Rattle.out_refs.proofs.Fronts.{HasFront}
use Rattle.ledger_model.specs.Checks.{Check, at_place, per_place, per_place_from}
use Rattle.ledger_model.specs.Ledger.{Ledger}
use Rattle.ledger_model.specs.UtxoRules.{collateral_assets_checks, collateral_checks, collateral_list_checks, collateral_sum_checks, fee_checks, id_checks, input_checks, is_spent_before, output_checks, treasury_checks, unless_failed, utxo_checks}
use Rattle.rule_checks.proofs.Telling.{told_both}
use Rattle.rule_checks.specs.Told.{told_with}
use Rattle.tx_records.specs.declared.reply.Rule.{Rule}
use Rattle.tx_records.specs.declared.tx.Tx.{Tx}

-- the reference that stands for the item of an empty list
abbrev pub nowhere : OutRef
nowhere = record { tx = record { 0 = [] }; index = 0 }

not_twice : (b : Bool) → not (not b) ≡ b
not_twice true = refl
not_twice false = refl

-- what a set says of a reference that it did not take
pub repeated_is : (refs : List OutRef) (i : ℕ) (r : OutRef) (seen : List OutRef) (added : Bool) → HasFront seen (take i refs) → added ≡ not (has_member outref_cmp seen r) → not added ≡ is_spent_before refs i r
repeated_is refs i r seen added h e = ap not e ∙ not_twice (has_member outref_cmp seen r) ∙ h r

module _ {X : Type 0} (checks : ℕ → X → List Check) (xs : List X) (i : ℕ) (d : X) (lt : i < length xs) where
  -- the rules on an item are told, and those that are left behind it
  pub item_told : (before after : List Rule) (cs : List Check) → cs ≡ checks i (get_or xs i d) → after ≡ told_with (map (at_place i) cs) before
      → told_with (per_place_from checks (i + 1) (drop (i + 1) xs)) after ≡ told_with (per_place_from checks i (drop i xs)) before
  item_told before after cs is e =
      ap (λ (t : List Rule). told_with (per_place_from checks (i + 1) (drop (i + 1) xs)) t) (e ∙ ap (λ (l : List Check). told_with (map (at_place i) l) before) is)
      ∙ told_both (map (at_place i) (checks i (get_or xs i d))) (per_place_from checks (i + 1) (drop (i + 1) xs)) before
      ∙ ap (λ (k : ℕ). told_with (map (at_place i) (checks i (get_or xs i d)) ++ per_place_from checks (i + 1) (drop k xs)) before) (add-one i)
      ∙ ap (λ (l : List X). told_with (per_place_from checks i l) before) (sym (drop-cons xs i d lt))

-- what holds of an answer that is well, carried on
pub onward : {X E A B : Type 0} (r : Result X E) → (A → B) → OnOk r A → OnOk r B
onward (Ok x) f h = f h
onward (Err e) f h = tt

-- two lists of checks are told one after the other
pub then_told : (a b : List Check) (t0 t1 t2 : List Rule) → t1 ≡ told_with a t0 → t2 ≡ told_with b t1 → t2 ≡ told_with (a ++ b) t0
then_told a b t0 t1 t2 e f = f ∙ ap (λ (t : List Rule). told_with b t) e ∙ told_both a b t0

module _ {X : Type 0} (checks : ℕ → X → List Check) where
  per_place-both : (n : ℕ) (xs ys : List X) → per_place_from checks n (xs ++ ys) ≡ per_place_from checks n xs ++ per_place_from checks (n + length xs) ys
  per_place-both n [] ys = rw add-zero refl
  per_place-both n (x ∷ xs) ys =
      ap (λ (l : List Check). map (at_place n) (checks n x) ++ l) (per_place-both (n + 1) xs ys)
      ∙ sym (append_assoc (map (at_place n) (checks n x)) (per_place_from checks (n + 1) xs) (per_place_from checks (n + 1 + length xs) ys))
      ∙ ap (λ (k : ℕ). (map (at_place n) (checks n x) ++ per_place_from checks (n + 1) xs) ++ per_place_from checks k ys) (omega arith)

  -- one more item is told behind the others
  pub last_told : (xs : List X) (x : X) (t0 t1 t2 : List Rule) → t1 ≡ told_with (per_place checks xs) t0 → t2 ≡ told_with (map (at_place (length xs)) (checks (length xs) x)) t1
      → t2 ≡ told_with (per_place checks (xs ++ x ∷ [])) t0
  last_told xs x t0 t1 t2 e f =
      then_told (per_place checks xs) (map (at_place (length xs)) (checks (length xs) x)) t0 t1 t2 e f
      ∙ ap (λ (l : List Check). told_with (per_place checks xs ++ l) t0) (sym (append-nil (map (at_place (length xs)) (checks (length xs) x))))
      ∙ ap (λ (k : ℕ). told_with (per_place checks xs ++ per_place_from checks k (x ∷ [])) t0) (omega arith)
      ∙ ap (λ (l : List Check). told_with l t0) (sym (per_place-both 0 xs (x ∷ [])))

-- all groups are told in turn
pub all_told : (l : Ledger) (tx : Tx) (t0 t1 t2 t3 t4 t5 t6 t7 t8 t9 : List Rule)
    → t1 ≡ told_with (id_checks l tx) t0 → t2 ≡ told_with (per_place (input_checks l tx) tx.inputs) t1 → t3 ≡ told_with (fee_checks l tx) t2
    → t4 ≡ told_with (per_place (output_checks l tx) (tx.outputs ++ option_to_list tx.collateral_return)) t3 → t5 ≡ told_with (collateral_list_checks l tx) t4
    → t6 ≡ told_with (per_place (collateral_checks l tx) tx.collateral) t5 → t7 ≡ told_with (collateral_sum_checks l tx) t6
    → t8 ≡ told_with (unless_failed tx.scripts (treasury_checks l tx)) t7 → t9 ≡ told_with (collateral_assets_checks l tx) t8
    → t9 ≡ told_with (utxo_checks l tx) t0
all_told l tx t0 t1 t2 t3 t4 t5 t6 t7 t8 t9 e1 e2 e3 e4 e5 e6 e7 e8 e9 =
    let a = id_checks l tx in
    let b = per_place (input_checks l tx) tx.inputs in
    let c = fee_checks l tx in
    let d = per_place (output_checks l tx) (tx.outputs ++ option_to_list tx.collateral_return) in
    let e = collateral_list_checks l tx in
    let f = per_place (collateral_checks l tx) tx.collateral in
    let g = collateral_sum_checks l tx in
    let h = unless_failed tx.scripts (treasury_checks l tx) in
    let i = collateral_assets_checks l tx in
    then_told (a ++ b ++ c ++ d ++ e ++ f ++ g ++ h) i t0 t8 t9
    (then_told (a ++ b ++ c ++ d ++ e ++ f ++ g) h t0 t7 t8
    (then_told (a ++ b ++ c ++ d ++ e ++ f) g t0 t6 t7
    (then_told (a ++ b ++ c ++ d ++ e) f t0 t5 t6
    (then_told (a ++ b ++ c ++ d) e t0 t4 t5
    (then_told (a ++ b ++ c) d t0 t3 t4
    (then_told (a ++ b) c t0 t2 t3
    (then_told a b t0 t1 t2 e1 e2) e3) e4) e5) e6) e7) e8) e9
