-- The outputs that are taken and those that are made name all that differs.
use Rattle.std.proofs.Common.{◌≡◌, ℕ, zero, suc, ◌+◌, ◌<◌, ◌≤◌, List, [], ◌∷◌, ◌++◌, false, cond, Option, Some, None, drop, length, map, append_assoc, refl, ap, sym, ◌∙◌, arith}
use Rattle.std.specs.List.{AllByRecursion}
use Rattle.std.specs.Map.{keys_of}
use Rattle.std.specs.Option.{option_to_list}
use Rattle.std.proofs.lemmas.List.{at_drop_all}
use Rattle.book_records.specs.declared.Output.{Output}
use Rattle.gov_ids.proofs.Totals.{outref_total}
use Rattle.gov_ids.specs.declared.OutRef.{OutRef}
use Rattle.gov_ids.specs.declared.TxId.{TxId}
use Rattle.gov_ids.specs.Orders.{outref_cmp, txid_cmp}
use Rattle.ledger_model.specs.Ledger.{Ledger}
use Rattle.ledger_model.specs.Sound.{IsSound}
use Rattle.ledger_model.specs.Transaction.{kept_output, made_outputs, made_return}
use Rattle.maps.proofs.Kept.{keys_of-each}
use Rattle.maps.proofs.Lookups.{value_at-without_keys}
use Rattle.maps.proofs.Several.{value_at-with_values_other}
use Rattle.maps.specs.Maps.{has_member, value_at, with_values, without_keys}
use Rattle.tx_balance.proofs.Outputs.{made_from, made_not_there, not_there}
use Rattle.tx_records.specs.declared.tx.Tx.{Tx}
use Rattle.tx_records.specs.declared.tx.TxOutput.{TxOutput}
use Rattle.undo_model.specs.Holds.{HoldsOld}
use Rattle.undo_before.specs.Old.{none_at, old_at, old_outputs}
use Rattle.undo_before.proofs.Maps.{all-append, in_neither, keys_of-append, values_at, values_none}

abbrev pub Outs : Type 0
Outs = List (OutRef × Output)

-- none of these is there
abbrev pub AreAbsent : Outs → List OutRef → Type 0
AreAbsent outputs refs = AllByRecursion (λ (r : OutRef). value_at outref_cmp outputs r ≡ None) refs

keys_of-old : (taken : List OutRef) (made outputs : Outs) → keys_of (old_outputs taken made outputs) ≡ taken ++ keys_of made
keys_of-old taken made outputs =
    keys_of-append (old_at outref_cmp outputs taken) (none_at (keys_of made))
    ∙ (λ i. keys_of-each (value_at outref_cmp outputs) taken i ++ keys_of-each {X = Option Output} (λ (r : OutRef). None) (keys_of made) i)

pub outputs_held : (taken : List OutRef) (made outputs : Outs) → AreAbsent outputs (keys_of made)
    → HoldsOld outref_cmp (old_outputs taken made outputs) outputs (with_values outref_cmp made (without_keys outref_cmp taken outputs))
outputs_held taken made outputs absent = record {
  values = all-append (λ (o : OutRef × Option Output). value_at outref_cmp outputs o.0 ≡ o.1) (old_at outref_cmp outputs taken) (none_at (keys_of made))
      (values_at outref_cmp outputs taken) (values_none outref_cmp outputs (keys_of made) absent);
  others = λ r other.
      let parts = in_neither outref_cmp taken (keys_of made) r (ap (λ (ks : List OutRef). has_member outref_cmp ks r) (sym (keys_of-old taken made outputs)) ∙ other) in
      value_at-with_values_other outref_total made (without_keys outref_cmp taken outputs) r parts.1
      ∙ value_at-without_keys outref_total taken outputs r
      ∙ ap (λ b. cond b None (value_at outref_cmp outputs r)) parts.0;
}

module _ (l : Ledger) (tx : Tx) (s : IsSound l) (new : has_member txid_cmp l.used tx.id ≡ false) where
  -- an id that is not used has no output
  here : (i : ℕ) → value_at outref_cmp l.outputs (record { tx = tx.id; index = i }) ≡ None
  here i = not_there tx.id i l.used l.outputs new s.ids_used

  pub passed_absent : AreAbsent l.outputs (keys_of (made_outputs tx))
  passed_absent = made_not_there tx.id kept_output (λ r. value_at outref_cmp l.outputs r ≡ None) here 0 tx.outputs

  return_absent : (o : Option TxOutput) (n : ℕ) → AreAbsent l.outputs (keys_of (map (λ (x : TxOutput). (record { tx = tx.id; index = n }, kept_output x)) (option_to_list o)))
  return_absent None n = tt
  return_absent (Some x) n = (here n, tt)

  pub failed_absent : AreAbsent l.outputs (keys_of (made_return tx))
  failed_absent = return_absent tx.collateral_return (length tx.outputs)

-- the references from the k-th output on, with one index more
pub next_made : (id : TxId) (xs : List TxOutput) (i k : ℕ) → k < length xs
    → keys_of (made_from id kept_output i (drop k xs)) ≡ (record { tx = id; index = i }) ∷ keys_of (made_from id kept_output (i + 1) (drop (k + 1) xs))
next_made id [] i k lt = absurd (omega arith)
next_made id (x ∷ xs) i zero lt = refl
next_made id (x ∷ xs) i (suc k) lt =
    let more : suc (k + 1) ≡ suc k + 1 = omega arith in
    next_made id xs i k (omega arith)
    ∙ ap (λ (n : ℕ). (record { tx = id; index = i }) ∷ keys_of (made_from id kept_output (i + 1) (drop n (x ∷ xs)))) more

-- no reference is past the last output
pub all_made : (id : TxId) (xs : List TxOutput) (i k : ℕ) → length xs ≤ k → keys_of (made_from id kept_output i (drop k xs)) ≡ []
all_made id xs i k lt = at_drop_all (λ (ys : List TxOutput). keys_of (made_from id kept_output i ys)) xs k lt

-- one more reference is added
pub made_step : (id : TxId) (xs : List TxOutput) (i : ℕ) (olds new : List (OutRef × Option Output)) (all : List (OutRef × Option Output)) → i < length xs
    → new ≡ olds ++ (record { tx = id; index = i }, None) ∷ [] → olds ++ none_at (keys_of (made_from id kept_output i (drop i xs))) ≡ all
    → new ++ none_at (keys_of (made_from id kept_output (i + 1) (drop (i + 1) xs))) ≡ all
made_step id xs i olds new all lt pushed before =
    let rest : List (OutRef × Option Output) = none_at (keys_of (made_from id kept_output (i + 1) (drop (i + 1) xs))) in
    ap (λ (os : List (OutRef × Option Output)). os ++ rest) pushed
    ∙ append_assoc olds ((record { tx = id; index = i }, None) ∷ []) rest
    ∙ ap (λ (rs : List OutRef). olds ++ none_at rs) (sym (next_made id xs i i lt))
    ∙ before
