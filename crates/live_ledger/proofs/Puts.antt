-- The outputs of a transaction are put into a book one by one, and others are taken.
use Rattle.std.proofs.Common.{◌≡◌, ℕ, ◌+◌, ◌<◌, List, [], ◌∷◌, None, length, get_or, drop, sum_by, subst, ap, sym, ◌∙◌, arith}
use Rattle.std.proofs.lemmas.List.{drop_more, at_drop_more}
use Rattle.std.proofs.lemmas.List.Sums.{sum_by-drop_more}
use Rattle.book_records.specs.declared.Output.{Output}
use Rattle.book_records.specs.Outputs.{lovelace_in}
use Rattle.gov_ids.specs.declared.OutRef.{OutRef}
use Rattle.gov_ids.specs.declared.TxId.{TxId}
use Rattle.gov_ids.specs.Orders.{outref_cmp}
use Rattle.gov_ids.proofs.Totals.{outref_total}
use Rattle.gov_ids.proofs.Exacts.{outref_exact}
use Rattle.tx_records.specs.declared.tx.TxOutput.{TxOutput}
use Rattle.ledger_model.specs.Transaction.{kept_output}
use Rattle.tx_balance.proofs.Outputs.{made_from}
use Rattle.maps.proofs.Several.{without_keys_more, without_keys_none}
use Rattle.maps.proofs.Fresh.{AreFresh}
use Rattle.maps.proofs.Sums.{sum_values-with_value_absent}
use Rattle.maps.specs.Maps.{IsMap, without_key, without_keys, value_at, with_value, with_values}
use Rattle.utxo_set.specs.Utxos.{Utxos}

-- an entry more
put_sum : (e : OutRef × Output) (es fs : List (OutRef × Output)) → value_at outref_cmp es e.0 ≡ None → fs ≡ with_value outref_cmp e.0 e.1 es → lovelace_in fs ≡ lovelace_in es + e.1.lovelace
put_sum e es fs h p = ap (λ (us : List (OutRef × Output)). lovelace_in us) p ∙ sum_values-with_value_absent (λ o. o.lovelace) outref_cmp e.0 e.1 es h

-- ---- the outputs of a transaction

-- from the place n on
abbrev pub made_at : TxId → ℕ → List TxOutput → List (OutRef × Output)
made_at id n outputs = made_from id kept_output n outputs

-- the lovelace of an output of a transaction
abbrev pub made_lovelace : TxOutput → ℕ
made_lovelace o = o.lovelace

-- the book with these from the place n on
abbrev pub with_made : TxId → ℕ → List TxOutput → Utxos → Utxos
with_made id n outputs u = record u { outputs = with_values outref_cmp (made_at id n outputs) u.outputs }

-- the first of them comes to a key with no value
pub made_absent : (id : TxId) (n : ℕ) (outputs : List TxOutput) (es : List (OutRef × Output)) → 0 < length outputs → AreFresh outref_cmp (made_at id n outputs) es
    → value_at outref_cmp es (record { tx = id; index = n }) ≡ None
made_absent id n [] es l h = absurd (omega arith)
made_absent id n (x ∷ xs) es l h = h.0

module _ (id : TxId) (outputs : List TxOutput) (u v : Utxos) (n i : ℕ) (d : TxOutput) (o : Output) (l : i < length outputs)
    (is : o ≡ kept_output (get_or outputs i d)) (put : v ≡ record u { outputs = with_value outref_cmp (record { tx = id; index = n }) o u.outputs }) where
  abbrev entry : OutRef × Output
  entry = (record { tx = id; index = n }, kept_output (get_or outputs i d))

  put_entry : v ≡ record u { outputs = with_value outref_cmp entry.0 entry.1 u.outputs }
  put_entry = put ∙ ap (λ (x : Output). record u { outputs = with_value outref_cmp entry.0 x u.outputs }) is

  -- after it the others are new
  pub made_fresh : AreFresh outref_cmp (made_at id n (drop i outputs)) u.outputs → AreFresh outref_cmp (made_at id (n + 1) (drop (i + 1) outputs)) v.outputs
  made_fresh h =
      subst (λ (x : Utxos). AreFresh outref_cmp (made_at id (n + 1) (drop (i + 1) outputs)) x.outputs) (sym put_entry)
      (subst (λ (left : List TxOutput). AreFresh outref_cmp (made_at id n left) u.outputs) (drop_more outputs i d l) h).1

  -- and the sum with the others stays
  pub made_sum : (s : ℕ) → value_at outref_cmp u.outputs entry.0 ≡ None → lovelace_in u.outputs + sum_by made_lovelace (drop i outputs) ≡ s → lovelace_in v.outputs + sum_by made_lovelace (drop (i + 1) outputs) ≡ s
  made_sum s h e = omega (arith, put_sum entry u.outputs v.outputs h (ap (λ (x : Utxos). x.outputs) put_entry), sum_by-drop_more made_lovelace outputs i d l)

  -- and the book with the others
  pub made_rest : with_made id (n + 1) (drop (i + 1) outputs) v ≡ with_made id n (drop i outputs) u
  made_rest = sym (at_drop_more (λ (left : List TxOutput). with_made id n left u) outputs i d l ∙ rw put_entry)

-- ---- outputs that are taken

-- the book without the outputs at these references
abbrev pub without : List OutRef → Utxos → Utxos
without rs u = record u { outputs = without_keys outref_cmp rs u.outputs }

pub without_none : (u : Utxos) → without [] u ≡ u
without_none u = ap (λ (es : List (OutRef × Output)). record u { outputs = es }) (without_keys_none outref_cmp u.outputs)

-- without the first of what is left, and then without the others
pub without_next : (rs : List OutRef) (u v : Utxos) (i : ℕ) (d : OutRef) → i < length rs → IsMap outref_cmp u.outputs
    → v ≡ record u { outputs = without_key outref_cmp (get_or rs i d) u.outputs } → without (drop (i + 1) rs) v ≡ without (drop i rs) u
without_next rs u v i d l m p =
    sym (
    at_drop_more (λ (left : List OutRef). without left u) rs i d l
    ∙ ap (λ (es : List (OutRef × Output)). record u { outputs = es }) (without_keys_more outref_total outref_exact (get_or rs i d) (drop (i + 1) rs) u.outputs m)
    ∙ ap (λ (x : Utxos). without (drop (i + 1) rs) x) (sym p)
    )
