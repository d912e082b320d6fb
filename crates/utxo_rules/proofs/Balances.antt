-- The answer of the rule on the balance of lovelace, by two sums that are what the transaction takes and gives.
use Rattle.std.proofs.Common.{◌≡◌, ◌≢◌, ◌==◌, ℕ, [], ◌∷◌, Bool, true, false, not, Result, Ok, Err, refl, ap, sym, ◌∙◌}
use Rattle.std.specs.Prelude.{⊤}
use Rattle.std.proofs.lemmas.Bool.{eq-eqb, eqb-true}
use Rattle.tx_records.specs.declared.reply.Rule.{Rule}
use Rattle.tx_records.specs.declared.rules.TheConstants.{NOT_BALANCED}
use Rattle.tx_records.specs.declared.tx.Tx.{Tx}
use Rattle.tx_records.specs.Rules.{rule_keeping_two}
use Rattle.ledger_model.specs.Broken.{consumed, produced}
use Rattle.ledger_model.specs.Checks.{answer_of, breaks_keeping_two}
use Rattle.ledger_model.specs.Ledger.{Ledger}
use Rattle.utxo_rules.specs.Plain.{lovelace_checks}

unequal_by : (a b : ℕ) (t : Bool) → (a == b) ≡ t → a ≢ b → Err (rule_keeping_two NOT_BALANCED a b) ≡ answer_of (breaks_keeping_two NOT_BALANCED a b (not t) ∷ [])
unequal_by a b true e n = absurd (n (eqb-true a b e))
unequal_by a b false e n = refl

unequal : (a b : ℕ) → a ≢ b → Err (rule_keeping_two NOT_BALANCED a b) ≡ answer_of (breaks_keeping_two NOT_BALANCED a b (not (a == b)) ∷ [])
unequal a b n = unequal_by a b (a == b) refl n

equal : (a b : ℕ) → a ≡ b → Ok tt ≡ answer_of (breaks_keeping_two NOT_BALANCED a b (not (a == b)) ∷ [])
equal a b e = ap (λ (t : Bool). answer_of (breaks_keeping_two NOT_BALANCED a b (not t) ∷ [])) (sym (eq-eqb a b e))

module _ (l : Ledger) (tx : Tx) (a b : ℕ) (takes : a ≡ consumed l tx) (gives : b ≡ produced l tx) where
  pub unbalanced : (r : Rule) → r ≡ rule_keeping_two NOT_BALANCED a b → a ≢ b → Err r ≡ answer_of (lovelace_checks l tx)
  unbalanced r is n = ap (λ (x : Rule). let e : Result ⊤ Rule = Err x in e) is ∙ unequal a b n ∙ (λ i. answer_of (breaks_keeping_two NOT_BALANCED (takes i) (gives i) (not (takes i == gives i)) ∷ []))

  pub balanced : a ≡ b → Ok tt ≡ answer_of (lovelace_checks l tx)
  balanced e = equal a b e ∙ (λ i. answer_of (breaks_keeping_two NOT_BALANCED (takes i) (gives i) (not (takes i == gives i)) ∷ []))
