-- The rules on references in turn, up to the first that is repeated.
use Rattle.std.proofs.Common.{◌≡◌, ℕ, ◌+◌, ◌≤◌, List, [], ◌∷◌, ◌++◌, Bool, true, false, cond, Option, Some, None, Result, Ok, Err, find, map, option_map, length, take, refl, sym, ap, ◌∙◌, arith, append_assoc}
use Rattle.std.proofs.lemmas.Bool.{eq-eqb, ne_eqb}
use Rattle.std.proofs.lemmas.List.{length-append, take_at}
use Rattle.std.proofs.lemmas.Option.{same_Some}
use Rattle.std.specs.Prelude.{⊤}
use Rattle.gov_ids.specs.declared.OutRef.{OutRef}
use Rattle.gov_ids.specs.Same.{same_outref}
use Rattle.maps.specs.Words.{among, fronts_from}
use Rattle.tx_records.specs.declared.reply.Rule.{Rule}
use Rattle.ledger_model.proofs.CheckLaws.{answer_then, answer-append}
use Rattle.ledger_model.specs.Checks.{Check, at_place, answer_of, per_place, per_place_from}
use Rattle.ledger_model.specs.UtxoRules.{is_spent_before}
use Rattle.out_refs.proofs.Fronts.{first_repeated_after}
use Rattle.out_refs.specs.Repeated.{first_repeated, is_among_front, place_of}
use Rattle.rule_checks.proofs.Firsts.{answer-at_place}
use Rattle.rule_checks.specs.Places.{answer_at}
use Rattle.utxo_rules.specs.Repeated.{is_at}

-- the first repeated place is not before those that are looked at
found_later : (front rest : List OutRef) (p : ℕ) → first_repeated_after front rest ≡ Some p → length front ≤ p
found_later front [] p e = cc
found_later front (x ∷ rest) p e = by (is_among_front (front, x)) (λ h. found_later (front ++ x ∷ []) rest p h) e
  where
    by : (b : Bool) → (first_repeated_after (front ++ x ∷ []) rest ≡ Some p → length (front ++ x ∷ []) ≤ p)
        → option_map place_of (cond b (Some (front, x)) (find is_among_front (fronts_from (front ++ x ∷ []) rest))) ≡ Some p → length front ≤ p
    by true later e = omega (arith, same_Some _ _ e)
    by false later e = omega (arith, later e, length-append front (x ∷ []))

-- no repeated place is found before the place after x
not_here : (front rest : List OutRef) (x : OutRef) → is_at (first_repeated_after (front ++ x ∷ []) rest) (length front) ≡ false
not_here front rest x = by (first_repeated_after (front ++ x ∷ []) rest) (found_later (front ++ x ∷ []) rest)
  where
    by : (o : Option ℕ) → ((p : ℕ) → o ≡ Some p → length (front ++ x ∷ []) ≤ p) → is_at o (length front) ≡ false
    by None later = refl
    by (Some p) later = ne_eqb p (length front) (λ e. omega (arith, e, later p refl, length-append front (x ∷ [])))

-- where an item breaks a rule, those after it are not looked at
halts : (i : ℕ) (a b c : Result ⊤ Rule) → (a ≡ Ok tt → ⊥) → answer_then (answer_at i a) b ≡ answer_then (answer_at i a) c
halts i (Ok done) b c broken = absurd (broken refl)
halts i (Err r) b c broken = refl

answer-cons : (checks : ℕ → OutRef → List Check) (i : ℕ) (x : OutRef) (rest : List OutRef)
    → answer_of (per_place_from checks i (x ∷ rest)) ≡ answer_then (answer_at i (answer_of (checks i x))) (answer_of (per_place_from checks (i + 1) rest))
answer-cons checks i x rest =
    answer-append (map (at_place i) (checks i x)) (per_place_from checks (i + 1) rest)
    ∙ ap (λ (a : Result ⊤ Rule). answer_then a (answer_of (per_place_from checks (i + 1) rest))) (answer-at_place i (checks i x))

-- the rules on a reference by whether it is repeated, one of which it breaks where it is
module _ (checks : Bool → OutRef → List Check) (stops : (r : OutRef) → answer_of (checks true r) ≡ Ok tt → ⊥) (refs : List OutRef) where
  abbrev by_front : ℕ → OutRef → List Check
  by_front i r = checks (is_spent_before refs i r) r

  abbrev by_first : Option ℕ → ℕ → OutRef → List Check
  by_first o i r = checks (is_at o i) r

  abbrev answer_after : List OutRef → List OutRef → (ℕ → OutRef → List Check) → Result ⊤ Rule
  answer_after front rest rules = answer_of (per_place_from rules (length front) rest)

  step : (front rest : List OutRef) (x : OutRef) (b : Bool) → is_spent_before refs (length front) x ≡ b → (o : Option ℕ)
      → o ≡ option_map place_of (cond b (Some (front, x)) (find is_among_front (fronts_from (front ++ x ∷ []) rest)))
      → answer_after (front ++ x ∷ []) rest by_front ≡ answer_after (front ++ x ∷ []) rest (by_first (first_repeated_after (front ++ x ∷ []) rest))
      → answer_after front (x ∷ rest) by_front ≡ answer_after front (x ∷ rest) (by_first o)
  step front rest x true spent o found after =
      let here : is_at o (length front) ≡ true = ap (λ (p : Option ℕ). is_at p (length front)) found ∙ eq-eqb (length front) (length front) refl in
      answer-cons by_front (length front) x rest
      ∙ ap (λ (b : Bool). answer_then (answer_at (length front) (answer_of (checks b x))) (answer_of (per_place_from by_front (length front + 1) rest))) spent
      ∙ halts (length front) (answer_of (checks true x)) _ _ (stops x)
      ∙ sym (answer-cons (by_first o) (length front) x rest
      ∙ ap (λ (b : Bool). answer_then (answer_at (length front) (answer_of (checks b x))) (answer_of (per_place_from (by_first o) (length front + 1) rest))) here)
  step front rest x false spent o found after =
      let long : length (front ++ x ∷ []) ≡ length front + 1 = length-append front (x ∷ []) in
      let here : is_at o (length front) ≡ false = ap (λ (p : Option ℕ). is_at p (length front)) found ∙ not_here front rest x in
      let rest_same : answer_of (per_place_from by_front (length front + 1) rest) ≡ answer_of (per_place_from (by_first o) (length front + 1) rest) =
      ap (λ (n : ℕ). answer_of (per_place_from by_front n rest)) (sym long)
      ∙ after
      ∙ (λ j. answer_of (per_place_from (by_first (sym found j)) (long j) rest)) in
      answer-cons by_front (length front) x rest
      ∙ (λ j. answer_then (answer_at (length front) (answer_of (checks (spent j) x))) (rest_same j))
      ∙ sym (answer-cons (by_first o) (length front) x rest
      ∙ ap (λ (b : Bool). answer_then (answer_at (length front) (answer_of (checks b x))) (answer_of (per_place_from (by_first o) (length front + 1) rest))) here)

  same_after : (front rest : List OutRef) → refs ≡ front ++ rest → answer_after front rest by_front ≡ answer_after front rest (by_first (first_repeated_after front rest))
  same_after front [] e = refl
  same_after front (x ∷ rest) e =
      let spent : is_spent_before refs (length front) x ≡ among same_outref x front =
      ap (λ (l : List OutRef). among same_outref x (take (length front) l)) e ∙ ap (among same_outref x) (take_at front (x ∷ rest) (length front) refl) in
      step front rest x (among same_outref x front) spent (first_repeated_after front (x ∷ rest)) refl
      (same_after (front ++ x ∷ []) rest (e ∙ sym (append_assoc front (x ∷ []) rest)))

  -- the first repeated place says as much as looking back from each
  pub same_answer : answer_of (per_place (λ i r. checks (is_spent_before refs i r) r) refs) ≡ answer_of (per_place (λ i r. checks (is_at (first_repeated refs) i) r) refs)
  same_answer = same_after [] refs refl
