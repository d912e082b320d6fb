-- The rules on a proposal, part after part: the first broken one, and what is told of all.
use Rattle.std.proofs.Common.{◌≡◌, ℕ, List, ◌++◌, Result, Ok, Err, map, ap, sym, ◌∙◌}
use Rattle.std.proofs.lemmas.List.{map-append}
use Rattle.std.specs.Prelude.{⊤}
use Rattle.tx_records.specs.declared.reply.Rule.{Rule}
use Rattle.tx_records.specs.declared.tx.ProposalRecord.{ProposalRecord}
use Rattle.ledger_model.specs.Checks.{Check, answer_of, at_place}
use Rattle.ledger_model.specs.Ledger.{Ledger}
use Rattle.ledger_model.specs.ProposalRules.{action_checks, proposal_checks}
use Rattle.ledger_model.proofs.CheckLaws.{answer_then, answer-append}
use Rattle.rule_checks.specs.Told.{told_with}
use Rattle.rule_checks.proofs.Telling.{told_both}
use Rattle.proposal_rules.specs.Parts.{deposit_checks, lineage_checks}

module _ (l d : Ledger) (n : ℕ) (p : ProposalRecord) where
  -- the rules of its action and what it follows
  abbrev later_checks : List Check
  later_checks = action_checks l d p.action ++ lineage_checks l p.action

  by_parts : answer_of (proposal_checks l d n p) ≡ answer_then (answer_of (deposit_checks l d p)) (answer_then (answer_of (action_checks l d p.action)) (answer_of (lineage_checks l p.action)))
  by_parts =
      answer-append (deposit_checks l d p) later_checks
      ∙ ap (λ (a : Result ⊤ Rule). answer_then (answer_of (deposit_checks l d p)) a) (answer-append (action_checks l d p.action) (lineage_checks l p.action))

  -- the first part breaks a rule
  pub deposit_first : (r : Rule) → Err r ≡ answer_of (deposit_checks l d p) → Err r ≡ answer_of (proposal_checks l d n p)
  deposit_first r e = ap (λ (a : Result ⊤ Rule). answer_then a (answer_then (answer_of (action_checks l d p.action)) (answer_of (lineage_checks l p.action)))) e ∙ sym by_parts

  -- it breaks none, and the action does
  pub action_next : (r : Rule) → Ok tt ≡ answer_of (deposit_checks l d p) → Err r ≡ answer_of (action_checks l d p.action) → Err r ≡ answer_of (proposal_checks l d n p)
  action_next r e f =
      ap (λ (a : Result ⊤ Rule). answer_then a (answer_of (lineage_checks l p.action))) f
      ∙ ap (λ (a : Result ⊤ Rule). answer_then a (answer_then (answer_of (action_checks l d p.action)) (answer_of (lineage_checks l p.action)))) e
      ∙ sym by_parts

  -- neither does
  pub lineage_last : (answer : Result ⊤ Rule) → Ok tt ≡ answer_of (deposit_checks l d p) → Ok tt ≡ answer_of (action_checks l d p.action) → answer ≡ answer_of (lineage_checks l p.action)
      → answer ≡ answer_of (proposal_checks l d n p)
  lineage_last answer e f g =
      g
      ∙ ap (λ (a : Result ⊤ Rule). answer_then a (answer_of (lineage_checks l p.action))) f
      ∙ ap (λ (a : Result ⊤ Rule). answer_then a (answer_then (answer_of (action_checks l d p.action)) (answer_of (lineage_checks l p.action)))) e
      ∙ sym by_parts

  -- the checks of a part at the proposal's place
  abbrev pub at_its : List Check → List Check
  at_its cs = map (at_place n) cs

  placed_parts : at_its (deposit_checks l d p) ++ (at_its (action_checks l d p.action) ++ at_its (lineage_checks l p.action)) ≡ at_its (proposal_checks l d n p)
  placed_parts =
      ap (λ (cs : List Check). at_its (deposit_checks l d p) ++ cs) (sym (map-append (at_place n) (action_checks l d p.action) (lineage_checks l p.action)))
      ∙ sym (map-append (at_place n) (deposit_checks l d p) later_checks)

  -- what is told of each part in turn is told of all
  pub told_parts : (t0 t1 t2 t3 : List Rule) → t1 ≡ told_with (at_its (deposit_checks l d p)) t0 → t2 ≡ told_with (at_its (action_checks l d p.action)) t1
      → t3 ≡ told_with (at_its (lineage_checks l p.action)) t2 → t3 ≡ told_with (at_its (proposal_checks l d n p)) t0
  told_parts t0 t1 t2 t3 e f g =
      g
      ∙ ap (λ (t : List Rule). told_with (at_its (lineage_checks l p.action)) t) f
      ∙ told_both (at_its (action_checks l d p.action)) (at_its (lineage_checks l p.action)) t1
      ∙ ap (λ (t : List Rule). told_with (at_its (action_checks l d p.action) ++ at_its (lineage_checks l p.action)) t) e
      ∙ told_both (at_its (deposit_checks l d p)) (at_its (action_checks l d p.action) ++ at_its (lineage_checks l p.action)) t0
      ∙ ap (λ (cs : List Check). told_with cs t0) placed_parts
