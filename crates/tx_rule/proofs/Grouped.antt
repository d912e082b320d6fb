-- The first broken rule of a transaction, group after group, and what its step makes of the ledger.
use Rattle.std.proofs.Common.{◌≡◌, List, ◌++◌, Option, Some, None, true, is_none, ap, sym, ◌∙◌, append_assoc}
use Rattle.maps.specs.Words.{or_else}
use Rattle.tx_records.specs.declared.reply.Reply.TheVariants.{Refused}
use Rattle.tx_records.specs.declared.reply.Rule.{Rule}
use Rattle.tx_records.specs.declared.tx.Tx.{Tx}
use Rattle.ledger_model.specs.Broken.{balance_checks, body_checks, first_broken, is_allowed}
use Rattle.ledger_model.specs.CertRules.{withdrawal_checks}
use Rattle.ledger_model.specs.Checks.{Check, first_among, per_place}
use Rattle.ledger_model.specs.Draft.{last_draft}
use Rattle.ledger_model.specs.Ledger.{Ledger}
use Rattle.ledger_model.specs.ProposalRules.{proposal_checks, vote_checks}
use Rattle.ledger_model.specs.Transaction.{accepted_as, ledger_after_tx, tx_step, tx_step_by}
use Rattle.ledger_model.specs.UtxoRules.{unless_failed, utxo_checks}
use Rattle.ledger_model.proofs.CheckLaws.{first_among-append}
use Rattle.cert_deleg.specs.of_live_ledger.Standing.{Standing, on_ledger}
use Rattle.tx_rule.specs.Drafted.{drafted_checks}
use Rattle.tx_rule.proofs.Certified.{checks_from}

-- ---- the groups

five : (a b c d e : List Check) → or_else (first_among a) (or_else (first_among b) (first_among (c ++ d ++ e))) ≡ first_among (a ++ b ++ c ++ d ++ e)
five a b c d e =
    let all : a ++ b ++ c ++ d ++ e ≡ a ++ (b ++ (c ++ d ++ e)) = simp append_assoc in
    ap (or_else (first_among a)) (sym (first_among-append b (c ++ d ++ e)))
    ∙ sym (first_among-append a (b ++ (c ++ d ++ e)))
    ∙ ap first_among (sym all)

three : (a b c : List Check) → or_else (first_among a) (or_else (first_among b) (first_among c)) ≡ first_among (a ++ b ++ c)
three a b c =
    let all : a ++ b ++ c ≡ a ++ (b ++ c) = simp append_assoc in
    ap (or_else (first_among a)) (sym (first_among-append b c))
    ∙ sym (first_among-append a (b ++ c))
    ∙ ap first_among (sym all)

module _ (l : Ledger) (tx : Tx) where
  -- the rules on withdrawals, on certificates and after them
  pub body_groups : or_else (first_among (per_place (withdrawal_checks l) tx.withdrawals)) (or_else (first_among (checks_from l tx 0)) (first_among (drafted_checks l tx))) ≡ first_among (body_checks l tx)
  body_groups =
      five (per_place (withdrawal_checks l) tx.withdrawals) (checks_from l tx 0) (per_place (proposal_checks l (last_draft l tx)) tx.proposals) (per_place (vote_checks l (last_draft l tx)) tx.votes)
      (balance_checks l tx)

  -- the rules after the certificates
  pub drafted_groups : or_else (first_among (per_place (proposal_checks l (last_draft l tx)) tx.proposals))
      (or_else (first_among (per_place (vote_checks l (last_draft l tx)) tx.votes)) (first_among (balance_checks l tx))) ≡ first_among (drafted_checks l tx)
  drafted_groups =
      three (per_place (proposal_checks l (last_draft l tx)) tx.proposals) (per_place (vote_checks l (last_draft l tx)) tx.votes) (balance_checks l tx)

  -- the first rules, and those of the body
  pub two_groups : or_else (first_among (utxo_checks l tx)) (first_among (unless_failed tx.scripts (body_checks l tx))) ≡ first_broken l tx
  two_groups = sym (first_among-append (utxo_checks l tx) (unless_failed tx.scripts (body_checks l tx)))

  pub allowed : first_broken l tx ≡ None → is_allowed l tx ≡ true
  allowed e = ap (λ (o : Option Rule). is_none o) e

-- ---- the step

module _ (s : Standing) (tx : Tx) where
  pub stays : (r : Rule) → first_broken s.ledger tx ≡ Some r → s ≡ on_ledger (λ l. (tx_step l tx).0) s
  stays r e = ap (λ (o : Option Rule). record s { ledger = (tx_step_by o s.ledger tx).0 }) (sym e)

  pub refused : (r : Rule) → first_broken s.ledger tx ≡ Some r → Refused r ≡ (tx_step s.ledger tx).1
  refused r e = ap (λ (o : Option Rule). (tx_step_by o s.ledger tx).1) (sym e)

  pub goes_on : (after : Standing) → first_broken s.ledger tx ≡ None → after ≡ on_ledger (λ l. ledger_after_tx l tx) s → after ≡ on_ledger (λ l. (tx_step l tx).0) s
  goes_on after e is = is ∙ ap (λ (o : Option Rule). record s { ledger = (tx_step_by o s.ledger tx).0 }) (sym e)

  pub accepted : first_broken s.ledger tx ≡ None → accepted_as tx.scripts ≡ (tx_step s.ledger tx).1
  accepted e = ap (λ (o : Option Rule). (tx_step_by o s.ledger tx).1) (sym e)
