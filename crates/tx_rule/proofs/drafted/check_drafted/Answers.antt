use Rattle.std.proofs.Common.{◌≡◌, List, Result, Ok, Err, refl, ap, sym, subst, ◌∙◌, rules}
use Rattle.std.specs.Prelude.{⊤}
use Rattle.tx_records.specs.declared.reply.TxFault.{TxFault}
use Rattle.tx_records.specs.declared.tx.Tx.{Tx}
use Rattle.maps.specs.Words.{or_else}
use Rattle.ledger_model.specs.Broken.{balance_checks}
use Rattle.ledger_model.specs.Checks.{Check, answer_of, first_among, per_place}
use Rattle.ledger_model.specs.Draft.{last_draft}
use Rattle.ledger_model.specs.Ledger.{Ledger}
use Rattle.ledger_model.specs.ProposalRules.{proposal_checks, vote_checks}
use Rattle.rule_checks.proofs.Faults.{answered_later, faulted, told}
use Rattle.rule_checks.specs.Answered.{IsAnswered}
use Rattle.tx_rule.specs.Drafted.{drafted_checks}
use Rattle.tx_rule.proofs.Grouped.{drafted_groups}
use Rattle.tx_rule.proofs.drafted.check_drafted.Goals as goal

abbrev on_proposals : Ledger → Tx → List Check
on_proposals l tx = per_place (proposal_checks l (last_draft l tx)) tx.proposals

abbrev on_votes : Ledger → Tx → List Check
on_votes l tx = per_place (vote_checks l (last_draft l tx)) tx.votes

pub returns-in_err-as_fault : goal.returns-in_err-as_fault
returns-in_err-as_fault c =
    let l = c.args.draft.now.start in
    let tx = c.args.tx.now in
    let e = c.in_err-as_fault.field-0.0 in
    let is : c.from_residual.result ≡ Err e = search rules in
    let proposals = c.check.ensures ∙ ap (λ (d : Ledger). answer_of (per_place (proposal_checks l d) tx.proposals)) c.requires.drafted in
    let rest = or_else (first_among (on_votes l tx)) (first_among (balance_checks l tx)) in
    subst (λ (r : Result ⊤ TxFault). IsAnswered (first_among (drafted_checks l tx)) r) (sym is)
    (faulted (first_among (on_proposals l tx)) rest (first_among (drafted_checks l tx)) e (drafted_groups l tx) (told (on_proposals l tx) c.check.result (Err e) proposals c.in_err-as_fault.ensures))

pub returns-in_err-as_fault-2 : goal.returns-in_err-as_fault-2
returns-in_err-as_fault-2 c =
    let l = c.args.draft.now.start in
    let tx = c.args.tx.now in
    let e = c.in_err-as_fault-2.field-0.0 in
    let is : c.from_residual-in_err-as_fault-2.result ≡ Err e = search rules in
    let proposals = c.check.ensures ∙ ap (λ (d : Ledger). answer_of (per_place (proposal_checks l d) tx.proposals)) c.requires.drafted in
    let votes = c.check-2.ensures ∙ ap (λ (d : Ledger). answer_of (per_place (vote_checks l d) tx.votes)) c.requires.drafted in
    let rest = or_else (first_among (on_votes l tx)) (first_among (balance_checks l tx)) in
    subst (λ (r : Result ⊤ TxFault). IsAnswered (first_among (drafted_checks l tx)) r) (sym is)
    (answered_later (first_among (on_proposals l tx)) rest (first_among (drafted_checks l tx)) (Err e) (drafted_groups l tx)
    (told (on_proposals l tx) c.check.result (Ok tt) proposals c.in_ok-as_fault.ensures)
    (faulted (first_among (on_votes l tx)) (first_among (balance_checks l tx)) rest e refl (told (on_votes l tx) c.check-2.result (Err e) votes c.in_err-as_fault-2.ensures)))

pub returns : goal.returns
returns c =
    let l = c.args.draft.now.start in
    let tx = c.args.tx.now in
    let proposals = c.check.ensures ∙ ap (λ (d : Ledger). answer_of (per_place (proposal_checks l d) tx.proposals)) c.requires.drafted in
    let votes = c.check-2.ensures ∙ ap (λ (d : Ledger). answer_of (per_place (vote_checks l d) tx.votes)) c.requires.drafted in
    let rest = or_else (first_among (on_votes l tx)) (first_among (balance_checks l tx)) in
    answered_later (first_among (on_proposals l tx)) rest (first_among (drafted_checks l tx)) c.balance_of_spent.result (drafted_groups l tx)
    (told (on_proposals l tx) c.check.result (Ok tt) proposals c.in_ok-as_fault.ensures)
    (answered_later (first_among (on_votes l tx)) (first_among (balance_checks l tx)) rest c.balance_of_spent.result refl
    (told (on_votes l tx) c.check-2.result (Ok tt) votes c.in_ok-as_fault-2.ensures) c.balance_of_spent.ensures.rule)
