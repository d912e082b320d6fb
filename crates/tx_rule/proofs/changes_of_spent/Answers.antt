use Rattle.std.proofs.Common.{◌≡◌, Ok, Err, ap, sym, subst, ◌∙◌}
use Rattle.ledger_model.specs.Broken.{body_checks}
use Rattle.ledger_model.specs.Checks.{first_among}
use Rattle.ledger_model.specs.Ledger.{Ledger}
use Rattle.ledger_model.specs.UtxoRules.{unless_failed}
use Rattle.cert_deleg.specs.of_draft_changes.Changed.{laid_over}
use Rattle.cert_deleg.specs.of_live_ledger.Drafts.{Drafted, draft_of}
use Rattle.rule_checks.specs.Answered.{IsAnswered}
use Rattle.rule_checks.proofs.Faults.{answered_later}
use Rattle.tx_rule.proofs.Grouped.{two_groups}
use Rattle.utxo_rules.specs.Spent.{IsSpent}
use Rattle.tx_rule.proofs.changes_of_spent.Goals as goal

pub judge_body-requires-clause-spent : goal.judge_body-requires-clause-spent
judge_body-requires-clause-spent c = subst (λ (d : Drafted). IsSpent d.start c.args.tx.now.inputs c.args.spent) (sym c.new-draft.ensures) c.requires.spent

pub returns-in-Err : goal.returns-in-Err
returns-in-Err c =
    let l = c.args.s.now.ledger in
    let tx = c.args.tx.now in
    let rule = subst (λ (d : Drafted). IsAnswered (first_among (unless_failed tx.scripts (body_checks d.start tx))) (Err c.in-Err.fault)) c.new-draft.ensures c.in-Err.ensures.rule in
    answered_later _ _ _ (Err c.in-Err.fault) (two_groups l tx) c.requires.checked rule

pub returns-in-Ok : goal.returns-in-Ok
returns-in-Ok c =
    let l = c.args.s.now.ledger in
    let tx = c.args.tx.now in
    let rule = subst (λ (d : Drafted). IsAnswered (first_among (unless_failed tx.scripts (body_checks d.start tx))) (Ok tt)) c.new-draft.ensures c.in-Ok.ensures.rule in
    let at_start : c.new-draft.result.start ≡ l = ap (λ (d : Drafted). d.start) c.new-draft.ensures in (
      answered_later _ _ _ (Ok tt) (two_groups l tx) c.requires.checked rule,
      ap (λ (x : Ledger). laid_over c.into_changes.result x) (sym (c.in-Ok.ensures.start ∙ at_start))
          ∙ c.into_changes.ensures
          ∙ c.in-Ok.ensures.ledger
          ∙ ap (λ (x : Ledger). draft_of x tx) at_start,
    )
