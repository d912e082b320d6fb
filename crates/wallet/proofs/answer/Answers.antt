use Rattle.std.proofs.Common.{◌≡◌, IfOk, subst}
use Rattle.tx_records.specs.declared.tx.Tx.{Tx}
use Rattle.wallet.specs.Asking.{after_answer, answer_line}
use Rattle.wallet.proofs.answer.Goals as goal

pub returns-clause-text : goal.returns-clause-text
returns-clause-text g c =
    subst (λ (tx : Tx). IfOk c.answer_about.result (λ _. c.answer_about.new.text.items ≡ answer_line c.args.question (g.A.Asked.world c.args.asked) tx))
    c.in_ok-tx.ensures c.answer_about.ensures.text

pub returns-clause-next : goal.returns-clause-next
returns-clause-next g c =
    subst (λ (tx : Tx). IfOk c.answer_about.result (λ next. g.A.Asked.world next ≡ after_answer (g.A.Asked.world c.args.asked) tx))
    c.in_ok-tx.ensures c.answer_about.ensures.next
