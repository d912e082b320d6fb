use Rattle.std.proofs.Common.{◌≡◌, IfOk, subst}
use Rattle.run_model.specs.World.{World}
use Rattle.tx_records.specs.declared.reply.Reply.{Reply}
use Rattle.tx_rule.proofs.Stepped.{kept_accepted, reply_accepted, reply_refused, state_accepted, state_refused}
use Rattle.tx_rule.proofs.apply_tx.Goals as goal

pub returns-in-Ok-clause-ledger : goal.returns-in-Ok-clause-ledger
returns-in-Ok-clause-ledger c =
    subst (λ (w : World). IfOk c.accepted.result (λ (r : World × Reply). r.0 ≡ w))
    (state_accepted c.args.s c.args.tx.now c.in-Ok.ensures.0) c.accepted.ensures.ledger

pub returns-in-Ok-clause-reply : goal.returns-in-Ok-clause-reply
returns-in-Ok-clause-reply c =
    subst (λ (x : Reply). IfOk c.accepted.result (λ (r : World × Reply). r.1 ≡ x))
    (reply_accepted c.args.s.ledger c.args.tx.now c.in-Ok.ensures.0) c.accepted.ensures.reply

pub returns-in-Ok-clause-kept : goal.returns-in-Ok-clause-kept
returns-in-Ok-clause-kept c = λ rule. kept_accepted c.accepted.result c.args.tx.now.scripts rule c.args.s c.accepted.ensures.reply

pub returns-in-Err-Refused-clause-ledger : goal.returns-in-Err-Refused-clause-ledger
returns-in-Err-Refused-clause-ledger c =
    state_refused c.args.s c.args.tx.now c.in-Err-Refused.rule (rw c.in-Err-Refused.field-0-is at c.in-Err-Refused.ensures)

pub returns-in-Err-Refused-clause-reply : goal.returns-in-Err-Refused-clause-reply
returns-in-Err-Refused-clause-reply c =
    reply_refused c.args.s.ledger c.args.tx.now c.in-Err-Refused.rule (rw c.in-Err-Refused.field-0-is at c.in-Err-Refused.ensures)
