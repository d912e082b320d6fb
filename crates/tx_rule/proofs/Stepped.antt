-- The state after a transaction, by what its judgement comes to.
use Rattle.std.proofs.Common.{◌≡◌, Option, Some, None, Result, Ok, Err, IfOk, ap, sym, ◌∙◌}
use Rattle.tx_records.specs.declared.reply.Reply.{Reply}
use Rattle.tx_records.specs.declared.reply.Reply.TheVariants.{Refused}
use Rattle.tx_records.specs.declared.reply.Rule.{Rule}
use Rattle.tx_records.specs.declared.tx.Scripts.{Scripts}
use Rattle.tx_records.specs.declared.tx.Scripts.TheVariants.{Absent, Passed, Failed}
use Rattle.tx_records.specs.declared.tx.Tx.{Tx}
use Rattle.ledger_model.specs.Broken.{first_broken}
use Rattle.ledger_model.specs.Ledger.{Ledger}
use Rattle.ledger_model.specs.Transaction.{accepted_as, ledger_after_tx, tx_step, tx_step_by}
use Rattle.run_model.specs.World.{World, on_ledger}

-- a reply to what is accepted is no refusal
pub not_refused : (s : Scripts) (rule : Rule) → accepted_as s ≡ Refused rule → ⊥
not_refused Absent rule h = cc
not_refused Passed rule h = cc
not_refused Failed rule h = cc

-- what an accepted one and a refused one leave, and their replies
pub state_accepted : (w : World) (tx : Tx) → first_broken w.ledger tx ≡ None → on_ledger (λ (l : Ledger). ledger_after_tx l tx) w ≡ on_ledger (λ (l : Ledger). (tx_step l tx).0) w
state_accepted w tx none = sym (ap (λ (o : Option Rule). record w { ledger = (tx_step_by o w.ledger tx).0 }) none)

pub state_refused : (w : World) (tx : Tx) (rule : Rule) → first_broken w.ledger tx ≡ Some rule → w ≡ on_ledger (λ (l : Ledger). (tx_step l tx).0) w
state_refused w tx rule some = sym (ap (λ (o : Option Rule). record w { ledger = (tx_step_by o w.ledger tx).0 }) some)

pub reply_accepted : (l : Ledger) (tx : Tx) → first_broken l tx ≡ None → accepted_as tx.scripts ≡ (tx_step l tx).1
reply_accepted l tx none = sym (ap (λ (o : Option Rule). (tx_step_by o l tx).1) none)

pub reply_refused : (l : Ledger) (tx : Tx) (rule : Rule) → first_broken l tx ≡ Some rule → Refused rule ≡ (tx_step l tx).1
reply_refused l tx rule some = sym (ap (λ (o : Option Rule). (tx_step_by o l tx).1) some)

-- an accepted one is not refused, so it keeps what a refused one does
pub kept_accepted : {E : Type 0} (r : Result (World × Reply) E) (s : Scripts) (rule : Rule) (w : World) → IfOk r (λ (x : World × Reply). x.1 ≡ accepted_as s)
    → IfOk r (λ (x : World × Reply). x.1 ≡ Refused rule → x.0 ≡ w)
kept_accepted (Ok x) s rule w h = λ e. absurd (not_refused s rule (sym h ∙ e))
kept_accepted (Err e) s rule w h = tt
