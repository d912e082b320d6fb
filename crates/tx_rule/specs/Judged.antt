-- The result of judging a transaction: its changes, or the first rule that it breaks.
use Rattle.std.specs.Prelude.{◌≡◌, Result, Ok, Err, None}
use Rattle.tx_records.specs.declared.reply.TxFault.{TxFault}
use Rattle.tx_records.specs.declared.tx.Tx.{Tx}
use Rattle.ledger_model.specs.Ledger.{Ledger}
use Rattle.ledger_model.specs.Broken.{first_broken}
use Rattle.cert_deleg.specs.of_draft_changes.Changed.{Changed, laid_over}
use Rattle.cert_deleg.specs.of_live_ledger.Drafts.{draft_of}
use Rattle.rule_checks.specs.Answered.{IsAnswered}

-- the changes give the draft over the ledger, or the first rule is broken, unless memory ran out
abbrev pub IsJudged : Result Changed TxFault → Ledger → Tx → Type 0
IsJudged (Ok changes) l tx = (first_broken l tx ≡ None) × (laid_over changes l ≡ draft_of l tx)
IsJudged (Err fault) l tx = IsAnswered (first_broken l tx) (Err fault)
