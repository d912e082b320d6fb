-- What asking answers, and what is asked next. (Own)
use Rattle.std.specs.Prelude.{ℕ, List}
use Rattle.ledger_model.specs.Transaction.{tx_step}
use Rattle.run_model.specs.World.{World, on_ledger}
use Rattle.text_model.specs.Replies.{reply_words}
use Rattle.text_model.specs.Words.{line_of}
use Rattle.tx_records.specs.declared.reply.TxFault.{TxFault}
use Rattle.tx_records.specs.declared.reply.TxFault.TheVariants as tx_faults
use Rattle.tx_records.specs.declared.tx.Tx.{Tx}
use Rattle.wallet.specs.declared.ask.AskFault.{AskFault}
use Rattle.wallet.specs.declared.ask.AskFault.TheVariants as faults

-- of a judgement that ended with a fault
abbrev pub fault_of : TxFault → AskFault
fault_of (tx_faults.Refused rule) = faults.Refused rule
fault_of tx_faults.NoMemory = faults.NoMemory

-- the line that answers a question about a transaction: the reply that sending it would have
abbrev pub answer_line : ℕ → World → Tx → List ℕ
answer_line question w tx = line_of question (reply_words (tx_step w.ledger tx).1)

-- the state that is asked next: the transaction is sent, and a refusal changes nothing
abbrev pub after_answer : World → Tx → World
after_answer w tx = on_ledger (λ l. (tx_step l tx).0) w
