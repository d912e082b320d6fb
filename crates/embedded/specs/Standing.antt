-- A ledger that a caller holds, and what each call does to it. (Own)
use Rattle.std.specs.Prelude.{◌≡◌, ◌+◌, ◌^◌, ℕ, List, [], Option, Some, None, Result, Ok, Err, ⊤}
use Rattle.byte_lines.specs.Pieces.{kept}
use Rattle.record_stream.specs.Records.{reading_of_line}
use Rattle.replay_loop.specs.declared.fault.AnswerFault.{AnswerFault}
use Rattle.replay_loop.specs.declared.fault.AnswerFault.TheVariants as faults
use Rattle.replay_loop.specs.declared.status.GenesisCause.{GenesisCause}
use Rattle.replay_loop.specs.declared.status.GenesisCause.TheVariants as causes
use Rattle.replay_loop.specs.Outcomes.{genesis_outcome, outcome_text}
use Rattle.replay_loop.specs.Runs.{reading_fault}
use Rattle.run_model.specs.Genesis.{genesis_fault, world_of_genesis}
use Rattle.run_model.specs.World.{World}
use Rattle.text_model.specs.Runs.{reading_lines, text_of_lines, world_after_reading}
use Rattle.text_model.specs.Words.{Text}
use Rattle.tx_records.specs.declared.genesis.Genesis.{Genesis}
use Rattle.tx_records.specs.declared.limits.TheConstants.{LINE_LIMIT}
use Rattle.tx_records.specs.declared.record.Reading.{Reading}
use Rattle.tx_records.specs.declared.record.Reading.TheVariants.{Read}
use Rattle.tx_records.specs.declared.record.Record.TheVariants as records
use Rattle.embedded.specs.declared.ending.Ending.{Ending}
use Rattle.embedded.specs.declared.ending.Ending.TheVariants as endings

-- the World, none once it is closed; the number of the last line; the text of the last answer
pub record Standing : Type 0 where
  pub world : Option World
  pub line : ℕ
  pub text : Text

-- what a line says; a line that is longer than the limit is read as too long
abbrev pub said_by : List ℕ → Option Reading
said_by line = reading_of_line (kept LINE_LIMIT line)

-- ---- a genesis

-- a ledger begins: the line of this number is a genesis that breaks no genesis rule, and its text
-- is as in a run
pub record Begun (n : ℕ) (line : List ℕ) (s : Standing) : Type 0 where
  pub genesis : Genesis
  pub said : said_by line ≡ Some (Read (records.Genesis genesis))
  pub unbroken : genesis_fault genesis ≡ None
  pub is : s ≡ record {
    world = Some (world_of_genesis genesis);
    line = n;
    text = outcome_text n (world_of_genesis genesis) (genesis_outcome genesis);
  }

-- why what was read begins no ledger, where it begins none
abbrev pub start_fault_of : Option Reading → Option GenesisCause
start_fault_of None = Some causes.Missing
start_fault_of (Some r) = reading_fault r

-- a ledger begins, or there is the cause for which it does not
abbrev pub Opens : ℕ → List ℕ → Result Standing AnswerFault → Type 0
Opens n line (Ok s) = Begun n line s
Opens n line (Err (faults.BadGenesis cause)) = start_fault_of (said_by line) ≡ Some cause
Opens n line (Err faults.NoMemory) = ⊤

-- ---- a line

-- after what was read of the line of this number; a blank line gives no text
abbrev pub after_reading : World → ℕ → Option Reading → Standing
after_reading w n None = record { world = Some w; line = n; text = [] }
after_reading w n (Some r) = record { world = Some (world_after_reading w r); line = n; text = text_of_lines n (reading_lines w r) }

-- after a line
abbrev pub after_line : World → ℕ → List ℕ → Standing
after_line w n line = after_reading w n (said_by line)

-- what recording a line did: nothing where the ledger is closed, or where no number is left for the
-- line; out of memory closes it
abbrev pub Records : Standing → List ℕ → Standing → Ending → Type 0
Records s line s' endings.Done = (w : World) × (s.world ≡ Some w) × (s' ≡ after_line w (s.line + 1) line)
Records s line s' endings.Closed = (s.world ≡ None) × (s' ≡ s)
Records s line s' endings.Full = (s.line + 1 ≡ 2 ^ 64) × (s' ≡ s)
Records s line s' endings.NoMemory = s'.world ≡ None
