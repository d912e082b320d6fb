-- What applies records, and the outcome of an applied record. (Own)
use Rattle.std.specs.Prelude.{◌≡◌, Bool, true, false, Option, Some, None, Result, Ok}
use Rattle.ledger_model.specs.Supply.{pots_of}
use Rattle.no_memory.specs.declared.NoMemory.{NoMemory}
use Rattle.record_rule.specs.declared.applied.Applied.{Applied}
use Rattle.record_rule.specs.Reports.{report_of_record}
use Rattle.replay_loop.specs.declared.outcome.Outcome.{Outcome}
use Rattle.replay_loop.specs.declared.outcome.Outcome.TheVariants.{Answered, Block, Crossed}
use Rattle.run_model.specs.Step.{step}
use Rattle.run_model.specs.World.{World}
use Rattle.tx_records.specs.declared.record.Record.{Record}
use Rattle.tx_records.specs.declared.record.Record.TheVariants as records
use Rattle.tx_records.specs.RecordLimits.{is_within_limits}
use Rattle.tx_records.specs.declared.reply.Reply.{Reply}
use Rattle.tx_records.specs.declared.reply.Reply.TheVariants.{Refused}
use Rattle.tx_records.specs.declared.report.EpochReport.{EpochReport}

-- what a function that applies records requires and gives: for a record within its limits, shown by
-- a reference, the World, the reply and the report of the definitions
pub record AppliesEach {Shown : Type 0} (now : Shown → Record) (pre : World → Shown → Type 0) (post : World → Shown → Result Applied NoMemory → Type 0) : Type 0 where
  pub asked : (w : World) (r : Shown) → is_within_limits (now r) ≡ true → pre w r
  pub stepped : (w : World) (r : Shown) (a : Applied) → post w r (Ok a) → (a.ledger, a.reply) ≡ step w (now r)
  pub report : (w : World) (r : Shown) (a : Applied) → post w r (Ok a) → a.report ≡ report_of_record w (now r)

-- the outcome of a block, by the World after it, its reply and its report
abbrev pub applied_block_outcome : World → Reply → Option EpochReport → Outcome
applied_block_outcome v reply (Some report) = Crossed report (pots_of v.ledger)
applied_block_outcome v (Refused rule) None = Answered (Refused rule)
applied_block_outcome v reply None = Block

-- a record that is no print
abbrev pub applied_outcome : World → Record → Reply → Option EpochReport → Outcome
applied_outcome v (records.Block slot pulse) reply report = applied_block_outcome v reply report
applied_outcome v _ reply report = Answered reply

-- whether a record is a print
abbrev pub is_print : Record → Bool
is_print (records.Print what) = true
is_print _ = false
