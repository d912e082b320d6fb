-- The report of the boundary that a record crosses. (Own)
use Rattle.std.specs.Prelude.{Bool, true, false, Option, Some, None}
use Rattle.run_model.specs.Report.{report_of}
use Rattle.run_model.specs.Step.{enters_next, refusal_of}
use Rattle.run_model.specs.World.{World}
use Rattle.tx_records.specs.declared.record.Record.{Record}
use Rattle.tx_records.specs.declared.record.Record.TheVariants as records
use Rattle.tx_records.specs.declared.reply.Rule.{Rule}
use Rattle.tx_records.specs.declared.report.EpochReport.{EpochReport}

-- by whether the slot of a block is in the next epoch
abbrev pub report_into : Bool → World → Option EpochReport
report_into true w = Some (report_of w)
report_into false w = None

-- the report of a record that breaks no rule
abbrev pub report_of_accepted : World → Record → Option EpochReport
report_of_accepted w (records.Block slot pulse) = report_into (enters_next w.ledger slot) w
report_of_accepted w _ = None

-- the report by the first rule that the record breaks
abbrev pub report_by : Option Rule → World → Record → Option EpochReport
report_by (Some rule) w r = None
report_by None w r = report_of_accepted w r

-- the report of the boundary that a record crosses, if it crosses one
abbrev pub report_of_record : World → Record → Option EpochReport
report_of_record w r = report_by (refusal_of w r) w r
