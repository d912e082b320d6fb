-- The counts of a summary, record by record. (Own)
use Rattle.std.specs.Prelude.{◌≡◌, ℕ, ◌+◌, ◌<◌, ◌^◌, Bool, true, false, List, [], ◌∷◌, OnErr, OnOk, Result}
use Rattle.std.specs.List.{count_by}
use Rattle.no_memory.specs.declared.NoMemory.{NoMemory}
use Rattle.gov_actions.specs.declared.tally.Tally.{Tally}
use Rattle.ledger_model.specs.Supply.{pots_of}
use Rattle.load_model.specs.declared.summary.LoadSummary.{LoadSummary}
use Rattle.load_model.specs.Summary.{is_expired_verdict, is_ratified_verdict, is_waiting_verdict, summary_of, world_after_readings}
use Rattle.load_summary.specs.declared.counts.LoadCounts.{LoadCounts}
use Rattle.run_model.specs.Genesis.{world_of_genesis}
use Rattle.run_model.specs.Report.{report_of}
use Rattle.run_model.specs.Step.{enters_next, step}
use Rattle.run_model.specs.World.{World}
use Rattle.text_model.specs.Runs.{world_after_reading}
use Rattle.tx_records.specs.declared.genesis.Genesis.{Genesis}
use Rattle.tx_records.specs.declared.record.Reading.{Reading}
use Rattle.tx_records.specs.declared.record.Reading.TheVariants.{Read, Malformed, TooLong}
use Rattle.tx_records.specs.declared.record.Record.{Record}
use Rattle.tx_records.specs.declared.record.Record.TheVariants as records
use Rattle.tx_records.specs.declared.reply.Reply.{Reply}
use Rattle.tx_records.specs.declared.reply.Reply.TheVariants.{Refused}
use Rattle.tx_records.specs.declared.report.Pots.{Pots}

-- ---- what one answer adds

-- before the first record
abbrev pub nothing_counted : LoadCounts
nothing_counted = record { records = 0; accepted = 0; refused = 0; blocks = 0; ratified = 0; expired = 0; waiting = 0 }

-- a record more, which is refused
abbrev pub refused_counted : LoadCounts → LoadCounts
refused_counted c = record c { records = c.records + 1; refused = c.refused + 1 }

-- which is a transaction or a reward update and accepted
abbrev pub accepted_counted : LoadCounts → LoadCounts
accepted_counted c = record c { records = c.records + 1; accepted = c.accepted + 1 }

-- which is a transaction, a reward update or refused, by its reply
abbrev pub reply_counted : LoadCounts → Reply → LoadCounts
reply_counted c (Refused rule) = refused_counted c
reply_counted c _ = accepted_counted c

-- which is an accepted block
abbrev pub block_counted : LoadCounts → LoadCounts
block_counted c = record c { records = c.records + 1; blocks = c.blocks + 1 }

-- which is an accepted block that crosses a boundary of these tallies
abbrev pub crossing_counted : LoadCounts → List Tally → LoadCounts
crossing_counted c tallies = record (block_counted c) {
  ratified = c.ratified + count_by (λ t. is_ratified_verdict t.verdict) tallies;
  expired = c.expired + count_by (λ t. is_expired_verdict t.verdict) tallies;
  waiting = c.waiting + count_by (λ t. is_waiting_verdict t.verdict) tallies;
}

-- which is the genesis or a print
abbrev pub other_counted : LoadCounts → LoadCounts
other_counted c = record c { records = c.records + 1 }

-- ---- what a reading adds, over the World before it

-- a block, by whether its slot is in the next epoch
abbrev pub block_counted_by : Bool → LoadCounts → World → LoadCounts
block_counted_by true c w = crossing_counted c (report_of w).tallies
block_counted_by false c w = block_counted c

-- an accepted record
abbrev pub record_counted : LoadCounts → Record → Reply → World → LoadCounts
record_counted c (records.Block slot pulse) reply w = block_counted_by (enters_next w.ledger slot) c w
record_counted c (records.Print what) reply w = other_counted c
record_counted c r reply w = reply_counted c reply

-- a record, by its reply
abbrev pub counted_by : LoadCounts → Reply → Record → World → LoadCounts
counted_by c (Refused rule) r w = refused_counted c
counted_by c reply r w = record_counted c r reply w

-- a reading
abbrev pub reading_counted : LoadCounts → World → Reading → LoadCounts
reading_counted c w (Read r) = counted_by c (step w r).1 r w
reading_counted c w (Malformed field place) = refused_counted c
reading_counted c w TooLong = refused_counted c

-- further readings
abbrev pub counted_from : LoadCounts → World → List Reading → LoadCounts
counted_from c w [] = c
counted_from c w (r ∷ rs) = counted_from (reading_counted c w r) (world_after_reading w r) rs

-- ---- the summary

-- of these counts
abbrev pub summary_with : ℕ → ℕ → ℕ → LoadCounts → Pots → LoadSummary
summary_with seed accounts epochs c pots = record {
  seed = seed;
  accounts = accounts;
  epochs = epochs;
  records = c.records;
  accepted = c.accepted;
  refused = c.refused;
  blocks = c.blocks;
  ratified = c.ratified;
  expired = c.expired;
  waiting = c.waiting;
  pots = pots;
}

-- the summary of a replay counts its genesis and its readings one by one, with the pots after them
abbrev pub SummaryIsCounted : Type 0
SummaryIsCounted = (seed accounts epochs : ℕ) (g : Genesis) (rs : List Reading)
    → summary_of seed accounts epochs g rs
    ≡ summary_with seed accounts epochs (counted_from (other_counted nothing_counted) (world_of_genesis g) rs)
    (pots_of (world_after_readings (world_of_genesis g) rs).ledger)

-- ---- how a call counts

-- each count has room in 64 bits
pub record Fits (c : LoadCounts) : Type 0 where
  pub records : c.records < 2 ^ 64
  pub accepted : c.accepted < 2 ^ 64
  pub refused : c.refused < 2 ^ 64
  pub blocks : c.blocks < 2 ^ 64
  pub ratified : c.ratified < 2 ^ 64
  pub expired : c.expired < 2 ^ 64
  pub waiting : c.waiting < 2 ^ 64

-- the counts are those that are wanted; if and only if one has no room, they are as they were
pub record IsCounted (old wanted new : LoadCounts) (result : Result (Unit {0}) NoMemory) : Type 0 where
  pub ok : OnOk result (new ≡ wanted)
  pub err : OnErr result (new ≡ old)
  pub full : OnErr result (¬ Fits wanted)
