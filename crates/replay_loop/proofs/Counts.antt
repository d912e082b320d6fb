-- What is counted of an outcome is what the summary counts of its record.
use Rattle.std.proofs.Common.{◌≡◌, Bool, true, false, ℕ, refl}
use Rattle.load_summary.specs.Counting.{block_counted_by, counted_by, reading_counted}
use Rattle.load_summary.specs.declared.counts.LoadCounts.{LoadCounts}
use Rattle.run_model.specs.Step.{enters_next, step}
use Rattle.run_model.specs.World.{World}
use Rattle.tx_records.specs.declared.record.Reading.{Reading}
use Rattle.tx_records.specs.declared.record.Reading.TheVariants.{Read, Malformed, TooLong}
use Rattle.tx_records.specs.declared.record.Record.{Record}
use Rattle.tx_records.specs.declared.record.Record.TheVariants as records
use Rattle.tx_records.specs.declared.record.Rewards.{Rewards}
use Rattle.tx_records.specs.declared.record.What.TheVariants as prints
use Rattle.tx_records.specs.declared.reply.Reply.{Reply}
use Rattle.tx_records.specs.declared.reply.Reply.TheVariants.{Accepted, AcceptedFailedScripts, Refused}
use Rattle.tx_records.specs.declared.tx.Tx.{Tx}
use Rattle.replay_loop.specs.Counts.{outcome_counted}
use Rattle.replay_loop.specs.Outcomes.{block_outcome, outcome_by, outcome_of}

block_is : (enters : Bool) (c : LoadCounts) (w : World) → outcome_counted c (block_outcome enters w) ≡ block_counted_by enters c w
block_is true c w = refl
block_is false c w = refl

block_by : (reply : Reply) (c : LoadCounts) (slot pulse : ℕ) (w : World)
    → outcome_counted c (outcome_by reply (records.Block slot pulse) w) ≡ counted_by c reply (records.Block slot pulse) w
block_by (Refused rule) c slot pulse w = refl
block_by Accepted c slot pulse w = block_is (enters_next w.ledger slot) c w
block_by AcceptedFailedScripts c slot pulse w = block_is (enters_next w.ledger slot) c w

rewards_by : (reply : Reply) (c : LoadCounts) (u : Rewards) (w : World) → outcome_counted c (outcome_by reply (records.Rewards u) w) ≡ counted_by c reply (records.Rewards u) w
rewards_by (Refused rule) c u w = refl
rewards_by Accepted c u w = refl
rewards_by AcceptedFailedScripts c u w = refl

tx_by : (reply : Reply) (c : LoadCounts) (tx : Tx) (w : World) → outcome_counted c (outcome_by reply (records.Tx tx) w) ≡ counted_by c reply (records.Tx tx) w
tx_by (Refused rule) c tx w = refl
tx_by Accepted c tx w = refl
tx_by AcceptedFailedScripts c tx w = refl

record_by : (c : LoadCounts) (w : World) (r : Record) → outcome_counted c (outcome_by (step w r).1 r w) ≡ counted_by c (step w r).1 r w
record_by c w (records.Genesis g) = refl
record_by c w (records.Block slot pulse) = block_by (step w (records.Block slot pulse)).1 c slot pulse w
record_by c w (records.Rewards u) = rewards_by (step w (records.Rewards u)).1 c u w
record_by c w (records.Tx tx) = tx_by (step w (records.Tx tx)).1 c tx w
record_by c w (records.Print prints.Pots) = refl
record_by c w (records.Print prints.State) = refl
record_by c w (records.Print prints.Assets) = refl

-- what was read
pub counted_is : (c : LoadCounts) (w : World) (r : Reading) → outcome_counted c (outcome_of w r) ≡ reading_counted c w r
counted_is c w (Read r) = record_by c w r
counted_is c w (Malformed field place) = refl
counted_is c w TooLong = refl
