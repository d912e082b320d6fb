-- The lines of what a record comes to are those of the text of a run.
use Rattle.std.proofs.Common.{◌≡◌, ◌++◌, [], ◌∷◌, Bool, true, false, ℕ, refl}
use Rattle.run_model.specs.Step.{enters_next, step}
use Rattle.run_model.specs.World.{World}
use Rattle.text_model.specs.Replies.{block_words}
use Rattle.text_model.specs.Runs.{crossing_lines, lines_by, reading_lines, world_after_reading}
use Rattle.tx_records.specs.declared.record.Reading.{Reading}
use Rattle.tx_records.specs.declared.record.Reading.TheVariants.{Read, Malformed, TooLong}
use Rattle.tx_records.specs.declared.record.Record.{Record}
use Rattle.tx_records.specs.declared.record.Record.TheVariants as records
use Rattle.tx_records.specs.declared.record.Rewards.{Rewards}
use Rattle.tx_records.specs.declared.record.What.TheVariants as prints
use Rattle.tx_records.specs.declared.reply.Reply.{Reply}
use Rattle.tx_records.specs.declared.reply.Reply.TheVariants.{Accepted, AcceptedFailedScripts, Refused}
use Rattle.tx_records.specs.declared.tx.Tx.{Tx}
use Rattle.replay_loop.specs.Outcomes.{block_outcome, outcome_by, outcome_lines, outcome_of}

-- ---- a record, by its reply; v is the World after it

-- an accepted block
block_is : (enters : Bool) (w v : World) → outcome_lines v (block_outcome enters w) ≡ crossing_lines enters w ++ block_words v ∷ []
block_is true w v = refl
block_is false w v = refl

block_by : (reply : Reply) (slot pulse : ℕ) (w v : World) → outcome_lines v (outcome_by reply (records.Block slot pulse) w) ≡ lines_by reply (records.Block slot pulse) w v
block_by (Refused rule) slot pulse w v = refl
block_by Accepted slot pulse w v = block_is (enters_next w.ledger slot) w v
block_by AcceptedFailedScripts slot pulse w v = block_is (enters_next w.ledger slot) w v

rewards_by : (reply : Reply) (u : Rewards) (w v : World) → outcome_lines v (outcome_by reply (records.Rewards u) w) ≡ lines_by reply (records.Rewards u) w v
rewards_by (Refused rule) u w v = refl
rewards_by Accepted u w v = refl
rewards_by AcceptedFailedScripts u w v = refl

tx_by : (reply : Reply) (tx : Tx) (w v : World) → outcome_lines v (outcome_by reply (records.Tx tx) w) ≡ lines_by reply (records.Tx tx) w v
tx_by (Refused rule) tx w v = refl
tx_by Accepted tx w v = refl
tx_by AcceptedFailedScripts tx w v = refl

record_by : (w : World) (r : Record) → outcome_lines (step w r).0 (outcome_by (step w r).1 r w) ≡ lines_by (step w r).1 r w (step w r).0
record_by w (records.Genesis g) = refl
record_by w (records.Block slot pulse) = block_by (step w (records.Block slot pulse)).1 slot pulse w (step w (records.Block slot pulse)).0
record_by w (records.Rewards u) = rewards_by (step w (records.Rewards u)).1 u w (step w (records.Rewards u)).0
record_by w (records.Tx tx) = tx_by (step w (records.Tx tx)).1 tx w (step w (records.Tx tx)).0
record_by w (records.Print prints.Pots) = refl
record_by w (records.Print prints.State) = refl
record_by w (records.Print prints.Assets) = refl

-- ---- what was read

pub lines_are : (w : World) (r : Reading) → outcome_lines (world_after_reading w r) (outcome_of w r) ≡ reading_lines w r
lines_are w (Read r) = record_by w r
lines_are w (Malformed field place) = refl
lines_are w TooLong = refl
