-- The lines of an outcome are those of the text of a followed stream.
use Rattle.std.proofs.Common.{◌≡◌, ◌++◌, ◌∙◌, List, [], ◌∷◌, Bool, true, false, ℕ, append-nil, ap, filter_map, min, not, refl, sum_by}
use Rattle.std.proofs.lemmas.List.Elements.{filter_map-append}
use Rattle.std.proofs.lemmas.List.Sums.{fold-append}
use Rattle.gov_model.specs.Snapshot.{entry_count}
use Rattle.ledger_model.specs.Checks.{breaks_keeping, first_among}
use Rattle.run_model.specs.Runs.{pulse_in, world_after_all}
use Rattle.run_model.specs.Step.{enters_next, step}
use Rattle.run_model.specs.World.{World}
use Rattle.text_model.specs.Replies.{block_words}
use Rattle.text_model.specs.Runs.{crossing_lines, lines_by}
use Rattle.text_model.specs.StateLines.{asset_lines, state_lines}
use Rattle.tx_records.specs.declared.genesis.Genesis.{Genesis}
use Rattle.tx_records.specs.declared.record.Record.{Record}
use Rattle.tx_records.specs.declared.record.Record.TheVariants as records
use Rattle.tx_records.specs.declared.record.Rewards.{Rewards}
use Rattle.tx_records.specs.declared.record.What.{What}
use Rattle.tx_records.specs.declared.record.What.TheVariants as prints
use Rattle.tx_records.specs.declared.reply.Reply.{Reply}
use Rattle.tx_records.specs.declared.reply.Reply.TheVariants.{Accepted, AcceptedFailedScripts, Refused}
use Rattle.tx_records.specs.declared.tx.Tx.{Tx}
use Rattle.follow_records.specs.declared.record.FollowReading.{FollowReading}
use Rattle.follow_records.specs.declared.record.FollowReading.TheVariants.{Read, Malformed, TooLong}
use Rattle.follow_records.specs.declared.record.FollowRecord.TheVariants.{Plain, Rollback}
use Rattle.follow_records.specs.declared.rules.TheConstants.{ROLLBACK_UNKNOWN}
use Rattle.follow_model.specs.Chain.{Chain, counted_by, is_known_block, with_record, world_of_chain}
use Rattle.follow_model.specs.Follow.{follow_step, follow_step_by}
use Rattle.follow_model.specs.FollowLines.{chain_after_reading, follow_reading_lines, rollback_lines}
use Rattle.replay_loop.specs.Outcomes.{block_outcome, outcome_by, outcome_lines}
use Rattle.follow_loop.specs.Outcomes.{follow_outcome_lines, follow_outcome_of, rollback_outcome}

-- ---- a record of a replay, by its reply; v is the World after it

block_is : (enters : Bool) (w v : World) → outcome_lines v (block_outcome enters w) ≡ crossing_lines enters w ++ block_words v ∷ []
block_is true w v = refl
block_is false w v = refl

block_by : (reply : Reply) (slot pulse : ℕ) (w v : World) → outcome_lines v (outcome_by reply (records.Block slot pulse) w) ≡ lines_by reply (records.Block slot pulse) w v
block_by (Refused rule) slot pulse w v = refl
block_by Accepted slot pulse w v = block_is (enters_next w.ledger slot) w v
block_by AcceptedFailedScripts slot pulse w v = block_is (enters_next w.ledger slot) w v

genesis_by : (reply : Reply) (g : Genesis) (w v : World) → outcome_lines v (outcome_by reply (records.Genesis g) w) ≡ lines_by reply (records.Genesis g) w v
genesis_by (Refused rule) g w v = refl
genesis_by Accepted g w v = refl
genesis_by AcceptedFailedScripts g w v = refl

rewards_by : (reply : Reply) (u : Rewards) (w v : World) → outcome_lines v (outcome_by reply (records.Rewards u) w) ≡ lines_by reply (records.Rewards u) w v
rewards_by (Refused rule) u w v = refl
rewards_by Accepted u w v = refl
rewards_by AcceptedFailedScripts u w v = refl

tx_by : (reply : Reply) (tx : Tx) (w v : World) → outcome_lines v (outcome_by reply (records.Tx tx) w) ≡ lines_by reply (records.Tx tx) w v
tx_by (Refused rule) tx w v = refl
tx_by Accepted tx w v = refl
tx_by AcceptedFailedScripts tx w v = refl

-- ---- a print

-- one more print in the chain leaves its World
print_stays : (start : World) (c : Chain) (what : What) → world_of_chain start (with_record (records.Print what) c) ≡ world_of_chain start c
print_stays start c what =
    let more : List Record = records.Print what ∷ [] in
    let w : World = world_after_all start c.kept in
    let same : world_after_all start (c.kept ++ more) ≡ w = fold-append (λ (v : World) (q : Record). (step v q).0) start c.kept more in
    let pulses : filter_map (pulse_in w) (c.accepted ++ more) ≡ filter_map (pulse_in w) c.accepted =
    filter_map-append (pulse_in w) c.accepted more ∙ append-nil (filter_map (pulse_in w) c.accepted) in
    ap (λ (v : World). record v { counted = counted_by v (c.accepted ++ more) }) same
    ∙ ap (λ (ns : List ℕ). record w { counted = min (entry_count w.frozen) (sum_by (λ (n : ℕ). n) ns) }) pulses

print_is : (what : What) (start : World) (c : Chain)
    → follow_outcome_lines (world_of_chain start (with_record (records.Print what) c)) (follow_outcome_of start c (Read (Plain (records.Print what))))
    ≡ follow_reading_lines start c (Read (Plain (records.Print what)))
print_is prints.Pots start c = refl
print_is prints.State start c = ap state_lines (print_stays start c prints.State)
print_is prints.Assets start c = ap asset_lines (print_stays start c prints.Assets)

-- ---- a rollback, by whether its block is unknown

rollback_by : (unknown : Bool) (last slot : ℕ) (c : Chain) (v : World)
    → let reply : Reply = (follow_step_by (first_among (breaks_keeping ROLLBACK_UNKNOWN last unknown ∷ [])) c (Rollback slot)).1 in
    follow_outcome_lines v (rollback_outcome reply) ≡ rollback_lines reply v
rollback_by true last slot c v = refl
rollback_by false last slot c v = refl

-- ---- what was read

pub lines_are : (start : World) (c : Chain) (r : FollowReading)
    → follow_outcome_lines (world_of_chain start (chain_after_reading start c r)) (follow_outcome_of start c r) ≡ follow_reading_lines start c r
lines_are start c (Read (Plain (records.Genesis g))) =
    let after = follow_step start c (Plain (records.Genesis g)) in genesis_by after.1 g (world_of_chain start c) (world_of_chain start after.0)
lines_are start c (Read (Plain (records.Block slot pulse))) =
    let after = follow_step start c (Plain (records.Block slot pulse)) in block_by after.1 slot pulse (world_of_chain start c) (world_of_chain start after.0)
lines_are start c (Read (Plain (records.Rewards u))) =
    let after = follow_step start c (Plain (records.Rewards u)) in rewards_by after.1 u (world_of_chain start c) (world_of_chain start after.0)
lines_are start c (Read (Plain (records.Tx tx))) =
    let after = follow_step start c (Plain (records.Tx tx)) in tx_by after.1 tx (world_of_chain start c) (world_of_chain start after.0)
lines_are start c (Read (Plain (records.Print what))) = print_is what start c
lines_are start c (Read (Rollback slot)) =
    let w : World = world_of_chain start c in
    rollback_by (not (is_known_block w c slot)) w.ledger.slot slot c (world_of_chain start (follow_step start c (Rollback slot)).0)
lines_are start c (Malformed field place) = refl
lines_are start c TooLong = refl
