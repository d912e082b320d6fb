-- The text of a followed stream, from what was read of each line. (Own)
use Rattle.std.specs.Prelude.{ℕ, List, [], ◌∷◌, ◌++◌, Option, Some, None, codes, decimal}
use Rattle.tx_records.specs.declared.genesis.Genesis.{Genesis}
use Rattle.tx_records.specs.declared.genesis.GenesisRule.{GenesisRule}
use Rattle.tx_records.specs.declared.record.Reading.TheVariants as readings
use Rattle.tx_records.specs.declared.record.Record.TheVariants as records
use Rattle.tx_records.specs.declared.reply.Reply.{Reply}
use Rattle.tx_records.specs.declared.reply.Reply.TheVariants.{Refused}
use Rattle.tx_records.specs.declared.reply.Rule.{Rule}
use Rattle.tx_records.specs.RuleTexts.{RuleText, rule_text}
use Rattle.run_model.specs.of_gov_model.Snapshot.{entry_count}
use Rattle.run_model.specs.of_ledger_model.Supply.{pots_of}
use Rattle.run_model.specs.Genesis.{genesis_fault, world_of_genesis}
use Rattle.run_model.specs.World.{World}
use Rattle.text_model.specs.Replies.{pots_words, refusal_words}
use Rattle.text_model.specs.Runs.{lines_by, reading_lines, text_of_lines}
use Rattle.text_model.specs.Words.{Text}
use Rattle.follow_records.specs.declared.record.FollowReading.{FollowReading}
use Rattle.follow_records.specs.declared.record.FollowReading.TheVariants.{Read, Malformed, TooLong}
use Rattle.follow_records.specs.declared.record.FollowRecord.{FollowRecord}
use Rattle.follow_records.specs.declared.record.FollowRecord.TheVariants.{Plain, Rollback}
use Rattle.follow_records.specs.declared.rules.TheConstants.{ROLLBACK_UNKNOWN}
use Rattle.follow_model.specs.Chain.{Chain, no_records, world_of_chain}
use Rattle.follow_model.specs.Follow.{follow_step}

-- the text of the rule on rollbacks
abbrev pub rollback_text : RuleText
rollback_text = rule_text ROLLBACK_UNKNOWN (codes "RollbackUnknown") (codes "last" ∷ [])

-- a refused rollback
abbrev pub unknown_words : Rule → List Text
unknown_words rule = codes "refused" ∷ decimal rule.number ∷ refusal_words rule (Some rollback_text)

-- an accepted rollback: the position of the chain, and the count
abbrev pub rolled_words : World → List Text
rolled_words w =
    codes "rolled" ∷ codes "slot" ∷ decimal w.ledger.slot ∷ codes "epoch" ∷ decimal w.ledger.epoch ∷
    codes "counted" ∷ decimal w.counted ∷ codes "of" ∷ decimal (entry_count w.frozen) ∷
    []

-- the lines of a rollback, by its reply; v is the World after it
abbrev pub rollback_lines : Reply → World → List (List Text)
rollback_lines (Refused rule) v = unknown_words rule ∷ []
rollback_lines reply v = rolled_words v ∷ []

-- the lines of a record, by its reply; w is the World before it, and v the World after it
abbrev pub follow_lines : Reply → FollowRecord → World → World → List (List Text)
follow_lines reply (Plain r) w v = lines_by reply r w v
follow_lines reply (Rollback slot) w v = rollback_lines reply v

-- the chain that a reading leaves
abbrev pub chain_after_reading : World → Chain → FollowReading → Chain
chain_after_reading start c (Read r) = (follow_step start c r).0
chain_after_reading start c (Malformed field place) = c
chain_after_reading start c TooLong = c

-- the lines of a reading
abbrev pub follow_reading_lines : World → Chain → FollowReading → List (List Text)
follow_reading_lines start c (Read r) =
    follow_lines (follow_step start c r).1 r (world_of_chain start c) (world_of_chain start (follow_step start c r).0)
follow_reading_lines start c (Malformed field place) = reading_lines (world_of_chain start c) (readings.Malformed field place)
follow_reading_lines start c TooLong = reading_lines (world_of_chain start c) readings.TooLong

-- the text of further readings
abbrev pub follow_text_from : World → Chain → List (ℕ × FollowReading) → Text
follow_text_from start c [] = []
follow_text_from start c (r ∷ rs) =
    text_of_lines r.0 (follow_reading_lines start c r.1) ++ follow_text_from start (chain_after_reading start c r.1) rs

-- the text of a followed stream, by the first genesis rule that is broken
abbrev pub follow_text_by : ℕ → Genesis → Option GenesisRule → List (ℕ × FollowReading) → Option Text
follow_text_by n g (Some rule) rs = None
follow_text_by n g None rs =
    let w : World = world_of_genesis g in
    Some (text_of_lines n (pots_words (codes "genesis") (pots_of w.ledger) ∷ []) ++ follow_text_from w no_records rs)

-- the text of a followed stream that begins with a genesis without a broken genesis rule
abbrev pub follow_of_readings : List (ℕ × FollowReading) → Option Text
follow_of_readings ((n, Read (Plain (records.Genesis g))) ∷ rs) = follow_text_by n g (genesis_fault g) rs
follow_of_readings _ = None
