-- The outcome of a record of a followed stream, and the lines that are written for it. (Own)
use Rattle.std.specs.Prelude.{ℕ, List, [], ◌∷◌}
use Rattle.text_model.specs.Runs.{text_of_lines}
use Rattle.text_model.specs.Words.{Text}
use Rattle.tx_records.specs.declared.record.Reading.TheVariants as readings
use Rattle.tx_records.specs.declared.reply.Reply.{Reply}
use Rattle.tx_records.specs.declared.reply.Reply.TheVariants.{Refused}
use Rattle.run_model.specs.World.{World}
use Rattle.follow_records.specs.declared.record.FollowReading.{FollowReading}
use Rattle.follow_records.specs.declared.record.FollowReading.TheVariants.{Read, Malformed, TooLong}
use Rattle.follow_records.specs.declared.record.FollowRecord.TheVariants.{Plain, Rollback}
use Rattle.follow_lines.specs.Words.{words_of_unknown}
use Rattle.follow_model.specs.Chain.{Chain, world_of_chain}
use Rattle.follow_model.specs.Follow.{follow_step}
use Rattle.follow_model.specs.FollowLines.{rolled_words}
use Rattle.replay_loop.specs.Outcomes.{outcome_by, outcome_lines, outcome_of}
use Rattle.follow_loop.specs.declared.outcome.FollowOutcome.{FollowOutcome}
use Rattle.follow_loop.specs.declared.outcome.FollowOutcome.TheVariants as outcomes

-- a rollback, by its reply
abbrev pub rollback_outcome : Reply → FollowOutcome
rollback_outcome (Refused rule) = outcomes.Unknown rule.first
rollback_outcome reply = outcomes.Rolled

-- what was read, where the chain of the stream is c
abbrev pub follow_outcome_of : World → Chain → FollowReading → FollowOutcome
follow_outcome_of start c (Read (Plain r)) = outcomes.Plain (outcome_by (follow_step start c (Plain r)).1 r (world_of_chain start c))
follow_outcome_of start c (Read (Rollback slot)) = rollback_outcome (follow_step start c (Rollback slot)).1
follow_outcome_of start c (Malformed field place) = outcomes.Plain (outcome_of (world_of_chain start c) (readings.Malformed field place))
follow_outcome_of start c TooLong = outcomes.Plain (outcome_of (world_of_chain start c) readings.TooLong)

-- the lines, each as its words, over the World after the record
abbrev pub follow_outcome_lines : World → FollowOutcome → List (List Text)
follow_outcome_lines w (outcomes.Plain outcome) = outcome_lines w outcome
follow_outcome_lines w outcomes.Rolled = rolled_words w ∷ []
follow_outcome_lines w (outcomes.Unknown last) = words_of_unknown last ∷ []

-- their bytes, each line with the number of the record's line
abbrev pub follow_outcome_text : ℕ → World → FollowOutcome → Text
follow_outcome_text n w outcome = text_of_lines n (follow_outcome_lines w outcome)
