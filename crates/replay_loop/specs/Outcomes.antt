-- The outcome of a record, and the lines that the program writes for it. (Own)
use Rattle.std.specs.Prelude.{ℕ, Bool, true, false, List, [], ◌∷◌, ◌++◌, Some, None}
use Rattle.ledger_model.specs.Supply.{pots_of}
use Rattle.report.specs.PotsWords.{pots_word_text}
use Rattle.report.specs.declared.pots.PotsWord.TheVariants as pots_words_of
use Rattle.run_model.specs.Boundary.{world_after_boundary}
use Rattle.run_model.specs.Genesis.{world_of_genesis}
use Rattle.run_model.specs.Report.{report_of}
use Rattle.run_model.specs.Step.{enters_next, step}
use Rattle.run_model.specs.World.{World}
use Rattle.text_model.specs.EpochLines.{epoch_lines}
use Rattle.text_model.specs.Replies.{block_words, pots_words, reply_words}
use Rattle.text_model.specs.Runs.{line_rule, text_of_lines}
use Rattle.text_model.specs.StateLines.{asset_lines, state_lines}
use Rattle.text_model.specs.Words.{Text}
use Rattle.tx_records.specs.declared.genesis.Genesis.{Genesis}
use Rattle.tx_records.specs.declared.record.Reading.{Reading}
use Rattle.tx_records.specs.declared.record.Reading.TheVariants.{Read, Malformed, TooLong}
use Rattle.tx_records.specs.declared.record.Record.{Record}
use Rattle.tx_records.specs.declared.record.Record.TheVariants as records
use Rattle.tx_records.specs.declared.record.What.{What}
use Rattle.tx_records.specs.declared.record.What.TheVariants as prints
use Rattle.tx_records.specs.declared.reply.Reply.{Reply}
use Rattle.tx_records.specs.declared.reply.Reply.TheVariants.{Refused}
use Rattle.tx_records.specs.declared.rules.TheConstants.{MALFORMED, TOO_LONG}
use Rattle.replay_loop.specs.declared.outcome.Outcome.{Outcome}
use Rattle.replay_loop.specs.declared.outcome.Outcome.TheVariants.{Answered, Pots, Block, Crossed, State, Assets}

-- ---- what is answered

-- a genesis that breaks no genesis rule
abbrev pub genesis_outcome : Genesis → Outcome
genesis_outcome g = Pots pots_words_of.Genesis (pots_of (world_of_genesis g).ledger)

-- a block, by whether its slot is in the next epoch
abbrev pub block_outcome : Bool → World → Outcome
block_outcome true w = Crossed (report_of w) (pots_of (world_after_boundary w).ledger)
block_outcome false w = Block

-- a print
abbrev pub print_outcome : What → World → Outcome
print_outcome prints.Pots w = Pots pots_words_of.Pots (pots_of w.ledger)
print_outcome prints.State w = State
print_outcome prints.Assets w = Assets

-- an accepted record, over the World before it
abbrev pub accepted_outcome : Record → Reply → World → Outcome
accepted_outcome (records.Block slot pulse) reply w = block_outcome (enters_next w.ledger slot) w
accepted_outcome (records.Print what) reply w = print_outcome what w
accepted_outcome r reply w = Answered reply

-- a record, by its reply
abbrev pub outcome_by : Reply → Record → World → Outcome
outcome_by (Refused rule) r w = Answered (Refused rule)
outcome_by reply r w = accepted_outcome r reply w

-- what was read, over the World before it
abbrev pub outcome_of : World → Reading → Outcome
outcome_of w (Read r) = outcome_by (step w r).1 r w
outcome_of w (Malformed field place) = Answered (Refused (line_rule MALFORMED (Some field) place))
outcome_of w TooLong = Answered (Refused (line_rule TOO_LONG None None))

-- ---- its lines

-- the lines, each as its words, over the World after the record
abbrev pub outcome_lines : World → Outcome → List (List Text)
outcome_lines w (Answered reply) = reply_words reply ∷ []
outcome_lines w (Pots word pots) = pots_words (pots_word_text word) pots ∷ []
outcome_lines w Block = block_words w ∷ []
outcome_lines w (Crossed report pots) = epoch_lines report pots ++ block_words w ∷ []
outcome_lines w State = state_lines w
outcome_lines w Assets = asset_lines w

-- their bytes, each line with the number of the record's line
abbrev pub outcome_text : ℕ → World → Outcome → Text
outcome_text n w outcome = text_of_lines n (outcome_lines w outcome)
