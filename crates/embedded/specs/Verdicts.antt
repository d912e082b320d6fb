-- What a line would be answered, all that is wrong with it, and the calls that say so. (Own)
use Rattle.std.specs.Prelude.{◌≡◌, ◌+◌, ◌^◌, ℕ, Bool, true, false, List, [], ◌∷◌, Option, Some, None}
use Rattle.byte_lines.specs.Pieces.{kept}
use Rattle.explain_loop.specs.of_explain_model.Explained.{explained_lines}
use Rattle.record_notes.specs.Lines.{Noted, noted_of_line}
use Rattle.run_model.specs.Step.{step}
use Rattle.run_model.specs.World.{World}
use Rattle.text_model.specs.Replies.{reply_words}
use Rattle.text_model.specs.Runs.{line_rule, text_of_lines}
use Rattle.text_model.specs.Words.{Text}
use Rattle.tx_records.specs.declared.limits.TheConstants.{LINE_LIMIT}
use Rattle.tx_records.specs.declared.record.Reading.{Reading}
use Rattle.tx_records.specs.declared.record.Reading.TheVariants.{Read, Malformed, TooLong}
use Rattle.tx_records.specs.declared.record.Record.TheVariants as records
use Rattle.tx_records.specs.declared.reply.Reply.{Reply}
use Rattle.tx_records.specs.declared.reply.Reply.TheVariants.{Refused}
use Rattle.tx_records.specs.declared.rules.TheConstants.{MALFORMED, TOO_LONG}
use Rattle.embedded.specs.Standing.{Standing, after_reading, said_by}
use Rattle.embedded.specs.declared.ending.Ending.{Ending}
use Rattle.embedded.specs.declared.ending.Ending.TheVariants as endings

-- the reply to what was read, over the World before it
abbrev pub reply_to : World → Reading → Reply
reply_to w (Read r) = (step w r).1
reply_to w (Malformed field place) = Refused (line_rule MALFORMED (Some field) place)
reply_to w TooLong = Refused (line_rule TOO_LONG None None)

-- the text of a verdict: the line of the reply; a blank line has none
abbrev pub verdict_text : World → ℕ → Option Reading → Text
verdict_text w n None = []
verdict_text w n (Some r) = text_of_lines n (reply_words (reply_to w r) ∷ [])

-- what a line says, with what more there is to say of it; a line that is longer than the limit is
-- read as too long
abbrev pub noted_by : List ℕ → Option Noted
noted_by line = noted_of_line (kept LINE_LIMIT line)

-- the text of an explanation: a line for each rule that is broken, for each value that is not of
-- its shape and for each name that nobody reads; a blank line has none
abbrev pub explanation_text : World → ℕ → Option Noted → Text
explanation_text w n None = []
explanation_text w n (Some r) = text_of_lines n (explained_lines w r)

-- what saying such a text of the next line did: the text alone changes, and that stays, too, where
-- it is not done
abbrev pub Says : (World → ℕ → List ℕ → Text) → Standing → List ℕ → Standing → Ending → Type 0
Says text_by s line s' endings.Done = (w : World) × (s.world ≡ Some w) × (s' ≡ record s { text = text_by w (s.line + 1) line })
Says text_by s line s' endings.Closed = (s.world ≡ None) × (s' ≡ s)
Says text_by s line s' endings.Full = (s.line + 1 ≡ 2 ^ 64) × (s' ≡ s)
Says text_by s line s' endings.NoMemory = s' ≡ s

-- what judging the next line did
abbrev pub Judges : Standing → List ℕ → Standing → Ending → Type 0
Judges = Says (λ w n line. verdict_text w n (said_by line))

-- what explaining it did
abbrev pub Explains : Standing → List ℕ → Standing → Ending → Type 0
Explains = Says (λ w n line. explanation_text w n (noted_by line))

-- whether the text of a record is another than its reply: of a print and of an accepted block
abbrev pub is_shown : Reading → Reply → Bool
is_shown r (Refused rule) = false
is_shown (Read (records.Block slot pulse)) reply = true
is_shown (Read (records.Print what)) reply = true
is_shown r reply = false

-- of all others the text of the verdict is that of the record
abbrev pub VerdictIsText : Type 0
VerdictIsText = (w : World) (n : ℕ) (r : Reading) → is_shown r (reply_to w r) ≡ false → verdict_text w n (Some r) ≡ (after_reading w n (Some r)).text
