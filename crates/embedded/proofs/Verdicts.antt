-- The text of a verdict is the text of a record that is told by its reply.
use Rattle.std.proofs.Common.{◌≡◌, ◌∷◌, List, [], false, refl, ap}
use Rattle.run_model.specs.Step.{step}
use Rattle.run_model.specs.World.{World}
use Rattle.text_model.specs.Replies.{reply_words}
use Rattle.text_model.specs.Runs.{lines_by, text_of_lines}
use Rattle.text_model.specs.Words.{Text}
use Rattle.tx_records.specs.declared.record.Reading.TheVariants.{Read, Malformed, TooLong}
use Rattle.tx_records.specs.declared.record.Record.{Record}
use Rattle.tx_records.specs.declared.record.Record.TheVariants as records
use Rattle.tx_records.specs.declared.reply.Reply.{Reply}
use Rattle.tx_records.specs.declared.reply.Reply.TheVariants.{Accepted, AcceptedFailedScripts, Refused}
use Rattle.embedded.specs.Verdicts.{VerdictIsText, is_shown}

-- by the reply
lines_told : (reply : Reply) (r : Record) (w v : World) → is_shown (Read r) reply ≡ false → reply_words reply ∷ [] ≡ lines_by reply r w v
lines_told (Refused rule) r w v more = refl
lines_told Accepted (records.Genesis g) w v more = refl
lines_told Accepted (records.Block slot pulse) w v more = cc
lines_told Accepted (records.Rewards u) w v more = refl
lines_told Accepted (records.Tx tx) w v more = refl
lines_told Accepted (records.Print what) w v more = cc
lines_told AcceptedFailedScripts (records.Genesis g) w v more = refl
lines_told AcceptedFailedScripts (records.Block slot pulse) w v more = cc
lines_told AcceptedFailedScripts (records.Rewards u) w v more = refl
lines_told AcceptedFailedScripts (records.Tx tx) w v more = refl
lines_told AcceptedFailedScripts (records.Print what) w v more = cc

pub verdict_is_text : VerdictIsText
verdict_is_text w n (Read r) more = ap (λ (lines : List (List Text)). text_of_lines n lines) (lines_told (step w r).1 r w (step w r).0 more)
verdict_is_text w n (Malformed field place) more = refl
verdict_is_text w n TooLong more = refl
