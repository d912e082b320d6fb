-- What is answered to a line is what the definitions say of a session.
use Rattle.std.proofs.Common.{◌≡◌, ℕ, ◌+◌, List, Option, Some, None, ap, ◌∙◌}
use Rattle.replay_loop.proofs.Lines.{lines_are}
use Rattle.replay_loop.specs.Answers.{IsJudged}
use Rattle.replay_loop.specs.Outcomes.{outcome_text}
use Rattle.replay_loop.specs.declared.outcome.Outcome.{Outcome}
use Rattle.run_model.specs.World.{World}
use Rattle.text_model.specs.Runs.{reading_lines, text_of_lines}
use Rattle.text_model.specs.Words.{Text}
use Rattle.tx_records.specs.declared.record.Reading.{Reading}
use Rattle.embedded.specs.Standing.{Standing, after_line, after_reading}

-- the state and the text after what was read
pub answered_is : (w v : World) (n : ℕ) (r : Reading) (o : Outcome) (text : Text) → IsJudged w r (v, o) → text ≡ outcome_text n v o
    → record { world = Some v; line = n; text = text } ≡ after_reading w n (Some r)
answered_is w v n r o text (v_is, o_is) is =
    let told : text ≡ text_of_lines n (reading_lines w r) = is ∙ (λ i. outcome_text n (v_is i) (o_is i)) ∙ ap (text_of_lines n) (lines_are w r) in
    λ i. record { world = Some (v_is i); line = n; text = told i }

-- the line that is recorded is the next one
pub next_is : (w : World) (now n : ℕ) (line : List ℕ) (s : Standing) → s ≡ after_line w n line → n ≡ now + 1 → s ≡ after_line w (now + 1) line
next_is w now n line s is next = is ∙ ap (λ (m : ℕ). after_line w m line) next

-- the text alone is another, which the number of the last line determines
pub text_is : (s : Standing) (w : Option World) (n : ℕ) (was text : Text) (wanted : ℕ → Text) → record { world = w; line = n; text = was } ≡ s → text ≡ wanted n
    → record { world = w; line = n; text = text } ≡ record s { text = wanted s.line }
text_is s w n was text wanted view is = λ i. record { world = (view i).world; line = (view i).line; text = (is ∙ ap (λ (x : Standing). wanted x.line) view) i }

-- and it is closed
pub closed_is : (s : Standing) (w after : Option World) (n : ℕ) (was text wanted : Text) → record { world = w; line = n; text = was } ≡ s → after ≡ None → text ≡ wanted
    → ◌≡◌ {A = Standing} (record { world = after; line = n; text = text }) (record { world = None; line = s.line; text = wanted })
closed_is s w after n was text wanted view none is = λ i. record { world = none i; line = (view i).line; text = is i }
