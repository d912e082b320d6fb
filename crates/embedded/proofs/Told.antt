-- The texts of a session are the text of a run.
use Rattle.std.proofs.Common.{◌≡◌, ℕ, ◌+◌, List, [], ◌∷◌, ◌++◌, Option, Some, None, refl, sym, ap, subst, ◌∙◌, option_map}
use Rattle.std.specs.Prelude.{IfSome}
use Rattle.std.specs.List.{cons_option}
use Rattle.replay_loop.specs.Outcomes.{genesis_outcome, outcome_text}
use Rattle.run_model.specs.Genesis.{world_of_genesis}
use Rattle.run_model.specs.World.{World}
use Rattle.text_model.specs.Runs.{text_from, text_of_genesis, text_of_readings}
use Rattle.text_model.specs.Words.{Text}
use Rattle.tx_records.specs.declared.record.Reading.{Reading}
use Rattle.embedded.specs.Laws.{LineLeaves, SessionIsRun, records_in, texts_after, world_after_line, world_after_said}
use Rattle.embedded.specs.Standing.{Standing, after_line, after_reading, said_by}

said_leaves : (w : World) (n : ℕ) (said : Option Reading) → (after_reading w n said).world ≡ Some (world_after_said w said)
said_leaves w n None = refl
said_leaves w n (Some r) = refl

pub line_leaves : LineLeaves
line_leaves w n line = said_leaves w n (said_by line)

-- one line more
said_told : (w : World) (n : ℕ) (said : Option Reading) (rest : List (ℕ × Reading))
    → text_from w (cons_option (option_map (λ (r : Reading). (n, r)) said) rest) ≡ (after_reading w n said).text ++ text_from (world_after_said w said) rest
said_told w n None rest = refl
said_told w n (Some r) rest = refl

lines_told : (w : World) (n : ℕ) (lines : List (List ℕ)) → text_from w (records_in (n + 1) lines) ≡ texts_after w n lines
lines_told w n [] = refl
lines_told w n (line ∷ lines) =
    said_told w (n + 1) (said_by line) (records_in (n + 1 + 1) lines)
    ∙ ap (λ (t : Text). (after_line w (n + 1) line).text ++ t) (lines_told (world_after_line w line) (n + 1) lines)

pub session_is_run : SessionIsRun
session_is_run n genesis lines s b =
    let w : World = world_of_genesis b.genesis in
    let head : Text = outcome_text n w (genesis_outcome b.genesis) in
    let rest : List (ℕ × Reading) = records_in (n + 1) lines in
    subst (λ (x : Standing). IfSome x.world (λ v. text_of_readings (records_in n (genesis ∷ lines)) ≡ Some (x.text ++ texts_after v n lines))) (sym b.is)
    (ap (λ (said : Option Reading). text_of_readings (cons_option (option_map (λ (r : Reading). (n, r)) said) rest)) b.said
    ∙ ap (λ f. text_of_genesis n b.genesis f rest) b.unbroken
    ∙ ap (λ (t : Text). Some (head ++ t)) (lines_told w n lines))
