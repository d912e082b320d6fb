-- How the turn of one reading ends. (Own)
use Rattle.std.specs.Prelude.{◌≡◌, ℕ, List, Option, Some, None, Result, Ok, Err, ⊤}
use Rattle.explain_print.specs.of_explain_model.Explained.{explained_lines, first_lines}
use Rattle.explain_print.specs.of_explain_model.of_record_notes.Lines.{Noted}
use Rattle.line_runs.specs.Batches.{Gathered}
use Rattle.line_runs.specs.Plays.{Goes, Turn}
use Rattle.line_runs.specs.Turns.{IsTurned}
use Rattle.replay_loop.specs.Plays.{answered}
use Rattle.replay_loop.specs.Statuses.{ReplayFault}
use Rattle.replay_loop.specs.declared.status.GenesisCause.{GenesisCause}
use Rattle.run_model.specs.World.{World}
use Rattle.text_model.specs.Runs.{text_of_lines}
use Rattle.text_model.specs.Words.{Text}
use Rattle.explain_loop.specs.Plays.{Failed, Over, Standing, Unbegun, begun}
use Rattle.explain_loop.specs.declared.place.Place.{Place}
use Rattle.explain_loop.specs.declared.place.Place.TheVariants as places

-- the lines of a reading, over the World before it, if there is one
abbrev pub told_lines : Option World → Noted → List (List Text)
told_lines None r = first_lines r
told_lines (Some w) r = explained_lines w r

-- they come ahead of the answer, which says how far the command is then
abbrev pub told_turn : Option World → ℕ → Noted → Turn Standing GenesisCause
told_turn o n r = Goes (begun (answered o r.reading)) (text_of_lines n (told_lines o r))

-- how far a command is, for states with such Worlds
abbrev pub standing_of : {State : Type 0} → (State → World) → Place State → Standing
standing_of world places.Unbegun = Unbegun
standing_of world (places.Over state) = Over (world state)
standing_of world (places.Failed cause) = Failed cause

-- if it ends well, the command is as far as the turn leads
abbrev pub IsExplainedTo : {State : Type 0} → (State → World) → Turn Standing GenesisCause → Gathered → Gathered → Result (Place State) ReplayFault → Type 0
IsExplainedTo world turn g g' (Ok after) = IsTurned (λ s. s ≡ standing_of world after) turn g g' (Ok tt)
IsExplainedTo world turn g g' (Err fault) = IsTurned (λ _. ⊤) turn g g' (Err fault)
