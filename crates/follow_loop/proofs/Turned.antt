-- An answer to a reading is what the play says of it.
use Rattle.std.proofs.Common.{◌≡◌, ◌∙◌, ℕ, [], Option, Some, None, Result, Ok, Err, ap, refl, subst, sym}
use Rattle.std.specs.Prelude.{⊤}
use Rattle.byte_lines.specs.declared.sink.SinkFault.{SinkFault}
use Rattle.byte_lines.specs.declared.sink.SinkFault.TheVariants as sink_faults
use Rattle.line_runs.specs.Batches.{Gathered, TellsAll, TellsPart}
use Rattle.line_runs.specs.Plays.{Goes, Stops, Turn}
use Rattle.line_runs.specs.Turns.{IsTurnOf, IsTurned, fault_of_sink}
use Rattle.line_runs.specs.declared.fault.RunFault.TheVariants as faults
use Rattle.line_runs.proofs.Fronts.{took_none}
use Rattle.run_model.specs.World.{World}
use Rattle.text_model.specs.Runs.{text_of_lines}
use Rattle.text_model.specs.Words.{Text}
use Rattle.tx_records.specs.declared.genesis.Genesis.{Genesis}
use Rattle.replay_loop.specs.Statuses.{fault_of_answer}
use Rattle.replay_loop.specs.declared.fault.AnswerFault.{AnswerFault}
use Rattle.replay_loop.specs.declared.fault.AnswerFault.TheVariants as answer_faults
use Rattle.replay_loop.specs.declared.status.GenesisCause.{GenesisCause}
use Rattle.follow_records.specs.declared.record.FollowReading.{FollowReading}
use Rattle.follow_model.specs.Chain.{Chain, world_of_chain}
use Rattle.follow_model.specs.FollowLines.{chain_after_reading, follow_reading_lines}
use Rattle.follow_loop.specs.Answers.{FollowAnswers, FollowsAt, IsSomewhere}
use Rattle.follow_loop.specs.Outcomes.{follow_outcome_lines, follow_outcome_text}
use Rattle.follow_loop.specs.Plays.{Position, after_reading, begun, first_turn, follow_play, follow_turn}
use Rattle.follow_loop.specs.Turns.{IsFollowedTo, StandsAt}
use Rattle.follow_loop.specs.declared.outcome.FollowOutcome.{FollowOutcome}
use Rattle.follow_loop.proofs.Lines.{lines_are}

-- too little memory tells nothing
lacking : (stands : Option Position → Type 0) (turn : Turn (Option Position) GenesisCause) (g : Gathered) → IsTurned stands turn g g (Err faults.NoMemory)
lacking stands (Goes s text) g = record { handed = []; took = took_none g.taken; front = (text, refl) }
lacking stands (Stops cause) g = refl

pub line_lacking : (stands : Option Position → Type 0) (s : Option Position) (n : ℕ) (said : Option FollowReading) (g : Gathered) → IsTurnOf follow_play stands s n said g g (Err faults.NoMemory)
line_lacking stands s n None g = refl
line_lacking stands s n (Some r) g = lacking stands (follow_turn s n r) g

module _ {State : Type 0} (follows : State → World → Chain → Type 0) (world : State → World) where
  -- the World of a state that follows a stream is that of its chain
  abbrev pub IsWorld : Type 0
  IsWorld = (state : State) (start : World) (c : Chain) → follows state start c → world state ≡ world_of_chain start c

  -- the turn leads to where the new state is, with this text
  record Leads (turn : Turn (Option Position) GenesisCause) (after : State) (text : Text) : Type 0 where
    at : Position
    is : turn ≡ Goes (Some at) text
    follows_at : FollowsAt follows after at

  leads : IsWorld → (before : Option State) (s : Option Position) (n : ℕ) (r : FollowReading) (after : State) (out : FollowOutcome) → StandsAt follows before s
      → FollowAnswers follows before r (Ok (after, out)) → Leads (follow_turn s n r) after (follow_outcome_text n (world after) out)
  leads law None None n r after out at (g, is, here, outcome) = record {
    at = begun g;
    is =
        ap (λ (x : Result Genesis GenesisCause). first_turn n x) is
        ∙ ap (λ (o : FollowOutcome). Goes (Some (begun g)) (follow_outcome_text n (world after) o)) (sym outcome);
    follows_at = here;
  }
  leads law (Some before) (Some p) n r after out at on =
      let c : Chain = chain_after_reading p.start p.chain r in
      let both = on p.start p.chain at in
      let lines : follow_outcome_lines (world after) out ≡ follow_reading_lines p.start p.chain r =
      ap (λ (w : World). follow_outcome_lines w out) (law after p.start c both.0)
      ∙ ap (λ (o : FollowOutcome). follow_outcome_lines (world_of_chain p.start c) o) both.1
      ∙ lines_are p.start p.chain r in record {
        at = after_reading p r;
        is = ap (λ ls. Goes (Some (after_reading p r)) (text_of_lines n ls)) (sym lines);
        follows_at = both.0;
      }
  leads law None (Some p) n r after out at on = absurd at
  leads law (Some before) None n r after out at on = absurd at

  -- there is an answer, and all its text was emitted
  pub turned_ok : IsWorld → (before : Option State) (s : Option Position) (n : ℕ) (r : FollowReading) (after : State) (out : FollowOutcome) (g g' : Gathered) → StandsAt follows before s
      → FollowAnswers follows before r (Ok (after, out)) → TellsAll g.taken g'.taken g.batch g'.batch (follow_outcome_text n (world after) out)
      → IsFollowedTo follows (follow_turn s n r) g g' (Ok after)
  turned_ok law before s n r after out g g' at is tells =
      let l = leads law before s n r after out at is in
      subst (λ (t : Turn (Option Position) GenesisCause). IsFollowedTo follows t g g' (Ok after)) (sym l.is) (l.follows_at, tells)

  -- or a prefix of it
  pub turned_short : IsWorld → (before : Option State) (s : Option Position) (n : ℕ) (r : FollowReading) (after : State) (out : FollowOutcome) (g g' : Gathered) (e : SinkFault)
      → StandsAt follows before s → FollowAnswers follows before r (Ok (after, out)) → TellsPart g.taken g'.taken g.batch g'.batch (follow_outcome_text n (world after) out)
      → IsFollowedTo follows (follow_turn s n r) g g' (Err (fault_of_sink e))
  turned_short law before s n r after out g g' sink_faults.WriteFault at is tells =
      let l = leads law before s n r after out at is in
      subst (λ (t : Turn (Option Position) GenesisCause). IsTurned (λ _. ⊤) t g g' (Err faults.WriteFault)) (sym l.is) tells
  turned_short law before s n r after out g g' sink_faults.NoMemory at is tells =
      let l = leads law before s n r after out at is in
      subst (λ (t : Turn (Option Position) GenesisCause). IsTurned (λ _. ⊤) t g g' (Err faults.NoMemory)) (sym l.is) tells

  -- there is none
  pub turned_none : (before : Option State) (s : Option Position) (n : ℕ) (r : FollowReading) (g : Gathered) (fault : AnswerFault) → StandsAt follows before s
      → FollowAnswers follows before r (Err fault) → IsFollowedTo follows (follow_turn s n r) g g (Err (fault_of_answer fault))
  turned_none before s n r g answer_faults.NoMemory at is = lacking (λ _. ⊤) (follow_turn s n r) g
  turned_none None None n r g (answer_faults.BadGenesis cause) at is =
      subst (λ (x : Result Genesis GenesisCause). IsTurned (λ _. ⊤) (first_turn n x) g g (Err (faults.Stop cause))) (sym is) (refl, refl)
  turned_none (Some before) (Some p) n r g (answer_faults.BadGenesis cause) at is = absurd is
  turned_none None (Some p) n r g (answer_faults.BadGenesis cause) at is = absurd at
  turned_none (Some before) None n r g (answer_faults.BadGenesis cause) at is = absurd at

  -- a state that is answered follows some stream
  pub still : (before : Option State) (r : FollowReading) (after : State) (out : FollowOutcome) → IsSomewhere follows before → FollowAnswers follows before r (Ok (after, out))
      → IsSomewhere follows (Some after)
  still None r after out somewhere (g, is, here, outcome) = (begun g, here)
  still (Some before) r after out (p, at) on = (after_reading p r, (on p.start p.chain at).0)
