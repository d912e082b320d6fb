-- An answer to a record is what the play says of it.
use Rattle.std.proofs.Common.{◌≡◌, ℕ, ◌++◌, [], Option, Some, None, Result, Ok, Err, refl, sym, ap, subst, ◌∙◌}
use Rattle.std.specs.Prelude.{⊤}
use Rattle.byte_lines.specs.declared.sink.SinkFault.{SinkFault}
use Rattle.byte_lines.specs.declared.sink.SinkFault.TheVariants as sink_faults
use Rattle.line_runs.specs.Batches.{Gathered}
use Rattle.line_runs.specs.Plays.{Goes, Stops, Turn}
use Rattle.line_runs.specs.Turns.{IsTurned, fault_of_sink}
use Rattle.line_runs.specs.declared.fault.RunFault.TheVariants as faults
use Rattle.gathered_lines.proofs.Gathering.{All, Part, both_told, more_part, no_part, then_part}
use Rattle.run_model.specs.Genesis.{genesis_fault, world_of_genesis}
use Rattle.run_model.specs.World.{World}
use Rattle.text_model.specs.Words.{Text}
use Rattle.tx_records.specs.declared.genesis.Genesis.{Genesis}
use Rattle.tx_records.specs.declared.genesis.GenesisRule.{GenesisRule}
use Rattle.tx_records.specs.declared.record.Reading.{Reading}
use Rattle.replay_loop.specs.Answers.{Answers}
use Rattle.replay_loop.specs.Outcomes.{genesis_outcome, outcome_of}
use Rattle.replay_loop.specs.Plays.{Stood, Telling, ahead_by, answered, first_answered, genesis_answered, turn_by}
use Rattle.replay_loop.specs.Runs.{reading_fault}
use Rattle.replay_loop.specs.Statuses.{fault_of_answer}
use Rattle.replay_loop.specs.Turns.{HasToldAhead, IsTurnedTo}
use Rattle.replay_loop.specs.declared.fault.AnswerFault.{AnswerFault}
use Rattle.replay_loop.specs.declared.fault.AnswerFault.TheVariants as answer_faults
use Rattle.replay_loop.specs.declared.outcome.Outcome.{Outcome}
use Rattle.replay_loop.specs.declared.status.GenesisCause.{GenesisCause}
use Rattle.replay_loop.proofs.Played.{FirstBy, read_first}

genesis_ok : (found : Option GenesisRule) (g : Genesis) → found ≡ None → genesis_answered found g ≡ Ok (world_of_genesis g, genesis_outcome g)
genesis_ok None g e = refl
genesis_ok (Some rule) g e = cc

-- there is an answer
answered_ok : (o : Option World) (r : Reading) (w : World) (out : Outcome) → Answers o r (Ok (w, out)) → answered o r ≡ Ok (w, out)
answered_ok None r w out is =
    ap (λ (x : Reading). first_answered x) is.1
    ∙ genesis_ok (genesis_fault is.0) is.0 is.2.0
    ∙ ap (λ (v : World). Ok (v, genesis_outcome is.0)) (sym is.2.1)
    ∙ ap (λ (y : Outcome). Ok (w, y)) (sym is.2.2)
answered_ok (Some v) r w out is = ap (λ (x : World). Ok (x, outcome_of v r)) (sym is.0) ∙ ap (λ (y : Outcome). Ok (w, y)) (sym is.1)

-- there is none
stops_by : (a : Result (World × Outcome) GenesisCause) (fault : Option GenesisCause) (cause : GenesisCause) → FirstBy a fault → fault ≡ Some cause → a ≡ Err cause
stops_by (Ok p) fault cause first is = let both : None ≡ Some cause = sym first ∙ is in cc
stops_by (Err c) fault cause first is = let same : Some c ≡ Some cause = sym first.0 ∙ is in cc

module _ {State Kept : Type 0} (t : Telling Kept) (world : State → World) (k k' : Kept) (n : ℕ) where
  -- all that comes ahead, and then the text of the record, or a prefix of it
  both_ahead : (o : Option World) (r : Reading) (g m g' : Gathered) (text : Text) → HasToldAhead t k o r g m (Ok tt) → All m g' text → All g g' (ahead_by t k o r ++ text)
  both_ahead None r g m g' text ahead tells = subst (λ (x : Gathered). All x g' text) ahead tells
  both_ahead (Some w) r g m g' text ahead tells = both_told g m g' (t.aheads k w r) text ahead tells

  part_ahead : (o : Option World) (r : Reading) (g m g' : Gathered) (text : Text) → HasToldAhead t k o r g m (Ok tt) → Part m g' text → Part g g' (ahead_by t k o r ++ text)
  part_ahead None r g m g' text ahead tells = subst (λ (x : Gathered). Part x g' text) ahead tells
  part_ahead (Some w) r g m g' text ahead tells = then_part g m g' (t.aheads k w r) text ahead tells

  module _ (o : Option World) (r : Reading) (g m : Gathered) (ahead : HasToldAhead t k o r g m (Ok tt)) where
    abbrev turn_of : Result (World × Outcome) GenesisCause → Turn (Stood Kept) GenesisCause
    turn_of a = turn_by t k n (ahead_by t k o r) a

    -- what is kept stays while this is told
    module _ (now : Kept) (kept_now : now ≡ k) where
      pub turned_ok : (after : State) (out : Outcome) (g' : Gathered) → Answers o r (Ok (world after, out)) → k' ≡ t.keeps now n (world after) out
          → All m g' (t.tells now n (world after) out) → IsTurnedTo world k' (turn_of (answered o r)) g g' (Ok after)
      turned_ok after out g' is kept tells =
          subst (λ (a : Result (World × Outcome) GenesisCause). IsTurnedTo world k' (turn_of a) g g' (Ok after)) (sym (answered_ok o r (world after) out is)) (
            ap (λ (x : Kept). record { state = Some (world after); kept = x }) (sym (kept ∙ ap (λ (x : Kept). t.keeps x n (world after) out) kept_now)),
            both_ahead o r g m g' (t.tells k n (world after) out) ahead (subst (λ (x : Kept). All m g' (t.tells x n (world after) out)) kept_now tells),
          )

      pub turned_short : (after : State) (out : Outcome) (g' : Gathered) (e : SinkFault) → Answers o r (Ok (world after, out))
          → Part m g' (t.tells now n (world after) out) → IsTurnedTo world k' (turn_of (answered o r)) g g' (Err (fault_of_sink e))
      turned_short after out g' e is tells =
          let told : Part m g' (t.tells k n (world after) out) = subst (λ (x : Kept). Part m g' (t.tells x n (world after) out)) kept_now tells in
          short e (part_ahead o r g m g' (t.tells k n (world after) out) ahead told) where
            short : (e : SinkFault) → Part g g' (ahead_by t k o r ++ t.tells k n (world after) out) → IsTurnedTo world k' (turn_of (answered o r)) g g' (Err (fault_of_sink e))
            short sink_faults.WriteFault part = subst (λ (a : Result (World × Outcome) GenesisCause). IsTurned (λ _. ⊤) (turn_of a) g g' (Err faults.WriteFault)) (sym (answered_ok o r (world after) out is)) part
            short sink_faults.NoMemory part = subst (λ (a : Result (World × Outcome) GenesisCause). IsTurned (λ _. ⊤) (turn_of a) g g' (Err faults.NoMemory)) (sym (answered_ok o r (world after) out is)) part

  -- memory ran out for the answer to what came first
  lacking : (g m : Gathered) (a : Result (World × Outcome) GenesisCause) → m ≡ g → IsTurned (λ _. ⊤) (turn_by t k n [] a) g m (Err faults.NoMemory)
  lacking g m (Ok (w, out)) same = subst (λ (x : Gathered). Part x m (t.tells k n w out)) same (no_part m (t.tells k n w out))
  lacking g m (Err cause) same = same

  pub turned_none : (o : Option World) (r : Reading) (g m : Gathered) (fault : AnswerFault) → HasToldAhead t k o r g m (Ok tt) → Answers o r (Err fault)
      → IsTurnedTo world k' (turn_by t k n (ahead_by t k o r) (answered o r)) g m (Err (fault_of_answer fault))
  turned_none None r g m (answer_faults.BadGenesis cause) ahead is =
      subst (λ (a : Result (World × Outcome) GenesisCause). IsTurned (λ _. ⊤) (turn_by t k n [] a) g m (Err (faults.Stop cause))) (sym (stops_by (first_answered r) (reading_fault r) cause (read_first r) is)) (refl, ahead)
  turned_none (Some w) r g m (answer_faults.BadGenesis cause) ahead is = absurd is
  turned_none None r g m answer_faults.NoMemory ahead is = lacking g m (first_answered r) ahead
  turned_none (Some w) r g m answer_faults.NoMemory ahead is = then_part g m m (t.aheads k w r) _ ahead (no_part m _)

  -- what comes ahead was not told whole
  pub turned_ahead : (o : Option World) (r : Reading) (g m : Gathered) (e : SinkFault) → HasToldAhead t k o r g m (Err e)
      → IsTurnedTo world k' (turn_by t k n (ahead_by t k o r) (answered o r)) g m (Err (fault_of_sink e))
  turned_ahead None r g m e ahead = absurd ahead
  turned_ahead (Some w) r g m sink_faults.WriteFault ahead = more_part g m (t.aheads k w r) _ ahead
  turned_ahead (Some w) r g m sink_faults.NoMemory ahead = more_part g m (t.aheads k w r) _ ahead
