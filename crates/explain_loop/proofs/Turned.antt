-- An answer to a reading says where the command stands then.
use Rattle.std.proofs.Common.{◌≡◌, ◌∙◌, ◌++◌, ℕ, [], Option, Some, None, Result, Ok, Err, ap, append-nil, refl, subst, sym}
use Rattle.line_runs.specs.Batches.{Gathered, TellsAll, TellsPart}
use Rattle.line_runs.specs.Plays.{Goes, Stops, Turn}
use Rattle.line_runs.specs.Turns.{IsTurnOf, IsTurned}
use Rattle.line_runs.specs.declared.fault.RunFault.TheVariants as faults
use Rattle.gathered_lines.proofs.Gathering.{no_part}
use Rattle.run_model.specs.Genesis.{genesis_fault, world_of_genesis}
use Rattle.run_model.specs.World.{World}
use Rattle.text_model.specs.Runs.{text_of_lines}
use Rattle.text_model.specs.Words.{Text}
use Rattle.tx_records.specs.declared.genesis.Genesis.{Genesis}
use Rattle.tx_records.specs.declared.genesis.GenesisRule.{GenesisRule}
use Rattle.tx_records.specs.declared.record.Reading.{Reading}
use Rattle.replay_loop.specs.Answers.{Answers}
use Rattle.replay_loop.specs.Plays.{answered, first_answered, genesis_answered}
use Rattle.replay_loop.specs.Runs.{reading_fault}
use Rattle.replay_loop.specs.declared.fault.AnswerFault.TheVariants as answer_faults
use Rattle.replay_loop.specs.declared.outcome.Outcome.{Outcome}
use Rattle.replay_loop.specs.declared.status.GenesisCause.{GenesisCause}
use Rattle.replay_loop.proofs.Played.{FirstBy, read_first}
use Rattle.explain_print.specs.of_explain_model.of_record_notes.Lines.{Noted}
use Rattle.explain_loop.specs.Plays.{Failed, Over, Standing, begun, explain_play, explain_turn}
use Rattle.explain_loop.specs.Turns.{IsExplainedTo, told_lines, told_turn}
use Rattle.explain_loop.specs.declared.place.Place.TheVariants as places

-- too little memory tells nothing
lacking : (stands : Standing → Type 0) (turn : Turn Standing GenesisCause) (g : Gathered) → IsTurned stands turn g g (Err faults.NoMemory)
lacking stands (Goes s text) g = no_part g text
lacking stands (Stops cause) g = refl

pub line_lacking : (stands : Standing → Type 0) (s : Standing) (n : ℕ) (said : Option Noted) (g : Gathered) → IsTurnOf explain_play stands s n said g g (Err faults.NoMemory)
line_lacking stands s n None g = refl
line_lacking stands s n (Some r) g = lacking stands (explain_turn s n r) g

-- there is a World
genesis_ok : (found : Option GenesisRule) (g : Genesis) → found ≡ None → begun (genesis_answered found g) ≡ Over (world_of_genesis g)
genesis_ok None g e = refl
genesis_ok (Some rule) g e = cc

begun_ok : (o : Option World) (r : Reading) (w : World) (out : Outcome) → Answers o r (Ok (w, out)) → begun (answered o r) ≡ Over w
begun_ok None r w out is =
    ap (λ (x : Reading). begun (first_answered x)) is.1
    ∙ genesis_ok (genesis_fault is.0) is.0 is.2.0
    ∙ ap (λ (v : World). Over v) (sym is.2.1)
begun_ok (Some v) r w out is = ap (λ (x : World). Over x) (sym is.0)

-- there is none
fails_by : (a : Result (World × Outcome) GenesisCause) (fault : Option GenesisCause) (cause : GenesisCause) → FirstBy a fault → fault ≡ Some cause → begun a ≡ Failed cause
fails_by (Ok p) fault cause first is = let both : None ≡ Some cause = sym first ∙ is in cc
fails_by (Err c) fault cause first is =
    let same : Some c ≡ Some cause = sym first.0 ∙ is in
    let causes_are : c ≡ cause = cc in
    ap (λ (x : GenesisCause). Failed x) causes_are

begun_bad : (o : Option World) (r : Reading) (cause : GenesisCause) → Answers o r (Err (answer_faults.BadGenesis cause)) → begun (answered o r) ≡ Failed cause
begun_bad None r cause is = fails_by (first_answered r) (reading_fault r) cause (read_first r) is
begun_bad (Some w) r cause is = absurd is

-- all of a text is also a prefix of it
all_part : (g g' : Gathered) (text : Text) → TellsAll g.taken g'.taken g.batch g'.batch text → TellsPart g.taken g'.taken g.batch g'.batch text
all_part g g' text all = record { handed = all.handed; took = all.took; front = ([], sym all.all ∙ sym (append-nil (all.handed ++ g'.batch))) }

module _ {State : Type 0} (world : State → World) (o : Option World) (n : ℕ) (r : Noted) (reading : Reading) (is_read : reading ≡ r.reading) (g g' : Gathered) where
  abbrev Told : Type 0
  Told = TellsAll g.taken g'.taken g.batch g'.batch (text_of_lines n (told_lines o r))

  -- by the answer
  pub turned_over : (after : State) (out : Outcome) → Answers o reading (Ok (world after, out)) → Told → IsExplainedTo world (told_turn o n r) g g' (Ok (places.Over after))
  turned_over after out is told = (begun_ok o r.reading (world after) out (subst (λ (x : Reading). Answers o x (Ok (world after, out))) is_read is), told)

  pub turned_failed : (cause : GenesisCause) → Answers o reading (Err (answer_faults.BadGenesis cause)) → Told → IsExplainedTo world (told_turn o n r) g g' (Ok (places.Failed cause))
  turned_failed cause is told = (begun_bad o r.reading cause (subst (λ (x : Reading). Answers o x (Err (answer_faults.BadGenesis cause))) is_read is), told)

  -- memory ran out for it
  pub turned_none : Told → IsExplainedTo world (told_turn o n r) g g' (Err faults.NoMemory)
  turned_none told = all_part g g' (text_of_lines n (told_lines o r)) told
