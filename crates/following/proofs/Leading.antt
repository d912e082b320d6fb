-- What is answered to what was read leads on along the followed stream.
use Rattle.std.proofs.Common.{◌≡◌, ◌∙◌, ℕ, true, Option, Some, None, Result, Ok, Err, option_map, refl, ap, sym, subst}
use Rattle.replay_loop.specs.Outcomes.{outcome_by, outcome_of}
use Rattle.replay_loop.specs.Runs.{reading_fault}
use Rattle.replay_loop.specs.declared.fault.AnswerFault.{AnswerFault}
use Rattle.replay_loop.specs.declared.fault.AnswerFault.TheVariants as faults
use Rattle.replay_loop.specs.declared.outcome.Outcome.{Outcome}
use Rattle.replay_loop.specs.declared.status.GenesisCause.{GenesisCause}
use Rattle.replay_loop.specs.declared.status.GenesisCause.TheVariants as causes
use Rattle.run_model.specs.Genesis.{genesis_fault, world_of_genesis}
use Rattle.run_model.specs.Step.{refusal_of, step_by}
use Rattle.run_model.specs.World.{World}
use Rattle.tx_records.specs.declared.genesis.Genesis.{Genesis}
use Rattle.tx_records.specs.declared.genesis.GenesisRule.{GenesisRule}
use Rattle.tx_records.specs.declared.record.Reading.TheVariants as readings
use Rattle.tx_records.specs.declared.record.Record.{Record}
use Rattle.tx_records.specs.declared.record.Record.TheVariants as records
use Rattle.tx_records.specs.declared.reply.Reply.{Reply}
use Rattle.tx_records.specs.declared.reply.Rule.{Rule}
use Rattle.follow_records.specs.declared.record.FollowReading.TheVariants.{Read}
use Rattle.follow_records.specs.declared.record.FollowRecord.TheVariants.{Plain, Rollback}
use Rattle.follow_model.specs.Chain.{Chain, no_records, world_of_chain}
use Rattle.follow_model.specs.Follow.{follow_step_by}
use Rattle.follow_model.specs.Laws.{is_within_limits}
use Rattle.follow_loop.specs.Answers.{BeginsFollow, FollowsOn}
use Rattle.follow_loop.specs.Outcomes.{follow_outcome_of}
use Rattle.follow_loop.specs.Plays.{genesis_by, genesis_read}
use Rattle.follow_loop.specs.declared.outcome.FollowOutcome.{FollowOutcome}
use Rattle.follow_loop.specs.declared.outcome.FollowOutcome.TheVariants as outcomes
use Rattle.undo_log.specs.Logs.{IsInOrder, Log}
use Rattle.following.specs.Begins.{BeginsLogged}
use Rattle.following.specs.Follows.{Follows, follows_state}
use Rattle.following.specs.Moves.{GoesBack, GoesOn}
use Rattle.following.specs.declared.followed.Followed.{Followed}
use Rattle.following.proofs.Following.{followed_back, followed_plain, follows_genesis}

-- ---- the genesis

cause_by : (o : Option GenesisRule) (g : Genesis) (cause : GenesisCause) → option_map causes.Broken o ≡ Some cause → genesis_by o g ≡ Err cause
cause_by None g cause e = cc
cause_by (Some rule) g cause e = cc

cause_read : (r : Record) (cause : GenesisCause) → reading_fault (readings.Read r) ≡ Some cause → genesis_read (Read (Plain r)) ≡ Err cause
cause_read (records.Genesis g) cause e = cause_by (genesis_fault g) g cause e
cause_read (records.Block slot pulse) cause e = cc
cause_read (records.Rewards u) cause e = cc
cause_read (records.Tx tx) cause e = cc
cause_read (records.Print what) cause e = cc

record_is : (r s : Record) → readings.Read r ≡ readings.Read s → r ≡ s
record_is r s e = cc

pub begins_read : (r : Record) (result : Result (Followed × FollowOutcome) AnswerFault) → is_within_limits (Plain r) ≡ true → BeginsLogged (readings.Read r) result → BeginsFollow follows_state (Read (Plain r)) result
begins_read r (Ok (after, outcome)) within h =
    let g : Genesis = h.1.0 in
    let is : r ≡ records.Genesis g = record_is r (records.Genesis g) h.1.1 in
    let none : genesis_fault g ≡ None = h.1.2.0 in (
      g,
      ap (λ (x : Record). genesis_read (Read (Plain x))) is ∙ ap (λ (o : Option GenesisRule). genesis_by o g) none,
      subst (λ (w : World). Follows w after.log (world_of_genesis g) no_records) (sym h.1.2.1)
          (subst (λ (log : Log). Follows (world_of_genesis g) log (world_of_genesis g) no_records) (sym h.2)
          (follows_genesis g (subst (λ (x : Record). is_within_limits (Plain x) ≡ true) is within) none)),
      h.3 ∙ ap (λ (o : Outcome). outcomes.Plain o) h.1.2.2,
    )
begins_read r (Err (faults.BadGenesis cause)) within h = cause_read r cause h
begins_read r (Err faults.NoMemory) within h = tt

-- ---- what follows it

reply_by : (o : Option Rule) (c : Chain) (w : World) (r : Record) → (follow_step_by o c (Plain r)).1 ≡ (step_by o w r).1
reply_by (Some rule) c w r = refl
reply_by None c w r = refl

-- the outcome of a record of a replay
outcome_read : (w begins : World) (c : Chain) (r : Record) → w ≡ world_of_chain begins c → outcomes.Plain (outcome_of w (readings.Read r)) ≡ follow_outcome_of begins c (Read (Plain r))
outcome_read w begins c r is =
    let there : World = world_of_chain begins c in
    ap (λ (x : World). outcomes.Plain (outcome_of x (readings.Read r))) is
    ∙ ap (λ (reply : Reply). outcomes.Plain (outcome_by reply r there)) (sym (reply_by (refusal_of there r) c there r))

pub goes_on_read : (s : Followed) (r : Record) (result : Result (Followed × FollowOutcome) AnswerFault) → IsInOrder s.log → is_within_limits (Plain r) ≡ true → GoesOn s.held.ledger s.log (readings.Read r) result
    → FollowsOn follows_state s (Read (Plain r)) result
goes_on_read s r (Ok (after, outcome)) order within h = λ begins c f. (
  followed_plain s.held.ledger s.log begins c f order r within after.held.ledger after.log h.0.world h.0.log,
  h.1 ∙ outcome_read s.held.ledger begins c r f.world,
)
goes_on_read s r (Err (faults.BadGenesis cause)) order within h = h
goes_on_read s r (Err faults.NoMemory) order within h = tt

pub goes_back_to : (s : Followed) (slot : ℕ) (result : Result (Followed × FollowOutcome) AnswerFault) → IsInOrder s.log → is_within_limits (Rollback slot) ≡ true → GoesBack s.held.ledger s.log slot result
    → FollowsOn follows_state s (Read (Rollback slot)) result
goes_back_to s slot (Ok (after, outcome)) order within h = λ begins c f.
    let there = followed_back s.held.ledger s.log begins c f order slot within after.held.ledger after.log h.world h.log h.order in (
      there.0,
      h.outcome ∙ there.1,
    )
goes_back_to s slot (Err (faults.BadGenesis cause)) order within h = h
goes_back_to s slot (Err faults.NoMemory) order within h = tt
