-- How a record moves a ledger with its undo log. (Own)
use Rattle.std.specs.Prelude.{◌≡◌, ℕ, Bool, true, false, Option, Some, None, Result, Ok, Err, ⊤}
use Rattle.replay_loop.specs.Outcomes.{outcome_of}
use Rattle.replay_loop.specs.declared.fault.AnswerFault.{AnswerFault}
use Rattle.replay_loop.specs.declared.fault.AnswerFault.TheVariants as faults
use Rattle.replay_loop.specs.declared.outcome.Outcome.{Outcome}
use Rattle.follow_loop.specs.declared.outcome.FollowOutcome.{FollowOutcome}
use Rattle.follow_loop.specs.declared.outcome.FollowOutcome.TheVariants as outcomes
use Rattle.run_model.specs.Step.{enters_next, refusal_of, step}
use Rattle.run_model.specs.World.{World}
use Rattle.text_model.specs.Runs.{world_after_reading}
use Rattle.tx_records.specs.declared.record.Reading.{Reading}
use Rattle.tx_records.specs.declared.record.Reading.TheVariants as readings
use Rattle.tx_records.specs.declared.record.Record.{Record}
use Rattle.tx_records.specs.declared.record.Record.TheVariants as records
use Rattle.tx_records.specs.declared.reply.Reply.{Reply}
use Rattle.tx_records.specs.declared.reply.Reply.TheVariants.{Refused}
use Rattle.tx_records.specs.declared.reply.Rule.{Rule}
use Rattle.undo_log.specs.Back.{back_reply, cut_at, mark_at, world_at}
use Rattle.undo_log.specs.Logs.{IsInOrder, Log, empty_log, with_entry, with_mark}
use Rattle.undo_model.specs.Holds.{Holds}
use Rattle.undo_model.specs.Undone.{Before}
use Rattle.following.specs.declared.followed.Followed.{Followed}

-- ---- the log

-- with the mark of a record, if it is a block
abbrev pub marked : Record → Log → Log
marked (records.Block slot pulse) log = with_mark slot log
marked _ log = log

-- after an accepted record within the epoch: old values of the World before it, and its mark
pub record IsLogged (w : World) (log : Log) (r : Record) (after : Log) : Type 0 where
  pub old : Before
  pub holds : Holds w old (step w r).0
  pub is : after ≡ marked r (with_entry old log)

-- after an accepted block, by whether its slot is in the next epoch
abbrev pub IsLoggedBlock : Bool → World → Log → ℕ → ℕ → Log → Type 0
IsLoggedBlock true w log slot pulse after = after ≡ with_mark slot empty_log
IsLoggedBlock false w log slot pulse after = IsLogged w log (records.Block slot pulse) after

-- after an accepted record; a print leaves no trace
abbrev pub IsLogAccepted : World → Log → Record → Log → Type 0
IsLogAccepted w log (records.Block slot pulse) after = IsLoggedBlock (enters_next w.ledger slot) w log slot pulse after
IsLogAccepted w log (records.Rewards u) after = IsLogged w log (records.Rewards u) after
IsLogAccepted w log (records.Tx tx) after = IsLogged w log (records.Tx tx) after
IsLogAccepted w log r after = after ≡ log

-- after a record, by the first rule that it breaks; a refused one leaves no trace
abbrev pub IsLogBy : Option Rule → World → Log → Record → Log → Type 0
IsLogBy (Some rule) w log r after = after ≡ log
IsLogBy None w log r after = IsLogAccepted w log r after

-- after what was read
abbrev pub IsLogAfter : World → Log → Reading → Log → Type 0
IsLogAfter w log (readings.Read r) after = IsLogBy (refusal_of w r) w log r after
IsLogAfter w log _ after = after ≡ log

-- with these old values, unless the reply is a refusal
abbrev pub logged_by : Reply → Before → Log → Log
logged_by (Refused rule) old log = log
logged_by reply old log = with_entry old log

-- ---- the World with it

-- the World and the log after what was read
pub record IsMoved (w : World) (before : Log) (r : Reading) (v : World) (after : Log) : Type 0 where
  pub world : v ≡ world_after_reading w r
  pub log : IsLogAfter w before r after

-- with its outcome; there is no answer only if memory ran out
abbrev pub Moves : World → Log → Reading → Result (Followed × Outcome) AnswerFault → Type 0
Moves w log r (Ok (after, outcome)) = IsMoved w log r after.held.ledger after.log × (outcome ≡ outcome_of w r)
Moves w log r (Err (faults.BadGenesis cause)) = ⊥
Moves w log r (Err faults.NoMemory) = ⊤

-- with its outcome in a followed stream
abbrev pub GoesOn : World → Log → Reading → Result (Followed × FollowOutcome) AnswerFault → Type 0
GoesOn w log r (Ok (after, outcome)) = IsMoved w log r after.held.ledger after.log × (outcome ≡ outcomes.Plain (outcome_of w r))
GoesOn w log r (Err (faults.BadGenesis cause)) = ⊥
GoesOn w log r (Err faults.NoMemory) = ⊤

-- as in a replay, with the same log
abbrev pub PassesOn : World → Log → Reading → Result (Followed × Outcome) AnswerFault → Type 0
PassesOn w log r (Ok (after, outcome)) =
    (after.held.ledger ≡ world_after_reading w r) × (after.log ≡ log) × (outcome ≡ outcome_of w r)
PassesOn w log r (Err (faults.BadGenesis cause)) = ⊥
PassesOn w log r (Err faults.NoMemory) = ⊤

-- ---- a rollback

-- the outcome of a rollback with this reply, over the World that it left
abbrev pub outcome_over : World → Reply → FollowOutcome
outcome_over w (Refused rule) = outcomes.Unknown w.ledger.slot
outcome_over w reply = outcomes.Rolled

-- the World, the log and the outcome after a rollback
pub record IsBack (w : World) (before : Log) (slot : ℕ) (v : World) (after : Log) (told : FollowOutcome) : Type 0 where
  pub world : v ≡ world_at slot before w
  pub log : after ≡ cut_at slot before
  pub outcome : told ≡ outcome_over w (back_reply (mark_at slot before.marks) w)
  pub order : IsInOrder after

-- the same of a result; there is no answer only if memory ran out
abbrev pub GoesBack : World → Log → ℕ → Result (Followed × FollowOutcome) AnswerFault → Type 0
GoesBack w log slot (Ok (after, outcome)) = IsBack w log slot after.held.ledger after.log outcome
GoesBack w log slot (Err (faults.BadGenesis cause)) = ⊥
GoesBack w log slot (Err faults.NoMemory) = ⊤
