-- A followed stream begins with the ledger of its genesis and an empty log. (Own)
use Rattle.std.specs.Prelude.{◌≡◌, Result, Ok, Err}
use Rattle.replay_loop.specs.Answers.{BeginsWith}
use Rattle.replay_loop.specs.declared.fault.AnswerFault.{AnswerFault}
use Rattle.replay_loop.specs.declared.outcome.Outcome.{Outcome}
use Rattle.follow_loop.specs.declared.outcome.FollowOutcome.{FollowOutcome}
use Rattle.follow_loop.specs.declared.outcome.FollowOutcome.TheVariants.{Plain}
use Rattle.tx_records.specs.declared.record.Reading.{Reading}
use Rattle.undo_log.specs.Logs.{empty_log}
use Rattle.following.specs.declared.followed.Followed.{Followed}

-- the state of what was read first and its pots, or the cause for which there is none
abbrev pub BeginsLogged : Reading → Result (Followed × FollowOutcome) AnswerFault → Type 0
BeginsLogged r (Ok (after, outcome)) =
    (o : Outcome) × BeginsWith r (Ok (after.held.ledger, o)) × (after.log ≡ empty_log) × (outcome ≡ Plain o)
BeginsLogged r (Err fault) = BeginsWith r (Err fault)
