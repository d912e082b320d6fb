use Rattle.std.proofs.Common.{◌≡◌, true, subst, sym}
use Rattle.follow_loop.specs.Answers.{FollowsOn}
use Rattle.follow_loop.specs.Readings.{is_reading_within}
use Rattle.follow_records.specs.declared.record.FollowReading.{FollowReading}
use Rattle.follow_records.specs.declared.record.FollowReading.TheVariants.{Read}
use Rattle.follow_records.specs.declared.record.FollowRecord.TheVariants.{Plain, Rollback}
use Rattle.following.specs.Follows.{follows_state}
use Rattle.following.proofs.Following.{marks_of_followed}
use Rattle.following.proofs.Leading.{goes_back_to, goes_on_read}
use Rattle.following.proofs.answer.go_on.Goals as goal

pub go_on_plainly-requires-clause-past : goal.go_on_plainly-requires-clause-past
go_on_plainly-requires-clause-past g c =
    λ lives outlive. marks_of_followed c.args.state.held.ledger c.args.state.log c.requires.somewhere.0.start c.requires.somewhere.0.chain c.requires.somewhere.1

pub go_on_plainly-requires-in-Malformed-clause-past : goal.go_on_plainly-requires-in-Malformed-clause-past
go_on_plainly-requires-in-Malformed-clause-past g c =
    λ lives outlive. marks_of_followed c.args.state.held.ledger c.args.state.log c.requires.somewhere.0.start c.requires.somewhere.0.chain c.requires.somewhere.1

pub go_on_plainly-requires-in-TooLong-clause-past : goal.go_on_plainly-requires-in-TooLong-clause-past
go_on_plainly-requires-in-TooLong-clause-past g c =
    λ lives outlive. marks_of_followed c.args.state.held.ledger c.args.state.log c.requires.somewhere.0.start c.requires.somewhere.0.chain c.requires.somewhere.1

pub returns-in-Read-Plain : goal.returns-in-Read-Plain
returns-in-Read-Plain g c =
    let is : c.args.reading ≡ Read (Plain c.in-Read-Plain.record) = cc in
    subst (λ (r : FollowReading). FollowsOn follows_state c.args.state r c.go_on_plainly.result) (sym is)
    (goes_on_read c.args.state c.in-Read-Plain.record c.go_on_plainly.result c.is_in_order.ensures
    (subst (λ (r : FollowReading). is_reading_within r ≡ true) is c.requires.within) c.go_on_plainly.ensures)

pub returns-in-Read-Rollback : goal.returns-in-Read-Rollback
returns-in-Read-Rollback g c =
    let is : c.args.reading ≡ Read (Rollback c.in-Read-Rollback.slot) = cc in
    subst (λ (r : FollowReading). FollowsOn follows_state c.args.state r c.after_rollback.result) (sym is)
    (goes_back_to c.args.state c.in-Read-Rollback.slot c.after_rollback.result c.is_in_order.ensures
    (subst (λ (r : FollowReading). is_reading_within r ≡ true) is c.requires.within) c.after_rollback.ensures)
