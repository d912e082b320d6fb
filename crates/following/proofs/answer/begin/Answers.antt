use Rattle.std.proofs.Common.{◌≡◌, true, subst, sym}
use Rattle.follow_loop.specs.Answers.{BeginsFollow}
use Rattle.follow_loop.specs.Readings.{is_reading_within}
use Rattle.follow_records.specs.declared.record.FollowReading.{FollowReading}
use Rattle.follow_records.specs.declared.record.FollowReading.TheVariants.{Read}
use Rattle.follow_records.specs.declared.record.FollowRecord.TheVariants.{Plain}
use Rattle.following.specs.Follows.{follows_state}
use Rattle.following.proofs.Leading.{begins_read}
use Rattle.following.proofs.answer.begin.Goals as goal

pub returns-in-Read-Plain : goal.returns-in-Read-Plain
returns-in-Read-Plain g c =
    let is : c.args.reading ≡ Read (Plain c.in-Read-Plain.record) = cc in
    subst (λ (r : FollowReading). BeginsFollow follows_state r c.begin_with.result) (sym is)
    (begins_read c.in-Read-Plain.record c.begin_with.result (subst (λ (r : FollowReading). is_reading_within r ≡ true) is c.requires.within) c.begin_with.ensures)
