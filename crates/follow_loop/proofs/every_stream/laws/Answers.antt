use Rattle.follow_loop.proofs.Told.{complete, done_is_whole, text_is_followed}
use Rattle.follow_loop.proofs.Streams.{followed, leave_chain}
use Rattle.follow_loop.proofs.every_stream.laws.Goals as goal

pub returns-clause-whole : goal.returns-clause-whole
returns-clause-whole c = done_is_whole

pub returns-clause-text : goal.returns-clause-text
returns-clause-text c = text_is_followed

pub returns-clause-complete : goal.returns-clause-complete
returns-clause-complete c = complete c.whole_lines.ensures.adds_up

pub returns-clause-chain : goal.returns-clause-chain
returns-clause-chain c = leave_chain

pub returns-clause-followed : goal.returns-clause-followed
returns-clause-followed c = followed c.lines_read_within_limits.ensures

pub returns-clause-kept : goal.returns-clause-kept
returns-clause-kept c = c.kept_are_accepted.ensures

pub returns-clause-sound : goal.returns-clause-sound
returns-clause-sound c = c.followed_is_sound.ensures

pub returns-clause-count : goal.returns-clause-count
returns-clause-count c = c.count_never_falls.ensures

pub returns-clause-epoch : goal.returns-clause-epoch
returns-clause-epoch c = c.rollback_stays_in_epoch.ensures

pub returns-clause-supply : goal.returns-clause-supply
returns-clause-supply c = c.followed_supply_stays.ensures
