use Rattle.std.proofs.Common.{arith}
use Rattle.std.proofs.lemmas.Grind.{common_steps}
use Rattle.follow_read.specs.Lines.{ReadsFollow, follow_record_of_line}
use Rattle.follow_read.proofs.FollowsWithin.{follow_within}
use Rattle.follow_read.proofs.lines.read_follow.Goals as goal

pub returns-clause-within : goal.returns-clause-within
returns-clause-within c =
    let reads : ReadsFollow c.follow_record.result (follow_record_of_line c.args.line.now) = grind (arith, common_steps) in
    follow_within c.args.line.now c.follow_record.result (c.lines_read_within_limits.ensures c.args.line.now) reads
