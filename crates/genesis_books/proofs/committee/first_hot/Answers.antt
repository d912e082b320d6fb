use Rattle.std.proofs.Common.{◌∙◌}
use Rattle.genesis_books.specs.Members.{with_hot_key}
use Rattle.genesis_books.proofs.MemberWalks.{with_hot, hot_more}
use Rattle.genesis_books.proofs.Walks.{walk_on}
use Rattle.genesis_books.proofs.committee.first_hot.Goals as goal

pub loop-cold-preserved : goal.loop-cold-preserved
loop-cold-preserved c =
    walk_on with_hot (λ es m. with_hot_key m.0 m.2 es) hot_more c.args.members.now c.loop-cold.cold-index _ c.loop-cold.hot c.in_ok-hot.hot c.loop-cold-test.true c.in_ok-hot.ensures ∙ c.loop-cold.invariant
