use Rattle.std.proofs.Common.{◌∙◌}
use Rattle.genesis_books.proofs.MemberWalks.{terms_next}
use Rattle.genesis_books.proofs.committee.terms_of.Goals as goal

pub loop-cold-preserved : goal.loop-cold-preserved
loop-cold-preserved c =
    terms_next c.args.members.now c.loop-cold.cold-index _ c.loop-cold.terms.entries c.insert.new.self.entries c.loop-cold-test.true c.in_ok-insert.ensures.entries ∙ c.loop-cold.invariant
