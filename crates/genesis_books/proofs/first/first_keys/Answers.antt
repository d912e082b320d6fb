use Rattle.std.proofs.Common.{[], ◌∙◌}
use Rattle.genesis_books.proofs.MemberWalks.{with_hot}
use Rattle.genesis_books.proofs.first.first_keys.Goals as goal

pub returns-clause-hot : goal.returns-clause-hot
returns-clause-hot c = c.in_ok-hot.ensures ∙ (λ i. with_hot (c.members_of.ensures i) [])
