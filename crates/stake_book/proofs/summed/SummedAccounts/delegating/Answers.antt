use Rattle.std.proofs.Common.{ap, sym, ◌∙◌}
use Rattle.accounts.specs.Accounts.{Accounts}
use Rattle.stake_book.specs.Ended.{delegating}
use Rattle.stake_book.proofs.Counting.{none_leave}
use Rattle.stake_book.proofs.summed.SummedAccounts.delegating.Goals as goal

pub returns-then-not-have_any-clause-value : goal.returns-then-not-have_any-clause-value
returns-then-not-have_any-clause-value c =
    let none = none_leave c.self.inside.sums.counts c.self.inside.accounts.live c.self.invariant.counts c.args.leaving.now (sym c.if-not-have_any.ensures) in
    c.new-delegating.ensures.items ∙ sym none ∙ ap (λ (a : Accounts). delegating c.args.leaving.now a.live) c.self.view_is
