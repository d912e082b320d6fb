use Rattle.std.proofs.Common.{ap, sym, ◌∙◌}
use Rattle.stake_book.specs.Stakes.{Stakes, pool_stake_in}
use Rattle.stake_book.proofs.Weights.{pool_stake_is}
use Rattle.stake_book.proofs.StakeBook.pool_stake.Goals as goal

pub returns-clause-sum : goal.returns-clause-sum
returns-clause-sum c =
    let s : Stakes = record { outputs = c.self.inside.outputs; accounts = c.self.inside.accounts } in
    c.pool_stake.ensures.value ∙ sym (pool_stake_is s c.args.p.now c.self.invariant) ∙ ap (λ (s : Stakes). pool_stake_in s c.args.p.now) c.self.view_is
