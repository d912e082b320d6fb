use Rattle.std.proofs.Common.{◌∙◌}
use Rattle.ledger_state.proofs.Worlds.{marks_are}
use Rattle.ledger_state.proofs.state.genesis.first_books.Goals as goal

pub returns-in-Ok-clause-marks : goal.returns-in-Ok-clause-marks
returns-in-Ok-clause-marks c =
    let mark = c.from_vec.ensures ∙ c.in-Ok.ensures ∙ marks_are c.stake.result.now c.pools.result.now c.args.live.ledger c.stake.ensures.outputs c.stake.ensures.accounts c.pools.ensures in
    c.into_books.ensures.snapshots ∙ (λ i. record { mark = mark i; set = c.new.ensures i; go = c.new-in-Ok.ensures i; fees = 0 })
