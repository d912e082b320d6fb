use Rattle.std.proofs.Common.{◌∙◌}
use Rattle.genesis_balance.specs.of_run_model.Genesis.{ledger_of_genesis}
use Rattle.genesis_books.proofs.Frozen.{live_is}
use Rattle.genesis_books.proofs.first.first_stake.Goals as goal

pub returns-clause-frozen : goal.returns-clause-frozen
returns-clause-frozen c =
    let s = c.in_ok-stake-2.stake in
    let e = c.in_ok-stake-2.ensures in
    c.freeze.ensures.frozen ∙ live_is s (ledger_of_genesis c.args.genesis.now) c.freeze.ensures.kept e.outputs (e.accounts ∙ c.in_ok-stake.ensures.accounts)
