use Rattle.std.proofs.Common.{ℕ, ap, ◌∙◌}
use Rattle.checkpoint_model.specs.Resumable.{holds_supply}
use Rattle.state_lists.specs.Worlds.{ledger_of_lists}
use Rattle.resumable_lists.proofs.ledger.holds_supply.Goals as goal

pub returns : goal.returns
returns c =
    let l = ledger_of_lists c.args.state.now in
    c.holds_supply.ensures l c.requires.shown.pots ∙ ap (λ (n : ℕ). holds_supply (record l { supply = n })) c.requires.supply
