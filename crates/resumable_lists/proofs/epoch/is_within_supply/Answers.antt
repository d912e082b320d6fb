use Rattle.std.proofs.Common.{◌∙◌}
use Rattle.checkpoint_model.specs.Resumable.{is_within_supply}
use Rattle.state_lists.specs.Worlds.{world_of_lists}
use Rattle.resumable_lists.proofs.epoch.is_within_supply.Goals as goal

pub returns : goal.returns
returns c =
    let w = world_of_lists c.args.state.now in
    c.is_within_supply.ensures w
    ∙ (λ i. is_within_supply (record w { ledger = record w.ledger { supply = c.requires i }; frozen = record w.frozen { entries = c.as_slice.ensures i; proposals = c.as_slice-2.ensures i } }))
