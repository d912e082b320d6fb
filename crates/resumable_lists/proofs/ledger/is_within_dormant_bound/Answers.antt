use Rattle.std.proofs.Common.{◌∙◌}
use Rattle.checkpoint_model.specs.Resumable.{is_within_dormant_bound}
use Rattle.state_lists.specs.Worlds.{ledger_of_lists}
use Rattle.resumable_lists.proofs.ledger.is_within_dormant_bound.Goals as goal

pub returns : goal.returns
returns c =
    let l = ledger_of_lists c.args.state.now in
    c.is_within_dormant_bound.ensures l ∙ (λ i. is_within_dormant_bound (record l { proposals = c.as_slice.ensures i; dreps = c.as_slice-2.ensures i }))
