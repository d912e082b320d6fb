use Rattle.std.proofs.Common.{ap, ◌∙◌}
use Rattle.gov_ids.specs.Orders.{credential_cmp, pool_cmp}
use Rattle.text_forms.specs.Ids.{is_map}
use Rattle.checkpoint_model.specs.Resumable.{delegates_to_registered}
use Rattle.state_lists.specs.Worlds.{ledger_of_lists}
use Rattle.resumable_lists.proofs.Parts.{dreps_in_order, pools_in_order}
use Rattle.resumable_lists.proofs.ledger.delegates_to_registered.Goals as goal

pub delegates_to_registered-requires-clause-pools : goal.delegates_to_registered-requires-clause-pools
delegates_to_registered-requires-clause-pools c = ap (is_map pool_cmp) c.as_slice-2.ensures ∙ pools_in_order (ledger_of_lists c.args.state.now) c.requires

pub delegates_to_registered-requires-clause-dreps : goal.delegates_to_registered-requires-clause-dreps
delegates_to_registered-requires-clause-dreps c = ap (is_map credential_cmp) c.as_slice-3.ensures ∙ dreps_in_order (ledger_of_lists c.args.state.now) c.requires

pub returns : goal.returns
returns c =
    let l = ledger_of_lists c.args.state.now in
    c.delegates_to_registered.ensures l ∙ (λ i. delegates_to_registered (record l { accounts = c.as_slice.ensures i; pools = c.as_slice-2.ensures i; dreps = c.as_slice-3.ensures i }))
