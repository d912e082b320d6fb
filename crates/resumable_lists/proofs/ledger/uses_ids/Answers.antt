use Rattle.std.proofs.Common.{ap, ◌∙◌}
use Rattle.gov_ids.specs.Orders.{txid_cmp}
use Rattle.text_forms.specs.Ids.{is_rising}
use Rattle.checkpoint_model.specs.Resumable.{uses_ids}
use Rattle.state_lists.specs.Worlds.{ledger_of_lists}
use Rattle.resumable_lists.proofs.Parts.{used_in_order}
use Rattle.resumable_lists.proofs.ledger.uses_ids.Goals as goal

pub uses_ids-requires : goal.uses_ids-requires
uses_ids-requires c = ap (is_rising txid_cmp) c.as_slice-3.ensures ∙ used_in_order (ledger_of_lists c.args.state.now) c.requires

pub returns : goal.returns
returns c =
    let l = ledger_of_lists c.args.state.now in
    c.uses_ids.ensures l ∙ (λ i. uses_ids (record l { outputs = c.as_slice.ensures i; proposals = c.as_slice-2.ensures i; used = c.as_slice-3.ensures i }))
