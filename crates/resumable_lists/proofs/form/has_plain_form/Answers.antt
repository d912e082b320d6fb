use Rattle.std.proofs.Common.{ℕ, ap, ◌∙◌}
use Rattle.checkpoint_model.specs.Resumable.{has_plain_form}
use Rattle.state_lists.specs.Worlds.{ledger_of_lists}
use Rattle.resumable_lists.proofs.form.has_plain_form.Goals as goal

pub returns : goal.returns
returns c =
    let l = ledger_of_lists c.args.state.now in
    c.has_plain_form.ensures l ∙ ap (λ (n : ℕ). has_plain_form (record l { supply = n })) c.requires
