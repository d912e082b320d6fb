use Rattle.std.proofs.Common.{Option, Some, ap, sym, ◌∙◌}
use Rattle.gov_ids.proofs.Sames.{credential_same}
use Rattle.gov_actions.specs.declared.state.HotState.{HotState}
use Rattle.ledger_books.specs.of_gov_model.Hot.{is_hot_key}
use Rattle.maps.specs.Words.{some_and}
use Rattle.draft_changes.proofs.hot_changes.is_hot_key.Goals as goal

pub returns-in-Some-Hot : goal.returns-in-Some-Hot
returns-in-Some-Hot c =
    let named = rw c.in-Some-Hot.is at c.in-Some-Hot.field-0-is in
    c.eq.ensures ∙ (λ i. credential_same i c.in-Some-Hot.key c.args.hot.now)
    ∙ sym (ap (λ (s : Option HotState). some_and (is_hot_key c.args.hot.now) s) (c.in-Some-Hot.is ∙ ap Some named))
