use Rattle.std.proofs.Common.{ap, sym, ◌∙◌}
use Rattle.gov_ids.proofs.Sames.{credential_same}
use Rattle.gov_actions.specs.declared.state.HotState.{HotState}
use Rattle.gov_model.specs.Hot.{is_hot_key}
use Rattle.committee_book.proofs.holders.is_hot_key.Goals as goal

pub returns-in-Hot : goal.returns-in-Hot
returns-in-Hot c =
    c.eq.ensures ∙ (λ i. credential_same i c.in-Hot.key c.args.hot.now) ∙ sym (ap (λ (s : HotState). is_hot_key c.args.hot.now s) c.in-Hot.is)
