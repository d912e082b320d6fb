use Rattle.std.proofs.Common.{List, length, nat_lt, ap, sym, ◌∙◌}
use Rattle.gov_ids.specs.declared.Credential.{Credential}
use Rattle.gov_actions.specs.declared.state.HotState.{HotState}
use Rattle.gov_model.specs.Hot.{is_named}
use Rattle.committee_book.proofs.Seating.{counted, named_is}
use Rattle.committee_book.proofs.HotBook.names_hot.Goals as goal

pub returns-clause-named : goal.returns-clause-named
returns-clause-named c =
    let key = c.args.hot.now in
    let es = c.self.inside.entries.entries in
    ap (nat_lt 0) (c.count.ensures ∙ ap (λ (ks : List Credential). length ks) (c.self.invariant.held key) ∙ counted es key)
    ∙ sym (named_is es key)
    ∙ ap (λ (fs : List (Credential × HotState)). is_named fs key) c.self.view_is
