use Rattle.std.proofs.Common.{List, length, ap, ◌∙◌}
use Rattle.gov_ids.specs.declared.Credential.{Credential}
use Rattle.gov_actions.specs.declared.state.HotState.{HotState}
use Rattle.committee_book.specs.Counts.{count_of}
use Rattle.committee_book.proofs.Seating.{counted}
use Rattle.committee_book.proofs.HotBook.count_of.Goals as goal

pub returns-clause-count : goal.returns-clause-count
returns-clause-count c =
    let key = c.args.hot.now in
    c.count.ensures ∙ ap (λ (ks : List Credential). length ks) (c.self.invariant.held key) ∙ counted c.self.inside.entries.entries key
    ∙ ap (λ (fs : List (Credential × HotState)). count_of fs key) c.self.view_is
