use Rattle.std.proofs.Common.{◌≡◌, List, ◌||◌, nat_lt, ap, subst, sym, ◌∙◌}
use Rattle.gov_ids.specs.declared.Credential.{Credential}
use Rattle.gov_ids.specs.Orders.{credential_cmp}
use Rattle.gov_actions.specs.declared.state.HotState.{HotState}
use Rattle.ledger_books.specs.of_gov_model.Hot.{is_named}
use Rattle.ledger_books.specs.of_committee_book.Counts.{count_of}
use Rattle.maps.specs.Maps.{with_values}
use Rattle.draft_changes.specs.ChangedHot.{ChangedHot, IsOver, covered_by}
use Rattle.draft_changes.proofs.HotChanging.{named_after}
use Rattle.draft_changes.proofs.hot_changes.HotChanges.names.Goals as goal

pub returns-then-names_hot : goal.returns-then-names_hot
returns-then-names_hot c =
    let changed = c.self.inside.entries in
    let book = c.args.book.now in
    let key = c.args.hot.now in
    let more = nat_lt (count_of (covered_by changed book) key) (count_of book key) in
    c.if-names_hot.true
    ∙ sym (named_after changed book key c.names_hot.ensures.in_order c.count_of-before.ensures.in_order ∙ ap (λ b. b || more) (sym c.names_hot.ensures.named ∙ c.if-names_hot.true))
    ∙ ap (λ (x : ChangedHot). is_named (with_values credential_cmp x.entries book) key) c.self.view_is

pub returns-else-names_hot : goal.returns-else-names_hot
returns-else-names_hot c =
    let changed = c.self.inside.entries in
    let book = c.args.book.now in
    let key = c.args.hot.now in
    let more = nat_lt (count_of (covered_by changed book) key) (count_of book key) in
    let over : c.self.inside.covered ≡ covered_by changed book = subst (λ (x : ChangedHot). IsOver book x) (sym c.self.view_is) c.requires.over in
    let covered = c.count_of-covered.ensures.count ∙ ap (λ (es : List (Credential × HotState)). count_of es key) over in
    (λ i. nat_lt (covered i) (c.count_of-before.ensures.count i))
    ∙ sym (named_after changed book key c.names_hot.ensures.in_order c.count_of-before.ensures.in_order ∙ ap (λ b. b || more) (sym c.names_hot.ensures.named ∙ c.if-names_hot.false))
    ∙ ap (λ (x : ChangedHot). is_named (with_values credential_cmp x.entries book) key) c.self.view_is
