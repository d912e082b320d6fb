-- What changes of hot entries cover, and which hot keys are named after them.
use Rattle.std.proofs.Common.{◌≡◌, List, [], not, ◌&&◌, ◌||◌, filter, nat_lt, Option, Some, None, sym, ◌∙◌}
use Rattle.gov_ids.specs.declared.Credential.{Credential}
use Rattle.gov_ids.specs.Orders.{credential_cmp}
use Rattle.gov_ids.proofs.Exacts.{credential_exact}
use Rattle.gov_ids.proofs.Totals.{credential_total}
use Rattle.gov_actions.specs.declared.state.HotState.{HotState}
use Rattle.gov_actions.specs.declared.state.Committee.{Committee}
use Rattle.ledger_books.specs.of_gov_model.Hot.{is_hot_key, is_member, is_named, of_members}
use Rattle.ledger_books.specs.of_committee_book.Counts.{count_of}
use Rattle.ledger_books.specs.of_committee_book.Holders.{entries_beside}
use Rattle.ledger_books.proofs.proofs_of_committee_book.Seating.{any_where}
use Rattle.maps.proofs.Retained.{entries_where_all}
use Rattle.maps.specs.Maps.{IsMap, has_key, with_values}
use Rattle.draft_changes.specs.ChangedHot.{covered_by}
use Rattle.draft_changes.proofs.Covering.{nothing_covered}
use Rattle.draft_changes.proofs.Passing.{any-with_values, passes_after}

abbrev pub Hots : Type 0
Hots = List (Credential × HotState)

-- no change covers anything
pub none_covered : (hot : Hots) → covered_by [] hot ≡ []
none_covered hot = nothing_covered credential_cmp hot

-- a hot key is named after changes where a changed entry names it, or more entries have it than are covered
pub named_after : (changed hot : Hots) (c : Credential) → IsMap credential_cmp changed → IsMap credential_cmp hot
    → is_named (with_values credential_cmp changed hot) c ≡ (is_named changed c || nat_lt (count_of (covered_by changed hot) c) (count_of hot c))
named_after changed hot c g h = passes_after credential_total credential_exact (λ q s. is_hot_key c s) changed hot g h

-- a member has a hot key after changes where a changed entry of a member is it, or one of a member that no change replaces
pub seated_after : (committee : Option Committee) (changed hot : Hots) (c : Credential) → IsMap credential_cmp changed → IsMap credential_cmp hot
    → is_named (of_members committee (with_values credential_cmp changed hot)) c
    ≡ (is_named (of_members committee (entries_beside None changed)) c || is_named (of_members committee (entries_beside (Some changed) hot)) c)
seated_after committee changed hot c g h =
    let has = λ (e : Credential × HotState). is_hot_key c e.1 in
    let member = λ (e : Credential × HotState). is_member committee e.0 in
    let kept = λ (e : Credential × HotState). not (has_key credential_cmp changed e.0) in
    any_where has member (with_values credential_cmp changed hot)
    ∙ any-with_values credential_total credential_exact (λ q s. is_member committee q && is_hot_key c s) changed hot g h
    ∙ (λ i. sym (any_where has member changed) i || sym (any_where (λ (e : Credential × HotState). member e && has e) kept hot) i)
    ∙ (λ i. is_named (of_members committee (sym (entries_where_all changed) i)) c || sym (any_where has member (filter kept hot)) i)
