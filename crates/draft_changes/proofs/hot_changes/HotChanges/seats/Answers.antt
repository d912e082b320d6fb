use Rattle.std.proofs.Common.{ℕ, List, ◌||◌, Bor, Option, Some, ap, sym, ◌∙◌, option_map}
use Rattle.std.specs.List.{list_any}
use Rattle.gov_ids.specs.declared.Credential.{Credential}
use Rattle.gov_ids.specs.Orders.{credential_cmp}
use Rattle.gov_ids.proofs.Totals.{credential_total}
use Rattle.gov_actions.specs.declared.state.Committee.{Committee}
use Rattle.ledger_books.specs.of_gov_model.Hot.{is_hot_key, is_named, of_members}
use Rattle.maps.proofs.Kept.{IsMap-with_values}
use Rattle.maps.specs.Maps.{value_at, with_values}
use Rattle.maps.specs.Words.{some_and}
use Rattle.ledger_books.specs.of_committee_book.Holders.{entries_beside}
use Rattle.draft_changes.specs.ChangedHot.{ChangedHot}
use Rattle.draft_changes.proofs.HotChanging.{seated_after}
use Rattle.draft_changes.proofs.Seating.{any_among, any_of_none}
use Rattle.draft_changes.proofs.hot_changes.HotChanges.seats.Goals as goal

-- the committee is what the argument has
abbrev shown : Option (Bor Committee) → Option Committee
shown c = option_map (λ (m : Bor Committee). m.now) c

pub returns-in_default : goal.returns-in_default
returns-in_default c =
    let after = with_values credential_cmp c.args.self.now.entries c.args.book.now in
    any_of_none credential_total (is_hot_key c.args.hot.now) after
    ∙ ap (λ (o : Option (Bor Committee)). is_named (of_members (shown o) after) c.args.hot.now) (sym c.in_default.is)

pub returns-then-members-holders : goal.returns-then-members-holders
returns-then-members-holders c =
    let book = c.args.book.now in
    let after = with_values credential_cmp c.args.self.now.entries book in
    let key = c.args.hot.now in
    c.is_of_member.ensures
    ∙ ap (λ (ms : List (Credential × ℕ)). list_any (λ m. some_and (is_hot_key key) (value_at credential_cmp after m.0)) ms) c.as_slice-members.ensures
    ∙ sym (any_among credential_total (is_hot_key key) c.in-Some.committee.now.members after (IsMap-with_values credential_total c.args.self.now.entries book c.count_of-2.ensures.in_order))
    ∙ ap (λ (o : Option (Bor Committee)). is_named (of_members (shown o) after) key) (sym c.in-Some.is)

pub returns-then-seats : goal.returns-then-seats
returns-then-seats c =
    let committee = shown c.args.c in
    let changed = c.self.inside.entries in
    let book = c.args.book.now in
    let key = c.args.hot.now in
    let kept = is_named (of_members committee (entries_beside (Some changed) book)) key in
    c.if-seats.true
    ∙ sym (seated_after committee changed book key c.seats.ensures.in_order c.count_of-2.ensures.in_order ∙ ap (λ b. b || kept) (sym c.seats.ensures.seated ∙ c.if-seats.true))
    ∙ ap (λ (x : ChangedHot). is_named (of_members committee (with_values credential_cmp x.entries book)) key) c.self.view_is

pub returns-else-seats : goal.returns-else-seats
returns-else-seats c =
    let committee = shown c.args.c in
    let changed = c.self.inside.entries in
    let book = c.args.book.now in
    let key = c.args.hot.now in
    let kept = is_named (of_members committee (entries_beside (Some changed) book)) key in
    c.seats-else-seats.ensures.seated
    ∙ sym (seated_after committee changed book key c.seats.ensures.in_order c.count_of-2.ensures.in_order ∙ ap (λ b. b || kept) (sym c.seats.ensures.seated ∙ c.if-seats.false))
    ∙ ap (λ (x : ChangedHot). is_named (of_members committee (with_values credential_cmp x.entries book)) key) c.self.view_is
