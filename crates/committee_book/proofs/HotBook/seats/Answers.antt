use Rattle.std.proofs.Common.{◌≡◌, ℕ, List, Bor, Option, not, ◌&&◌, option_map, ap, sym, ◌∙◌, rules, tests}
use Rattle.std.specs.BTreeSet.{BTreeSet}
use Rattle.std.specs.List.{list_any}
use Rattle.std.specs.Option.{option_copied}
use Rattle.std.proofs.lemmas.Iterator.Consumers.{YieldsList-from_rest}
use Rattle.std.proofs.lemmas.Iterator.Search.{any_from_yields_List}
use Rattle.gov_ids.specs.declared.Credential.{Credential}
use Rattle.gov_ids.specs.Orders.{credential_cmp}
use Rattle.gov_actions.specs.declared.state.Committee.{Committee}
use Rattle.gov_model.specs.Hot.{is_hot_key, is_member, is_named, of_members}
use Rattle.maps.specs.Maps.{has_key, value_at}
use Rattle.maps.specs.Words.{some_and}
use Rattle.committee_book.specs.Holders.{entries_beside, held_in, holders_of}
use Rattle.committee_book.proofs.Holding.{Hots}
use Rattle.committee_book.proofs.Seating.{seated_among, seated_is}
use Rattle.committee_book.proofs.HotBook.seats.Goals as goal

pub returns-clause-seated : goal.returns-clause-seated
returns-clause-seated c =
    let key = c.args.hot.now in
    let es = c.self.inside.entries.entries in
    let committee = option_map (λ (x : Bor Committee). x.now) c.args.c in
    let changed = option_map (λ (x : Bor Hots). x.now) c.args.changed in
    let counts = λ (cold : Credential). not (some_and (λ (fs : Hots). has_key credential_cmp fs cold) changed) in
    let seat = λ (cold : Credential). is_member committee cold && counts cold in
    let held : c.in-Some.cold_keys.now.keys ≡ holders_of es key = ap (λ (o : Option (Bor (BTreeSet Credential))). held_in (option_copied o)) (sym c.in-Some.is) ∙ c.of.ensures ∙ c.self.invariant.held key in
    any_from_yields_List seat _ _ _ c.any.ensures.ran (YieldsList-from_rest c.in-Some.cold_keys.now.keys c.iter.ensures.rest) (λ x b q k. search (rules, tests))
    ∙ ap (λ (ks : List Credential). list_any seat ks) held
    ∙ seated_is committee counts es key
    ∙ ap (λ (fs : Hots). is_named (of_members committee (entries_beside changed fs)) key) c.self.view_is

pub returns-in_default-clause-seated : goal.returns-in_default-clause-seated
returns-in_default-clause-seated c =
    let key = c.args.hot.now in
    let es = c.self.inside.entries.entries in
    let committee = option_map (λ (x : Bor Committee). x.now) c.args.c in
    let changed = option_map (λ (x : Bor Hots). x.now) c.args.changed in
    let counts = λ (cold : Credential). not (some_and (λ (fs : Hots). has_key credential_cmp fs cold) changed) in
    let seat = λ (cold : Credential). is_member committee cold && counts cold in
    let held = ap (λ (o : Option (Bor (BTreeSet Credential))). held_in (option_copied o)) (sym c.in_default.is) ∙ c.of.ensures ∙ c.self.invariant.held key in
    ap (λ (ks : List Credential). list_any seat ks) held
    ∙ seated_is committee counts es key
    ∙ ap (λ (fs : Hots). is_named (of_members committee (entries_beside changed fs)) key) c.self.view_is

pub returns-then-members-len-clause-seated : goal.returns-then-members-len-clause-seated
returns-then-members-len-clause-seated c =
    let key = c.args.hot.now in
    let es = c.self.inside.entries.entries in
    let committee = option_map (λ (x : Bor Committee). x.now) c.args.c in
    let changed = option_map (λ (x : Bor Hots). x.now) c.args.changed in
    let counts = λ (cold : Credential). not (some_and (λ (fs : Hots). has_key credential_cmp fs cold) changed) in
    let seat = λ (fs : Hots) (m : Credential × ℕ). some_and (is_hot_key key) (value_at credential_cmp fs m.0) && counts m.0 in
    c.seats_among.ensures
    ∙ (λ i. list_any (seat (sym c.self.view_is i)) (c.members_of-members.ensures i))
    ∙ seated_among committee counts es key c.self.invariant.in_order
    ∙ ap (λ (fs : Hots). is_named (of_members committee (entries_beside changed fs)) key) c.self.view_is
