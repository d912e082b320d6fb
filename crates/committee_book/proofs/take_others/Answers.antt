use Rattle.std.proofs.Common.{◌≡◌, Bor, List, ◌∷◌, cond, false, true, option_map, ap, subst, sym, ◌∙◌, rules}
use Rattle.gov_actions.specs.declared.state.Committee.{Committee}
use Rattle.gov_actions.specs.declared.state.HotState.{HotState}
use Rattle.gov_ids.specs.declared.Credential.{Credential}
use Rattle.gov_ids.specs.Orders.{credential_cmp}
use Rattle.gov_model.specs.Hot.{is_hot_key, is_member, of_members}
use Rattle.maps.specs.Maps.{without_member}
use Rattle.committee_book.specs.Holders.{held_at, holders_of}
use Rattle.committee_book.proofs.Keeping.{members_kept, without_others}
use Rattle.committee_book.proofs.take_others.Goals as goal

pub loop-cold-init : goal.loop-cold-init
loop-cold-init c = λ h.
    let committee = option_map (λ (x : Bor Committee). x.now) c.args.c in
    let entries = c.args.entries.now.entries in
    let start : ◌≡◌ {A = List (Credential × HotState)} c.into_iter-cold-iterator.result entries = search rules in
    subst (λ (es : List (Credential × HotState)). without_others committee h es (held_at c.args.holders.now h) ≡ holders_of (of_members committee entries) h) (sym start)
    (ap (λ (ks : List Credential). without_others committee h entries ks) (c.requires.held h) ∙ members_kept committee h entries c.requires.in_order)

pub loop-cold-preserved-then-not-is_member : goal.loop-cold-preserved-then-not-is_member
loop-cold-preserved-then-not-is_member c = λ h.
    let committee = option_map (λ (x : Bor Committee). x.now) c.args.c in
    let ks = held_at c.loop-cold.holders h in
    let taken = cond (is_hot_key h c.in-Some.s.now) (without_member credential_cmp c.in-Some.cold.now ks) ks in
    let other : is_member committee c.in-Some.cold.now ≡ false = sym c.is_member.ensures ∙ c.if-not-is_member.true in
    let all : without_others committee h ((c.in-Some.cold.now, c.in-Some.s.now) ∷ c.next.new.self) ks ≡ holders_of (of_members committee c.args.entries.now.entries) h = search rules in
    ap (λ (l : List Credential). without_others committee h c.next.new.self l) (c.take.ensures h ∙ ap (λ b. cond b ks taken) (sym other)) ∙ all

pub loop-cold-preserved : goal.loop-cold-preserved
loop-cold-preserved c = λ h.
    let committee = option_map (λ (x : Bor Committee). x.now) c.args.c in
    let ks = held_at c.loop-cold.holders h in
    let taken = cond (is_hot_key h c.in-Some.s.now) (without_member credential_cmp c.in-Some.cold.now ks) ks in
    let member : is_member committee c.in-Some.cold.now ≡ true = sym c.is_member.ensures ∙ c.if-not-is_member.false in
    let all : without_others committee h ((c.in-Some.cold.now, c.in-Some.s.now) ∷ c.next.new.self) ks ≡ holders_of (of_members committee c.args.entries.now.entries) h = search rules in
    ap (λ (l : List Credential). without_others committee h c.next.new.self l) (ap (λ b. cond b ks taken) (sym member)) ∙ all

pub returns : goal.returns
returns c = λ h.
    let committee = option_map (λ (x : Bor Committee). x.now) c.args.c in
    subst (λ (es : List (Credential × HotState)). without_others committee h es (held_at c.loop-cold.holders h) ≡ holders_of (of_members committee c.args.entries.now.entries) h) c.in-None.ensures.steps.0 (c.loop-cold.invariant h)
