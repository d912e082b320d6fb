use Rattle.std.proofs.Common.{ℕ, ◌+◌, List, [], None, drop, get_or, ap, sym, ◌∙◌}
use Rattle.std.proofs.lemmas.List.{at_drop_more, drop_all}
use Rattle.gov_actions.specs.declared.state.HotState.{HotState}
use Rattle.gov_ids.specs.declared.CredKind.TheVariants.{Key}
use Rattle.gov_ids.specs.declared.Credential.{Credential}
use Rattle.gov_ids.specs.Orders.{credential_cmp}
use Rattle.maps.specs.Maps.{with_values}
use Rattle.shown_lists.specs.Shows.{MemberRow, hot_of_members}
use Rattle.shown_lists.proofs.Places.{members_more}
use Rattle.shown_lists.proofs.hot.add_members.Goals as goal

abbrev nothing : MemberRow
nothing = ((record { hash = []; kind = Key }, 0), None)

pub loop-row-preserved : goal.loop-row-preserved
loop-row-preserved c =
    let rows : List MemberRow = c.args.rows.now in
    let i : ℕ = c.loop-row.row-index in
    let r : MemberRow = get_or rows i nothing in
    let old : List (Credential × HotState) = c.loop-row.book in
    ap (λ (es : List (Credential × HotState)). with_values credential_cmp (hot_of_members (drop (i + 1) rows)) es) c.in_ok-add_member.ensures
    ∙ members_more r (drop (i + 1) rows) old
    ∙ sym (at_drop_more (λ (l : List MemberRow). with_values credential_cmp (hot_of_members l) old) rows i nothing c.loop-row-test.true)
    ∙ c.loop-row.invariant

pub returns : goal.returns
returns c =
    ap (λ (l : List MemberRow). with_values credential_cmp (hot_of_members l) c.loop-row.book) (sym (drop_all c.loop-row.row-index c.args.rows.now c.loop-row-test.false)) ∙ c.loop-row.invariant
