use Rattle.std.proofs.Common.{Option, ap, option_map, subst, sym, ◌∙◌}
use Rattle.std.specs.Global.{Vec}
use Rattle.gov_actions.specs.declared.state.HotState.{HotState}
use Rattle.gov_ids.specs.declared.Credential.{Credential}
use Rattle.gov_ids.specs.Orders.{credential_cmp}
use Rattle.text_forms.specs.Ids.{is_map}
use Rattle.committee_rows.proofs.Committees.{Found, unordered, with_none, with_some}
use Rattle.committee_rows.proofs.committee.with_committee.Goals as goal

pub returns-then-not-is_map : goal.returns-then-not-is_map
returns-then-not-is_map c =
    unordered c.args.threshold c.args.rows.now c.args.others.now c.in_ok-members.members c.in_ok-members.ensures
    (ap (is_map credential_cmp) (sym c.as_slice.ensures) ∙ sym c.is_map.ensures ∙ c.if-not-is_map.true)

pub returns-in_default : goal.returns-in_default
returns-in_default c =
    with_none c.args.threshold c.args.rows.now c.args.others.now c.in_ok-members.members c.in_ok-members.ensures
    (subst (λ (o : Option (Vec (Credential × HotState))). Found c.args.threshold c.args.rows.now c.args.others.now c.in_ok-members.members c.in_ok-members.ensures (option_map (λ v. v.items) o)) c.in_default.is c.in_ok-hot.ensures)

pub returns : goal.returns
returns c =
    with_some c.args.threshold c.args.rows.now c.args.others.now c.in_ok-members.members c.in_ok-members.ensures
    (ap (is_map credential_cmp) (sym c.as_slice.ensures) ∙ sym c.is_map.ensures ∙ c.if-not-is_map.false) c.in-Some.hot.items
    (subst (λ (o : Option (Vec (Credential × HotState))). Found c.args.threshold c.args.rows.now c.args.others.now c.in_ok-members.members c.in_ok-members.ensures (option_map (λ v. v.items) o)) c.in-Some.is c.in_ok-hot.ensures)
