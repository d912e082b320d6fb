use Rattle.std.proofs.Common.{◌≡◌, List, map, ap, subst, sym, ◌∙◌}
use Rattle.std.proofs.lemmas.Bool.{false≢true}
use Rattle.gov_actions.specs.declared.state.HotState.{HotState}
use Rattle.gov_ids.specs.declared.Credential.{Credential}
use Rattle.gov_ids.specs.Orders.{credential_cmp}
use Rattle.text_forms.specs.Ids.{is_map}
use Rattle.shown_lists.specs.Shows.{others_shown, row_shown}
use Rattle.shown_lists.proofs.ColdKeys.{all_ordered, hot_none, hot_some}
use Rattle.shown_lists.proofs.hot.hot_of.Goals.{else-members_are_shown-via-then-members_are_shown+else-others_are_shown, else-members_are_shown-via-else-members_are_shown}
use Rattle.shown_lists.proofs.hot.hot_of.Goals as goal

abbrev Entries : Type 0
Entries = List (Credential × HotState)

pub members_are_shown-requires : goal.members_are_shown-requires
members_are_shown-requires c = ap (is_map credential_cmp) (c.as_slice.ensures.value ∙ c.in_ok-hot.ensures) ∙ all_ordered c.args.rows.now c.args.others.now

pub returns-then-others_are_shown : goal.returns-then-others_are_shown
returns-then-others_are_shown c =
    hot_some c.args.members.now c.args.rows.now c.args.others.now c.requires.in_order c.requires.rows c.in_ok-hot.hot.items c.in_ok-hot.ensures
    (subst (λ (h : Entries). map (row_shown h) c.args.rows.now ≡ c.args.rows.now) c.as_slice.ensures.value (c.members_are_shown.ensures.0 c.if-members_are_shown.true))
    (subst (λ (h : Entries). others_shown c.args.members.now h ≡ c.args.others.now) c.as_slice-then-members_are_shown.ensures.value (c.others_are_shown.ensures.0 c.if-others_are_shown.true))

pub returns-else-members_are_shown : goal.returns-else-members_are_shown
returns-else-members_are_shown c =
    hot_none c.args.members.now c.args.rows.now c.args.others.now c.requires.in_order c.requires.rows c.in_ok-hot.hot.items c.in_ok-hot.ensures
    (λ members others. elim c.else-members_are_shown.branch [
      | else-members_are_shown-via-then-members_are_shown+else-others_are_shown w ↦
          false≢true (sym w.if-others_are_shown.false ∙ w.others_are_shown.ensures.1 (subst (λ (h : Entries). others_shown c.args.members.now h ≡ c.args.others.now) (sym w.as_slice-then-members_are_shown.ensures.value) others))
      | else-members_are_shown-via-else-members_are_shown w ↦
          false≢true (sym w.if-members_are_shown.false ∙ c.members_are_shown.ensures.1 (subst (λ (h : Entries). map (row_shown h) c.args.rows.now ≡ c.args.rows.now) (sym c.as_slice.ensures.value) members))
    ])
