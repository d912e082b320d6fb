use Rattle.std.proofs.Common.{◌≡◌, Bool, IsTrue, true, List, Some, None, is_some, refl, ap, sym, subst}
use Rattle.std.specs.BTreeMap.{BTreeMap}
use Rattle.gov_ids.specs.declared.ActionId.{ActionId}
use Rattle.maps.specs.Maps.{value_at}
use Rattle.proposal_store.specs.declared.families.Parent.{Parent}
use Rattle.proposal_store.specs.Families.{all_but_last, parent_cmp}
use Rattle.proposal_store.proofs.Parents.{parent_total}
use Rattle.proposal_store.proofs.Shrunk.{IsMade, made_empty, made_none, made_there}
use Rattle.proposal_store.proofs.families.Families.drop_last.Goals as goal

is_true : {b : Bool} → b ≡ true → IsTrue b
is_true e = e

pub returns-in_default : goal.returns-in_default
returns-in_default c =
    let es = c.self.inside.index.entries in
    let absent : value_at parent_cmp es c.args.parent.now ≡ None = sym c.in_default.ensures.value in
    let before : c.get_mut.follows.lender-at-none.entries ≡ es = ap (λ (m : BTreeMap Parent (List ActionId)). m.entries) c.get_mut.follows.holds-at-none in
    subst (λ (old : List (Parent × List ActionId)). IsMade parent_total c.args.parent.now all_but_last old c.get_mut.follows.lender-at-none.entries) c.self.view_is
    (made_none parent_total c.args.parent.now all_but_last es c.get_mut.follows.lender-at-none.entries before absent refl)

pub returns-then-is_empty : goal.returns-then-is_empty
returns-then-is_empty c =
    let parent = c.args.parent.now in
    let es = c.self.inside.index.entries in
    let left = c.cut_last.new.ids in
    let there : value_at parent_cmp es parent ≡ Some c.in-Some.ids.now = sym c.in-Some.ensures.value in
    subst (λ (old : List (Parent × List ActionId)). IsMade parent_total parent all_but_last old c.remove-emptied.new.self.entries) c.self.view_is
    (made_empty parent_total parent c.in-Some.ids.now left all_but_last es (c.get_mut.follows.lender left).entries c.remove-emptied.new.self.entries
    ((c.get_mut.follows.holds left).3 (ap is_some there)).0 c.remove-emptied.ensures.updates.0 there c.cut_last.ensures (c.is_empty.ensures.0 (is_true c.if-is_empty.true)))

pub returns-else-is_empty : goal.returns-else-is_empty
returns-else-is_empty c =
    let parent = c.args.parent.now in
    let es = c.self.inside.index.entries in
    let left = c.cut_last.new.ids in
    let there : value_at parent_cmp es parent ≡ Some c.in-Some.ids.now = sym c.in-Some.ensures.value in
    subst (λ (old : List (Parent × List ActionId)). IsMade parent_total parent all_but_last old (c.get_mut.follows.lender left).entries) c.self.view_is
    (made_there parent_total parent c.in-Some.ids.now left all_but_last es (c.get_mut.follows.lender left).entries ((c.get_mut.follows.holds left).3 (ap is_some there)).0 there c.cut_last.ensures)
