use Rattle.std.proofs.Common.{◌≡◌, cond, List, Option, Some, None, [], ◌∷◌, ◌++◌, unwrap_or, is_some, if◌then◌else◌, ap, sym, ◌∙◌}
use Rattle.std.specs.Ordering.{eq_by_cmp}
use Rattle.std.specs.BTreeMap.{BTreeMap, is_at}
use Rattle.std.specs.Map.{set_value}
use Rattle.std.proofs.lemmas.Map.Steps.{set_value_same}
use Rattle.gov_ids.specs.declared.ActionId.{ActionId}
use Rattle.maps.specs.Maps.{value_at}
use Rattle.maps.proofs.Joined.{on_err}
use Rattle.maps.proofs.Placed.{value_at_tied}
use Rattle.proposal_store.specs.declared.families.Parent.{Parent}
use Rattle.proposal_store.specs.Families.{parent_cmp, ids_at}
use Rattle.proposal_store.proofs.Index.{one_more}
use Rattle.proposal_store.proofs.Parents.{parent_total}
use Rattle.proposal_store.proofs.families.Families.add.Goals as goal

pub returns-in_err-push-clause-err : goal.returns-in_err-push-clause-err
returns-in_err-push-clause-err c =
    let test = is_at (parent_cmp c.args.parent) in
    let es = c.self.inside.index.entries in
    let same : c.push.new.self ≡ c.in-Some.ids.now = c.in_err-push.ensures.err in
    on_err c.from_residual.result (
    (c.get_mut.follows.holds c.push.new.self).0
    ∙ ap (λ (ids : List ActionId). set_value test es ids) same ∙ set_value_same test es c.in-Some.ids.now (sym c.in-Some.ensures.value)
    ∙ c.self.view_is
    )

pub returns-in-Some-clause-ok : goal.returns-in-Some-clause-ok
returns-in-Some-clause-ok c q =
    let parent = c.args.parent in
    let es = c.self.inside.index.entries in
    let there : value_at parent_cmp es parent ≡ Some c.in-Some.ids.now = sym c.in-Some.ensures.value in
    let at : value_at parent_cmp (c.get_mut.follows.lender c.push.new.self).entries q ≡ cond (eq_by_cmp parent_cmp parent q) (Some c.push.new.self) (value_at parent_cmp es q) =
    ((c.get_mut.follows.holds c.push.new.self).3 (ap is_some there)).0 q in
    ap (λ (o : Option (List ActionId)). unwrap_or o []) at
    ∙ ap (λ (ids : List ActionId). unwrap_or (cond (eq_by_cmp parent_cmp parent q) (Some ids) (value_at parent_cmp es q)) []) c.in_ok-push.ensures.ok
    ∙ one_more parent q c.args.id c.in-Some.ids.now (value_at parent_cmp es q) (λ t. ap (λ (o : Option (List ActionId)). unwrap_or o []) (value_at_tied parent_total parent q es t ∙ there))
    ∙ ap (λ (index : List (Parent × List ActionId)). if eq_by_cmp parent_cmp parent q then ids_at index q ++ c.args.id ∷ [] else ids_at index q) c.self.view_is

pub returns-clause-ok : goal.returns-clause-ok
returns-clause-ok c q =
    let parent = c.args.parent in
    let es = c.self.inside.index.entries in
    let absent : value_at parent_cmp es parent ≡ None = sym c.in_default.ensures.value in
    let value : c.push-2.new.self ≡ c.args.id ∷ [] = c.in_ok-push-2.ensures.ok ∙ ap (λ (ids : List ActionId). ids ++ c.args.id ∷ []) c.new-ids.ensures in
    let before : c.get_mut.follows.lender-at-none.entries ≡ es = ap (λ (m : BTreeMap Parent (List ActionId)). m.entries) c.get_mut.follows.holds-at-none in
    let at : value_at parent_cmp c.insert.new.self.entries q ≡ cond (eq_by_cmp parent_cmp parent q) (Some (c.args.id ∷ [])) (value_at parent_cmp es q) =
    c.in_ok-insert.ensures.updates.0 q
    ∙ (λ i. cond (eq_by_cmp parent_cmp parent q) (Some (value i)) (value_at parent_cmp (before i) q)) in
    ap (λ (o : Option (List ActionId)). unwrap_or o []) at
    ∙ one_more parent q c.args.id [] (value_at parent_cmp es q) (λ t. ap (λ (o : Option (List ActionId)). unwrap_or o []) (value_at_tied parent_total parent q es t ∙ absent))
    ∙ ap (λ (index : List (Parent × List ActionId)). if eq_by_cmp parent_cmp parent q then ids_at index q ++ c.args.id ∷ [] else ids_at index q) c.self.view_is
