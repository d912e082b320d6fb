use Rattle.std.proofs.Common.{◌≡◌, ◌∙◌, ◌++◌, ◌∷◌, [], List, Some, true, false, ap, sym, rules}
use Rattle.gov_actions.specs.declared.action.Action.{Action}
use Rattle.gov_actions.specs.declared.action.Purpose.{Purpose}
use Rattle.gov_actions.specs.Kinds.{last_of, previous_of, purpose_of}
use Rattle.gov_ids.specs.declared.ActionId.{ActionId}
use Rattle.gov_ids.specs.Orders.{action_id_cmp}
use Rattle.gov_ids.specs.Same.{same_action}
use Rattle.gov_model.proofs.Sames.{previous_same}
use Rattle.maps.specs.Maps.{with_key}
use Rattle.maps.specs.Words.{same_option}
use Rattle.lineage.specs.contracts.kept.Walk.{the_view}
use Rattle.lineage.proofs.Walking.{noted_orphan, noted_root}
use Rattle.lineage.proofs.kept.Walk.note.Goals as goal

pub returns-in_ok-push : goal.returns-in_ok-push
returns-in_ok-push c =
    let is : purpose_of c.args.p.now.action ≡ Some c.in-Some.purpose = search rules in
    let test : same_option same_action (previous_of c.args.p.now.action) (last_of c.args.last.now c.in-Some.purpose) ≡ true =
    (λ i. same_option same_action (previous_of c.args.p.now.action) (sym c.of.ensures i)) ∙ (λ i. same_option same_action (sym (c.previous.ensures ∙ ap (λ (a : Action). previous_of a) c.action-2.ensures) i) c.of.result)
    ∙ sym (previous_same c.previous.result c.of.result) ∙ sym c.eq.ensures ∙ c.if-eq.true in
    rw (← c.self.view_is) (ap (λ (es : List (Purpose × ActionId)). record { orphans = c.self.inside.orphans.keys; pending = es })
    (c.in_ok-push.ensures.items ∙ ap (λ (id : ActionId). c.self.inside.pending.items ++ (c.in-Some.purpose, id) ∷ []) c.id.ensures)
    ∙ noted_root c.args.last.now (the_view c.self.inside) c.args.p.now c.in-Some.purpose is test)

pub returns-in_ok-insert : goal.returns-in_ok-insert
returns-in_ok-insert c =
    let is : purpose_of c.args.p.now.action ≡ Some c.in-Some.purpose = search rules in
    let test : same_option same_action (previous_of c.args.p.now.action) (last_of c.args.last.now c.in-Some.purpose) ≡ false =
    (λ i. same_option same_action (previous_of c.args.p.now.action) (sym c.of.ensures i)) ∙ (λ i. same_option same_action (sym (c.previous.ensures ∙ ap (λ (a : Action). previous_of a) c.action-2.ensures) i) c.of.result)
    ∙ sym (previous_same c.previous.result c.of.result) ∙ sym c.eq.ensures ∙ c.if-eq.false in
    rw (← c.self.view_is) (ap (λ (ids : List ActionId). record { orphans = ids; pending = c.self.inside.pending.items })
    (c.in_ok-insert.ensures.keys ∙ ap (λ (id : ActionId). with_key action_id_cmp id c.self.inside.orphans.keys) c.id-else-eq.ensures)
    ∙ noted_orphan c.args.last.now (the_view c.self.inside) c.args.p.now c.in-Some.purpose is test)
