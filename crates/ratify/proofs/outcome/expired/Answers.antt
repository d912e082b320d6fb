use Rattle.std.proofs.Common.{◌≡◌, ◌&&◌, List, IfOk, filter, nat_lt, not, subst, ap, ◌∙◌}
use Rattle.gov_actions.specs.declared.action.Proposal.{Proposal}
use Rattle.gov_ids.specs.declared.ActionId.{ActionId}
use Rattle.gov_ids.specs.Orders.{action_id_cmp}
use Rattle.gov_ids.proofs.Totals.{action_id_total}
use Rattle.gov_model.specs.Ratified.{ids_of}
use Rattle.maps.proofs.Sets.{has_member-in_order}
use Rattle.maps.specs.Maps.{in_order}
use Rattle.ratify.specs.Outcomes.{expired_by}
use Rattle.snapshots.specs.declared.frozen.Frozen.{Frozen}
use Rattle.ratify.proofs.outcome.expired.Goals as goal

-- a set of keys tells what the list of them tells
expired_in_order : (f : Frozen) (ids : List ActionId) → expired_by f (in_order action_id_cmp ids) ≡ expired_by f ids
expired_in_order f ids = λ i. ids_of (filter (λ (a : Proposal). not (has_member-in_order action_id_total ids a.id i) && nat_lt a.expires_after f.epoch) f.proposals)

pub returns : goal.returns
returns c =
    let f = c.args.f.now in
    let ratified = c.args.ratified.now in
    subst (λ (l : List ActionId). IfOk c.expired_beside.result (λ ids. ids ≡ l))
    (ap (λ (keys : List ActionId). expired_by f keys) c.in_ok-ratified.ensures ∙ expired_in_order f ratified)
    c.expired_beside.ensures
