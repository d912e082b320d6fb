use Rattle.std.proofs.Common.{◌≡◌, true, false, List, slice_get, subst, ◌∙◌}
use Rattle.gov_ids.specs.declared.ActionId.{ActionId}
use Rattle.gov_ids.specs.Orders.{action_id_cmp}
use Rattle.gov_ids.specs.Same.{same_action}
use Rattle.maps.specs.Maps.{has_member}
use Rattle.maps.specs.Words.{some_and}
use Rattle.proposal_store.proofs.Once.{none_removed, removed_is}
use Rattle.proposal_store.proofs.voted.take_out.Goals as goal

pub returns-in-Some : goal.returns-in-Some
returns-in-Some c =
    let found = subst (λ (ids : List ActionId). some_and (same_action c.args.id.now) (slice_get ids c.in-Some.i) ≡ true) c.as_slice.ensures c.in-Some.ensures.found in
    c.remove.ensures.rest ∙ removed_is c.args.ids.now c.args.id.now c.in-Some.i c.requires found

pub returns-in_default : goal.returns-in_default
returns-in_default c =
    none_removed c.args.ids.now c.args.id.now (subst (λ (ids : List ActionId). has_member action_id_cmp ids c.args.id.now ≡ false) c.as_slice.ensures (c.last_place.ensures.absent c.in_default.is))
