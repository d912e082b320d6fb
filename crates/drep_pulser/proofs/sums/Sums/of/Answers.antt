use Rattle.std.proofs.Common.{List, ℕ, subst, sym, ◌∙◌}
use Rattle.gov_ids.specs.declared.Drep.{Drep}
use Rattle.gov_ids.specs.Orders.{drep_cmp}
use Rattle.maps.specs.Maps.{IsMap}
use Rattle.drep_pulser.proofs.Ordered.{built_sums, ordered_sums}
use Rattle.drep_pulser.proofs.sums.Sums.of.Goals as goal

pub invariant_of-result : goal.invariant_of-result
invariant_of-result c =
    let is = built_sums c.args.dreps.now.dreps c.as_slice.result.now c.in_ok-amounts.amounts.items c.push.new.self.items c.push-2.new.self.items c.in_ok-listed.ensures.in_order
    (c.as_slice.ensures.value ∙ c.in_ok-listed.ensures.value) c.in_ok-amounts.ensures c.in_ok-push.ensures.items c.in_ok-push-2.ensures.items in
    subst (λ (es : List (Drep × ℕ)). IsMap drep_cmp es) (sym is) (ordered_sums c.args.dreps.now.dreps)

pub returns : goal.returns
returns c =
    built_sums c.args.dreps.now.dreps c.as_slice.result.now c.in_ok-amounts.amounts.items c.push.new.self.items c.push-2.new.self.items c.in_ok-listed.ensures.in_order
    (c.as_slice.ensures.value ∙ c.in_ok-listed.ensures.value) c.in_ok-amounts.ensures c.in_ok-push.ensures.items c.in_ok-push-2.ensures.items
