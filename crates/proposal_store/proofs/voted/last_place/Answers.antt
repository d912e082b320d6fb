use Rattle.std.proofs.Common.{◌≡◌, ◌-◌, true, false, [], get_or, arith, sym, ◌∙◌}
use Rattle.gov_ids.specs.declared.ActionId.{ActionId}
use Rattle.gov_ids.specs.Same.{same_action}
use Rattle.gov_ids.proofs.Sames.{action_same}
use Rattle.proposal_store.proofs.Once.{none_past, place_found, place_passed}
use Rattle.proposal_store.proofs.voted.last_place.Goals as goal

abbrev none : ActionId
none = record { tx = record { 0 = [] }; index = 0 }

pub loop-i-init : goal.loop-i-init
loop-i-init c = none_past c.args.ids.now c.args.id.now

pub loop-i-preserved : goal.loop-i-preserved
loop-i-preserved c =
    let ids = c.args.ids.now in
    let id = c.args.id.now in
    let x = get_or ids (c.loop-i.i - 1) none in
    let other : same_action x id ≡ false = sym (λ j. action_same j x id) ∙ sym c.eq.ensures ∙ c.if-eq.false in
    place_passed ids id c.loop-i.i none c.loop-i-test.true c.loop-i.auto.i other c.loop-i.invariant

pub returns-then-eq-clause-found : goal.returns-then-eq-clause-found
returns-then-eq-clause-found c =
    let ids = c.args.ids.now in
    let id = c.args.id.now in
    let x = get_or ids (c.loop-i.i - 1) none in
    let same : same_action x id ≡ true = sym (λ j. action_same j x id) ∙ sym c.eq.ensures ∙ c.if-eq.true in
    place_found ids id (c.loop-i.i - 1) none (omega (arith, c.loop-i-test.true, c.loop-i.auto.i)) same
