use Rattle.std.proofs.Common.{subst, sym}
use Rattle.gov_model.specs.Ratified.{expired_of, tallies_of}
use Rattle.epoch_steps.specs.of_ratify.Outcomes.{state_by}
use Rattle.epoch_steps.specs.of_ratify.declared.outcome.Outcome.{Outcome}
use Rattle.snapshots.specs.declared.frozen.Frozen.{Frozen}
use Rattle.tally.specs.Counted.{AreOf, CanBeCounted}
use Rattle.epoch_rule.proofs.Ahead.{by_ratified, ratified_is}
use Rattle.epoch_rule.proofs.outlook.next_outcome.Goals as goal

pub ratify-requires : goal.ratify-requires
ratify-requires c = record { counted = subst (λ (f : Frozen). CanBeCounted f c.in_ok-counted.counted) (sym c.frozen.ensures) c.in_ok-counted.ensures.fits }

pub returns-clause-ratified : goal.returns-clause-ratified
returns-clause-ratified c =
    let are : AreOf c.args.s.now.frozen c.frozen.result.now c.in_ok-counted.counted = record { frozen = c.frozen.ensures; counted = c.in_ok-counted.ensures.counted } in
    ratified_is c.one_list_is_ratified.ensures c.args.s.now.frozen _ _ are c.in_ok-counted.ensures.fits.proposals c.ratify.result c.ratify.ensures.ratified

pub returns-clause-expired : goal.returns-clause-expired
returns-clause-expired c =
    let are : AreOf c.args.s.now.frozen c.frozen.result.now c.in_ok-counted.counted = record { frozen = c.frozen.ensures; counted = c.in_ok-counted.ensures.counted } in
    by_ratified c.one_list_is_ratified.ensures c.args.s.now.frozen _ _ are c.in_ok-counted.ensures.fits.proposals (λ (o : Outcome). o.expired) expired_of c.ratify.result c.ratify.ensures.ratified c.ratify.ensures.expired

pub returns-clause-state : goal.returns-clause-state
returns-clause-state c =
    let are : AreOf c.args.s.now.frozen c.frozen.result.now c.in_ok-counted.counted = record { frozen = c.frozen.ensures; counted = c.in_ok-counted.ensures.counted } in
    by_ratified c.one_list_is_ratified.ensures c.args.s.now.frozen _ _ are c.in_ok-counted.ensures.fits.proposals (λ (o : Outcome). o.state) state_by c.ratify.result c.ratify.ensures.ratified c.ratify.ensures.state

pub returns-clause-tallies : goal.returns-clause-tallies
returns-clause-tallies c =
    let are : AreOf c.args.s.now.frozen c.frozen.result.now c.in_ok-counted.counted = record { frozen = c.frozen.ensures; counted = c.in_ok-counted.ensures.counted } in
    by_ratified c.one_list_is_ratified.ensures c.args.s.now.frozen _ _ are c.in_ok-counted.ensures.fits.proposals (λ (o : Outcome). o.tallies) tallies_of c.ratify.result c.ratify.ensures.ratified c.ratify.ensures.tallies
