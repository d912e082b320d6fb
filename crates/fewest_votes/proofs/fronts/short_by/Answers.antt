use Rattle.std.proofs.Common.{ℕ, [], arith, ap, sym, ◌∙◌}
use Rattle.coin_frac.specs.Reaches.{reaches}
use Rattle.gov_ids.specs.declared.CredKind.TheVariants.{Key}
use Rattle.gov_ids.specs.declared.Credential.{Credential}
use Rattle.fewest_votes.proofs.Reached.{IsShare}
use Rattle.fewest_votes.proofs.Taken.{taken_all, taken_more, taken_none, taken_past, taken_reach}
use Rattle.fewest_votes.proofs.fronts.short_by.Goals as goal
use Rattle.fewest_votes.proofs.fronts.short_by.Goals.{then-is_silent+in_ok-push+else-reaches-2, else-is_silent}

abbrev nobody : Credential × ℕ
nobody = (record { hash = []; kind = Key }, 0)

pub returns-then-reaches-2 : goal.returns-then-reaches-2
returns-then-reaches-2 c =
    let is : IsShare c.args.total c.args.need = record { within = omega (arith, c.ranges.total.fits); share = omega (arith, c.den-den.ensures.at_most_one, c.den-den.ensures.value) } in
    taken_reach c.args.need (c.args.yes, c.args.total) c.args.a.now c.args.dreps.now c.loop-drep.drep-index c.loop-drep.chosen c.push.new.self c.loop-drep.ayes c.saturating_add-ayes.result nobody
    is c.loop-drep-test.true (sym c.is_silent.ensures ∙ c.if-is_silent.true) c.in_ok-push.ensures.ok c.saturating_add-ayes.ensures
    (sym c.reaches-then-is_silent.ensures.test ∙ c.if-reaches-2.true) c.loop-drep.invariant

pub loop-drep-init : goal.loop-drep-init
loop-drep-init c =
    let is : IsShare c.args.total c.args.need = record { within = omega (arith, c.ranges.total.fits); share = omega (arith, c.den-den.ensures.at_most_one, c.den-den.ensures.value) } in
    taken_none c.args.need (c.args.yes, c.args.total) c.args.a.now c.args.dreps.now c.new-chosen.result is (omega (arith, c.ranges.yes.fits)) (sym c.reaches.ensures.test ∙ c.if-reaches.false) c.new-chosen.ensures

pub loop-drep-preserved : goal.loop-drep-preserved
loop-drep-preserved c =
    let is : IsShare c.args.total c.args.need = record { within = omega (arith, c.ranges.total.fits); share = omega (arith, c.den-den.ensures.at_most_one, c.den-den.ensures.value) } in
    elim c.if-is_silent.branch [
      | then-is_silent+in_ok-push+else-reaches-2 w ↦
          taken_more c.args.need (c.args.yes, c.args.total) c.args.a.now c.args.dreps.now c.loop-drep.drep-index c.loop-drep.chosen c.if-is_silent.chosen c.loop-drep.ayes c.if-is_silent.ayes nobody
          is c.loop-drep-test.true (sym c.is_silent.ensures ∙ w.if-is_silent.true) (w.chosen-is ∙ w.in_ok-push.ensures.ok) (w.ayes-is ∙ w.saturating_add-ayes.ensures) (ap (λ (n : ℕ). reaches n c.args.total c.args.need) w.ayes-is ∙ sym w.reaches-then-is_silent.ensures.test ∙ w.if-reaches-2.false) c.loop-drep.invariant
      | else-is_silent w ↦
          taken_past c.args.need (c.args.yes, c.args.total) c.args.a.now c.args.dreps.now c.loop-drep.drep-index c.loop-drep.chosen c.if-is_silent.chosen c.loop-drep.ayes c.if-is_silent.ayes nobody
          c.loop-drep-test.true (sym c.is_silent.ensures ∙ w.if-is_silent.false) w.chosen-is w.ayes-is c.loop-drep.invariant
    ]

pub returns : goal.returns
returns c =
    taken_all c.args.need (c.args.yes, c.args.total) c.args.a.now c.args.dreps.now c.loop-drep.drep-index c.loop-drep.chosen c.loop-drep.ayes c.loop-drep-test.false c.loop-drep.invariant
