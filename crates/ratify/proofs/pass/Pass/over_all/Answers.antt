use Rattle.std.proofs.Common.{◌≡◌, ℕ, ap, sym, ◌∙◌, add-one, arith}
use Rattle.gov_actions.specs.Kinds.{in_order_of_priority}
use Rattle.snapshots.specs.declared.frozen.Frozen.{Frozen}
use Rattle.ratify.specs.Passes.{pass_after}
use Rattle.ratify.proofs.Orders.{of_first, of_first-suc}
use Rattle.ratify.proofs.pass.Pass.over_all.Goals as goal

pub loop-priority-preserved : goal.loop-priority-preserved
loop-priority-preserved c =
    let n = c.loop-priority.priority in
    let ps = c.args.f.now.proposals in
    record {
      passed = λ s of counted.
          c.in_ok-pass.ensures.passed s of counted (of_first n ps) (c.loop-priority.invariant.passed s of counted)
          ∙ ap (pass_after s) (sym (of_first-suc n ps c.loop-priority-test.true) ∙ ap (λ (m : ℕ). of_first m ps) (sym (add-one n)));
      members = c.in_ok-pass.ensures.members;
    }

pub returns-clause-passed : goal.returns-clause-passed
returns-clause-passed c =
    let ended : c.loop-priority.priority ≡ 7 = omega (arith, c.loop-priority.auto.priority-end, c.loop-priority-test.false) in
    λ s of counted.
    c.loop-priority.invariant.passed s of counted
    ∙ ap (λ (n : ℕ). pass_after s (of_first n c.args.f.now.proposals)) ended
    ∙ ap (λ (f : Frozen). pass_after s (in_order_of_priority f.proposals)) of
