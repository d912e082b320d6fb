use Rattle.std.proofs.Common.{◌+◌, List, subst, sym, take, ◌∙◌}
use Rattle.gov_ids.specs.declared.OutRef.{OutRef}
use Rattle.out_refs.proofs.Fronts.{HasFront, not_seen, one_more, seen_before}
use Rattle.out_refs.proofs.repeats.by_a_set.Goals as goal

pub returns-then-not-branch : goal.returns-then-not-branch
returns-then-not-branch c =
    seen_before c.args.refs.now c.loop-place.place _ c.loop-place-test.true c.loop-place.seen.keys c.loop-place.invariant.seen _ c.in_ok-insert.ensures.added c.if-not-branch.true
    ∙ c.loop-place.invariant.left

pub loop-place-preserved : goal.loop-place-preserved
loop-place-preserved c = record {
  seen = subst (λ (keys : List OutRef). HasFront keys (take (c.loop-place.place + 1) c.args.refs.now)) (sym c.in_ok-insert.ensures.keys)
      (one_more c.args.refs.now c.loop-place.place _ c.loop-place-test.true c.loop-place.seen.keys c.loop-place.invariant.seen _ c.in_ok-insert.ensures.added);
  left =
      not_seen c.args.refs.now c.loop-place.place _ c.loop-place-test.true c.loop-place.seen.keys c.loop-place.invariant.seen _ c.in_ok-insert.ensures.added c.if-not-branch.false
      ∙ c.loop-place.invariant.left;
}
