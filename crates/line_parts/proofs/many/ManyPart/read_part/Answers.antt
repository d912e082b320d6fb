-- One more was read, or none.
use Rattle.std.proofs.Common.{◌≡◌, ◌++◌, ◌∷◌, [], rules, subst, sym}
use Rattle.line_giver.proofs.Passing.{passes_both}
use Rattle.line_parts.proofs.Repeats.{IsReadSoFar, so_far_end, so_far_more}
use Rattle.line_parts.proofs.many.ManyPart.read_part.Goals as goal

-- src/many.rt:52:25
pub returns-in-None-clause-reads : goal.returns-in-None-clause-reads
returns-in-None-clause-reads g c fits =
    let p = g.P.Part in
    so_far_end p.shape p.form p.words c.laws.ensures c.loop.items fits (c.loop.invariant.0 fits) (rw c.in-None.is at c.in_ok-item.ensures.reads)

-- src/many.rt:49:9
pub loop-preserved : goal.loop-preserved
loop-preserved g c =
    let p = g.P.Part in
    let kept : c.keep.new.items ≡ c.loop.items ++ c.in-Some.item ∷ [] = search rules in
    let faults : g.G.LineGiver.faults c.read_part.new.giver ≡ g.G.LineGiver.faults c.args.giver.now = search rules in (
      λ fits. subst (λ t. IsReadSoFar p.shape p.form p.words (g.G.LineGiver.passed c.args.giver.now) (g.G.LineGiver.passed c.read_part.new.giver) (g.G.LineGiver.giving c.args.giver.now) (g.G.LineGiver.giving c.read_part.new.giver) t) (sym kept)
          (so_far_more p.shape p.form p.words c.laws.ensures c.loop.items fits c.in-Some.item (c.loop.invariant.0 fits) (rw c.in-Some.is at c.in_ok-item.ensures.reads)),
      faults,
      passes_both c.loop.invariant.2 c.in_ok-item.ensures.passes,
    )

pub returns-in_err-item-clause-passes : goal.returns-in_err-item-clause-passes
returns-in_err-item-clause-passes g c = passes_both c.loop.invariant.2 c.in_err-item.ensures.passes

pub returns-in-None-clause-passes : goal.returns-in-None-clause-passes
returns-in-None-clause-passes g c = passes_both c.loop.invariant.2 c.in_ok-item.ensures.passes

pub returns-in_err-keep-in-Some-clause-passes : goal.returns-in_err-keep-in-Some-clause-passes
returns-in_err-keep-in-Some-clause-passes g c = passes_both c.loop.invariant.2 c.in_ok-item.ensures.passes
