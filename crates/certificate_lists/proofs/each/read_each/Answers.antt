-- A line was looked at, and then one more part was read, or none.
use Rattle.std.proofs.Common.{◌≡◌, ◌++◌, ◌∷◌, [], rules, subst, sym}
use Rattle.certificate_lists.proofs.Begun.{AreRead, all_read, broken, next_seen, one_more, passes_on}
use Rattle.certificate_lists.proofs.each.read_each.Goals as goal

-- src/each.rt:46:13
pub returns-then-not-branch-clause-reads : goal.returns-then-not-branch-clause-reads
returns-then-not-branch-clause-reads g c =
    let p = g.P.Part in
    let so = next_seen p.shape c.args.name.now p.form p.words c.loop.items c.loop.invariant.read c.is_begun.ensures.passes in
    all_read p.shape c.args.name.now p.form p.words c.requires c.laws.ensures c.loop.items (rw c.if-not-branch.true at c.in_ok-is_begun.ensures.begins) so

-- src/each.rt:50:21
pub returns-in-None-clause-reads : goal.returns-in-None-clause-reads
returns-in-None-clause-reads g c =
    let p = g.P.Part in
    let so = next_seen p.shape c.args.name.now p.form p.words c.loop.items c.loop.invariant.read c.is_begun.ensures.passes in
    broken p.shape c.args.name.now p.form p.words c.requires c.laws.ensures c.loop.items (rw c.if-not-branch.false at c.in_ok-is_begun.ensures.begins) so (rw c.in-None.is at c.in_ok-item.ensures.reads)

-- src/each.rt:44:5
pub loop-preserved : goal.loop-preserved
loop-preserved g c =
    let p = g.P.Part in
    let kept : c.push.new.self ≡ c.loop.items ++ c.in-Some.item ∷ [] = search rules in
    let so = next_seen p.shape c.args.name.now p.form p.words c.loop.items c.loop.invariant.read c.is_begun.ensures.passes in
    record {
      read = subst (λ t. AreRead p.shape c.args.name.now p.form p.words (g.G.LineGiver.passed c.args.giver.now) (g.G.LineGiver.passed c.read_part.new.giver) (g.G.LineGiver.giving c.args.giver.now) (g.G.LineGiver.giving c.read_part.new.giver) t) (sym kept)
          (one_more p.shape c.args.name.now p.form p.words c.requires c.laws.ensures c.loop.items (rw c.if-not-branch.false at c.in_ok-is_begun.ensures.begins) c.in-Some.item so (rw c.in-Some.is at c.in_ok-item.ensures.reads));
      some = passes_on c.loop.invariant.some c.is_begun.ensures.passes c.read_part.ensures.passes;
    }

pub returns-in_err-item-clause-passes : goal.returns-in_err-item-clause-passes
returns-in_err-item-clause-passes g c = passes_on c.loop.invariant.some c.is_begun.ensures.passes c.read_part.ensures.passes

pub returns-in-None-clause-passes : goal.returns-in-None-clause-passes
returns-in-None-clause-passes g c = passes_on c.loop.invariant.some c.is_begun.ensures.passes c.read_part.ensures.passes

pub returns-in_err-push-in-Some-clause-passes : goal.returns-in_err-push-in-Some-clause-passes
returns-in_err-push-in-Some-clause-passes g c = passes_on c.loop.invariant.some c.is_begun.ensures.passes c.read_part.ensures.passes
