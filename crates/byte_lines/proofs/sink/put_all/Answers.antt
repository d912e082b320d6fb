use Rattle.std.proofs.Common.{arith, rules}
use Rattle.byte_lines.proofs.LawLemmas.{appends-slice}
use Rattle.byte_lines.proofs.sink.put_all.Goals as goal

pub loop-at-preserved : goal.loop-at-preserved
loop-at-preserved g c = record {
  within = search rules;
  taken = appends-slice _ _ _ c.args.piece.now c.loop-at.at c.in_ok-taken.taken c.loop-at.invariant.taken c.in_ok-taken.ensures.took;
  counts = search rules;
  still = λ none. absurd (omega (arith, c.in_ok-taken.ensures.some));
}
