use Rattle.std.proofs.Common.{ap, arith}
use Rattle.std.proofs.lemmas.List.Sums.{sum_by-drop_more}
use Rattle.genesis_problems.proofs.lovelace.lovelace_in.Goals as goal

pub loop-entry-preserved : goal.loop-entry-preserved
loop-entry-preserved g c = record {
  bound = omega arith;
  rest = omega (
    arith,
    sum_by-drop_more g.T.Holding.lovelace_of c.args.entries.now c.loop-entry.entry-index c.entry-item.result c.loop-entry-test.true,
    ap g.T.Holding.lovelace_of c.entry-item.is,
  );
}
