use Rattle.std.proofs.Common.{arith}
use Rattle.assets.proofs.Sums.{totals_same}
use Rattle.assets.proofs.totals.AssetTotals.add.Goals as goal

pub returns-then-added-entries-clause-err : goal.returns-then-added-entries-clause-err
returns-then-added-entries-clause-err c =
    totals_same _ _ c.lower_all.ensures.sound c.raise_while-added.ensures.was_sound (λ a. omega (arith, c.lower_all.ensures.totals a, c.raise_while-added.ensures.totals a))
