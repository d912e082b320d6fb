use Rattle.std.proofs.Common.{arith}
use Rattle.coin_frac.proofs.Totals.{total_of-without_key}
use Rattle.coin_frac.proofs.total_map.TotalMap.take.Goals as goal

pub overflow_sub-self : goal.overflow_sub-self
overflow_sub-self g c =
    omega (arith, c.self.invariant.0, c.unwrap_or-taken.ensures, total_of-without_key g.K.Ord.cmp c.args.k.now c.self.inside.amounts.entries _ c.remove.ensures.value)

pub invariant_of-self : goal.invariant_of-self
invariant_of-self g c = (
  rw c.remove.ensures.entries
      (omega (arith, c.self.invariant.0, c.unwrap_or-taken.ensures, total_of-without_key g.K.Ord.cmp c.args.k.now c.self.inside.amounts.entries _ c.remove.ensures.value)),
  c.remove.ensures.ordered,
)
