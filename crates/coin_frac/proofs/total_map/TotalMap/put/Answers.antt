use Rattle.std.proofs.Common.{◌≡◌, ℕ, ◌+◌, List, ap, arith}
use Rattle.maps.specs.Maps.{with_value}
use Rattle.coin_frac.specs.Totals.{total_of}
use Rattle.coin_frac.proofs.Totals.{total_of-with_value, total_of-without_key}
use Rattle.coin_frac.proofs.total_map.TotalMap.put.Given.{Over}
use Rattle.coin_frac.proofs.total_map.TotalMap.put.Goals as goal

pub overflow_sub-self : goal.overflow_sub-self
overflow_sub-self g c =
    omega (arith, c.self.invariant.0, c.unwrap_or-before.ensures, total_of-without_key g.K.Ord.cmp c.args.k c.self.inside.amounts.entries _ c.in_ok-insert.ensures.old)

-- the total afterwards, and what stood at the key
changed : (g : Over) (c : goal.After-unwrap_or-before g) → total_of (with_value g.K.Ord.cmp c.args.k c.args.v c.self.inside.amounts.entries) + c.unwrap_or-before.result ≡ c.self.inside.total + c.args.v
changed g c =
    omega (
      arith,
      c.self.invariant.0,
      c.unwrap_or-before.ensures,
      total_of-with_value g.K.Ord.cmp c.args.k c.self.inside.amounts.entries _ c.in_ok-insert.ensures.old g.met.K.Ord.total c.args.v c.self.invariant.1,
    )

pub overflow_add-self : goal.overflow_add-self
overflow_add-self g c =
    omega (
      arith,
      changed g c,
      overflow_sub-self g c,
      ap (λ (es : List (g.row.K.Denot × ℕ)). total_of (with_value g.K.Ord.cmp c.args.k c.args.v es)) c.self.view_is,
      c.requires.fits,
    )

pub invariant_of-self-2 : goal.invariant_of-self-2
invariant_of-self-2 g c = (
  rw c.in_ok-insert.ensures.entries
      (omega (
        arith,
        c.self.invariant.0,
        c.unwrap_or-before.ensures,
        total_of-without_key g.K.Ord.cmp c.args.k c.self.inside.amounts.entries _ c.in_ok-insert.ensures.old,
        total_of-with_value g.K.Ord.cmp c.args.k c.self.inside.amounts.entries _ c.in_ok-insert.ensures.old g.met.K.Ord.total c.args.v c.self.invariant.1,
      )),
  c.insert.ensures.ordered,
)
