use Rattle.std.proofs.Common.{◌≡◌, ℕ, List, ap, subst, sym, ◌∙◌, arith}
use Rattle.maps.proofs.Kept.{IsMap-with_value}
use Rattle.maps.proofs.Placed.{set_value-with_value}
use Rattle.maps.specs.Maps.{IsMap, with_value}
use Rattle.coin_frac.specs.Totals.{total_of}
use Rattle.coin_frac.proofs.Totals.{total_of-with_value, total_of-without_key}
use Rattle.coin_frac.proofs.total_map.TotalMap.set.Given.{Over}
use Rattle.coin_frac.proofs.total_map.TotalMap.set.Goals as goal

pub overflow_add-self : goal.overflow_add-self
overflow_add-self g c =
    omega (
      arith,
      c.self.invariant.0,
      total_of-with_value g.K.Ord.cmp c.args.k.now c.self.inside.amounts.entries _ c.in-Some.ensures.value g.met.K.Ord.total c.args.v c.self.invariant.1,
      total_of-without_key g.K.Ord.cmp c.args.k.now c.self.inside.amounts.entries _ c.in-Some.ensures.value,
      ap (λ (es : List (g.row.K.Denot × ℕ)). total_of (with_value g.K.Ord.cmp c.args.k.now c.args.v es)) c.self.view_is,
      c.requires.fits,
    )

-- the amounts afterwards
written : (g : Over) (c : goal.After-self-in-Some-1 g) → (c.get_mut.follows.lender c.args.v).entries ≡ with_value g.K.Ord.cmp c.args.k.now c.args.v c.self.inside.amounts.entries
written g c = (c.get_mut.follows.holds c.args.v).0 ∙ set_value-with_value g.met.K.Ord.total c.args.k.now c.args.v _ c.self.inside.amounts.entries c.self.invariant.1 (sym c.in-Some.ensures.value)

pub invariant_of-self : goal.invariant_of-self
invariant_of-self g c = (
  rw (written g c)
      (omega (
        arith,
        c.self.invariant.0,
        total_of-with_value g.K.Ord.cmp c.args.k.now c.self.inside.amounts.entries _ c.in-Some.ensures.value g.met.K.Ord.total c.args.v c.self.invariant.1,
        total_of-without_key g.K.Ord.cmp c.args.k.now c.self.inside.amounts.entries _ c.in-Some.ensures.value,
      )),
  subst (λ (es : List (g.row.K.Denot × ℕ)). IsMap g.K.Ord.cmp es) (sym (written g c)) (IsMap-with_value g.met.K.Ord.total c.args.k.now c.args.v c.self.inside.amounts.entries c.self.invariant.1),
)

pub returns-in-Some : goal.returns-in-Some
returns-in-Some g c = written g c ∙ ap (λ (es : List (g.row.K.Denot × ℕ)). with_value g.K.Ord.cmp c.args.k.now c.args.v es) c.self.view_is
