use Rattle.std.proofs.Common.{◌≡◌, ◌+◌, ℕ, List, [], ap, subst, sym, ◌∙◌, rules}
use Rattle.maps.specs.Maps.{IsMap, with_values}
use Rattle.coin_frac.specs.Totals.{total_of}
use Rattle.maps.proofs.Copied.{copied_is}
use Rattle.coin_frac.proofs.total_map.TotalMap.copied.Given.{Over}
use Rattle.coin_frac.proofs.total_map.TotalMap.copied.Goals as goal

pub loop-k-init : goal.loop-k-init
loop-k-init g c =
    let start : ◌≡◌ {A = List (g.row.K.Denot × ℕ)} c.into_iter-k-iterator.result c.self.inside.amounts.entries = search rules in (
      tt,
      tt,
      (λ i. with_values g.K.Ord.cmp (start i) (c.new-amounts.ensures.empty i)) ∙ copied_is g.met.K.Ord.total c.self.inside.amounts.entries c.self.invariant.1,
    )

pub loop-k-preserved : goal.loop-k-preserved
loop-k-preserved g c = (
  tt,
  tt,
  ap (λ (es : List (g.row.K.Denot × ℕ)). with_values g.K.Ord.cmp c.next.new.self es) c.in_ok-insert.ensures.entries
      ∙ ap (λ (es : List (g.row.K.Denot × ℕ)). with_values g.K.Ord.cmp es c.loop-k.amounts.entries) (sym c.in-Some.ensures.steps)
      ∙ c.loop-k.invariant.2,
)

same : (g : Over) (c : goal.In-None g) → c.loop-k.amounts.entries ≡ c.self.inside.amounts.entries
same g c = ap (λ (es : List (g.row.K.Denot × ℕ)). with_values g.K.Ord.cmp es c.loop-k.amounts.entries) (sym c.in-None.ensures.steps.0) ∙ c.loop-k.invariant.2

pub invariant_of-result : goal.invariant_of-result
invariant_of-result g c = (
  c.self.invariant.0 ∙ ap (λ (es : List (g.row.K.Denot × ℕ)). total_of es) (sym (same g c)),
  subst (λ (es : List (g.row.K.Denot × ℕ)). IsMap g.K.Ord.cmp es) (sym (same g c)) c.self.invariant.1,
)

pub returns : goal.returns
returns g c = same g c ∙ c.self.view_is
