use Rattle.std.proofs.Common.{◌≡◌, ◌≤◌, ◌-◌, ◌*◌, ◌^◌, ◌∷◌, [], ℕ, List, ap, subst, sym, ◌∙◌, arith}
use Rattle.std.specs.List.{AllByRecursion}
use Rattle.gov_ids.specs.declared.assets.AssetId.{AssetId}
use Rattle.gov_ids.specs.Orders.{asset_cmp}
use Rattle.gov_ids.proofs.Totals.{asset_total}
use Rattle.gov_ids.proofs.proofs_of_maps.Placed.{set_value-with_value}
use Rattle.gov_ids.specs.of_maps.Maps.{with_value}
use Rattle.assets.specs.Quantities.{quantity_of}
use Rattle.assets.specs.Totals.{AreTotals, total_at}
use Rattle.assets.proofs.Sums.{AreTotals-with_value, AreTotals-without_key, total_at-bounded, total_at-less, total_at-none}
use Rattle.assets.proofs.Values.{all-with_value, all-without_key}
use Rattle.assets.proofs.totals.AssetTotals.lower.Goals as goal

pub invariant_of-self : goal.invariant_of-self
invariant_of-self c = subst (λ (ts : List (AssetId × ℕ)). AreTotals ts × AllByRecursion (λ (e : AssetId × ℕ). e.1 ≤ c.self.inside.added * 2 ^ 64) ts) (sym c.remove.ensures.entries)
    (AreTotals-without_key c.args.asset.now c.self.inside.totals.entries c.self.invariant.0, all-without_key asset_cmp (λ (n : ℕ). n ≤ c.self.inside.added * 2 ^ 64) c.args.asset.now c.self.inside.totals.entries c.self.invariant.1)

pub returns-then-left-eq0-clause-totals : goal.returns-then-left-eq0-clause-totals
returns-then-left-eq0-clause-totals c =
    let is : c.total.result ≡ total_at c.self.inside.totals.entries c.args.asset.now = c.total.ensures.value ∙ ap (λ (ts : List (AssetId × ℕ)). total_at ts c.args.asset.now) (sym c.self.view_is) in
    λ a.
    ap (λ (ts : List (AssetId × ℕ)). total_at ts a) c.remove.ensures.entries
    ∙ total_at-none c.args.asset.now c.args.quantity c.self.inside.totals.entries a c.self.invariant.0.0 (omega (arith, is, c.from.ensures, c.if-left-eq0.true))
    ∙ ap (λ (ts : List (AssetId × ℕ)). total_at ts a - quantity_of ((c.args.asset.now, c.args.quantity) ∷ []) a) c.self.view_is

pub returns-then-left-eq0-clause-sound : goal.returns-then-left-eq0-clause-sound
returns-then-left-eq0-clause-sound c = subst (λ (ts : List (AssetId × ℕ)). AreTotals ts) (sym c.remove.ensures.entries) (AreTotals-without_key c.args.asset.now c.self.inside.totals.entries c.self.invariant.0)

-- the totals afterwards, where some is left
written : (c : goal.After-self-in-Some-1) → (c.get_mut.follows.lender (c.total.result - c.from.result)).entries ≡ with_value asset_cmp c.args.asset.now (c.total.result - c.from.result) c.self.inside.totals.entries
written c =
    (c.get_mut.follows.holds (c.total.result - c.from.result)).0
    ∙ set_value-with_value asset_total c.args.asset.now (c.total.result - c.from.result) _ c.self.inside.totals.entries c.self.invariant.0.0 (sym c.in-Some.ensures.value)

sound : (c : goal.After-self-in-Some-1) → AreTotals (c.get_mut.follows.lender (c.total.result - c.from.result)).entries
sound c = subst (λ (ts : List (AssetId × ℕ)). AreTotals ts) (sym (written c)) (AreTotals-with_value c.args.asset.now (c.total.result - c.from.result) c.self.inside.totals.entries c.self.invariant.0 (omega (arith, c.if-left-eq0.false)))

pub invariant_of-self-in-Some : goal.invariant_of-self-in-Some
invariant_of-self-in-Some c =
    let here : total_at c.self.inside.totals.entries c.args.asset.now ≤ c.self.inside.added * 2 ^ 64 =
    total_at-bounded (c.self.inside.added * 2 ^ 64) c.args.asset.now c.self.inside.totals.entries c.self.invariant.1 in
    let is : c.total.result ≡ total_at c.self.inside.totals.entries c.args.asset.now = c.total.ensures.value ∙ ap (λ (ts : List (AssetId × ℕ)). total_at ts c.args.asset.now) (sym c.self.view_is) in (
      sound c,
      subst (λ (ts : List (AssetId × ℕ)). AllByRecursion (λ (e : AssetId × ℕ). e.1 ≤ c.self.inside.added * 2 ^ 64) ts) (sym (written c))
          (all-with_value asset_cmp (λ (n : ℕ). n ≤ c.self.inside.added * 2 ^ 64) c.args.asset.now (c.total.result - c.from.result) c.self.inside.totals.entries (omega (arith, here, is)) c.self.invariant.1),
    )

pub returns-in-Some-clause-totals : goal.returns-in-Some-clause-totals
returns-in-Some-clause-totals c =
    let is : c.total.result ≡ total_at c.self.inside.totals.entries c.args.asset.now = c.total.ensures.value ∙ ap (λ (ts : List (AssetId × ℕ)). total_at ts c.args.asset.now) (sym c.self.view_is) in
    λ a.
    ap (λ (ts : List (AssetId × ℕ)). total_at ts a) (written c)
    ∙ total_at-less c.args.asset.now c.args.quantity (c.total.result - c.from.result) c.self.inside.totals.entries a (omega (arith, is, c.from.ensures))
    ∙ ap (λ (ts : List (AssetId × ℕ)). total_at ts a - quantity_of ((c.args.asset.now, c.args.quantity) ∷ []) a) c.self.view_is

pub returns-in-Some-clause-sound : goal.returns-in-Some-clause-sound
returns-in-Some-clause-sound c = sound c
