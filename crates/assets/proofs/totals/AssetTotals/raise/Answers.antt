use Rattle.std.proofs.Common.{◌≡◌, ◌≤◌, ◌<◌, ◌+◌, ◌*◌, ◌^◌, ◌∷◌, [], ℕ, List, ap, subst, sym, ◌∙◌, arith}
use Rattle.std.specs.List.{AllByRecursion}
use Rattle.gov_ids.specs.declared.assets.AssetId.{AssetId}
use Rattle.gov_ids.specs.Orders.{asset_cmp}
use Rattle.gov_ids.specs.of_maps.Maps.{with_value}
use Rattle.assets.specs.Quantities.{quantity_of}
use Rattle.assets.specs.Totals.{AreTotals, total_at}
use Rattle.assets.proofs.Sums.{AreTotals-with_value, total_at-bounded, total_at-more}
use Rattle.assets.proofs.Values.{all-weaker, all-with_value, given_is}
use Rattle.assets.proofs.totals.AssetTotals.raise.Goals as goal

pub overflow_add-total : goal.overflow_add-total
overflow_add-total c =
    let k = c.self.inside.added in
    let counted = given_is c.checked_add.result (k + 1 < 18446744073709551616) (k + 1) c.in_ok-added.added c.checked_add.ensures c.in_ok-added.ensures.ok_part in
    let is : total_at c.self.inside.totals.entries c.args.asset.now ≡ total_at c.args.self.now c.args.asset.now = ap (λ (ts : List (AssetId × ℕ)). total_at ts c.args.asset.now) c.self.view_is in
    let bounded = total_at-bounded (k * 2 ^ 64) c.args.asset.now c.self.inside.totals.entries c.self.invariant.1 in
    omega (arith, counted.0, bounded, is, c.total.ensures.value, c.from.ensures, c.ranges.quantity.fits)

-- the totals afterwards
made : (c : goal.After-self-1) → c.insert.new.self.entries ≡ with_value asset_cmp c.args.asset.now (total_at c.self.inside.totals.entries c.args.asset.now + c.args.quantity) c.self.inside.totals.entries
made c =
    let is : total_at c.self.inside.totals.entries c.args.asset.now ≡ total_at c.args.self.now c.args.asset.now = ap (λ (ts : List (AssetId × ℕ)). total_at ts c.args.asset.now) c.self.view_is in
    let total : c.total.result + c.from.result ≡ total_at c.self.inside.totals.entries c.args.asset.now + c.args.quantity = omega (arith, is, c.total.ensures.value, c.from.ensures) in
    c.in_ok-insert.ensures.entries ∙ ap (λ n. with_value asset_cmp c.args.asset.now n c.self.inside.totals.entries) total

sound : (c : goal.After-self-1) → AreTotals c.insert.new.self.entries
sound c = subst (λ (ts : List (AssetId × ℕ)). AreTotals ts) (sym (made c)) (AreTotals-with_value c.args.asset.now (total_at c.self.inside.totals.entries c.args.asset.now + c.args.quantity) c.self.inside.totals.entries c.self.invariant.0 (omega (arith, c.requires.some)))

pub invariant_of-self : goal.invariant_of-self
invariant_of-self c =
    subst (λ (ts : List (AssetId × ℕ)). AreTotals ts × AllByRecursion (λ (e : AssetId × ℕ). e.1 ≤ c.self.inside.added * 2 ^ 64) ts) (sym c.in_err-insert.ensures.err) c.self.invariant

pub invariant_of-self-2 : goal.invariant_of-self-2
invariant_of-self-2 c =
    let k = c.self.inside.added in
    let counted = given_is c.checked_add.result (k + 1 < 18446744073709551616) (k + 1) c.in_ok-added.added c.checked_add.ensures c.in_ok-added.ensures.ok_part in
    let bounded = total_at-bounded (k * 2 ^ 64) c.args.asset.now c.self.inside.totals.entries c.self.invariant.1 in
    let more : (n : ℕ) → n ≤ k * 2 ^ 64 → n ≤ c.in_ok-added.added * 2 ^ 64 = λ n h. omega (arith, h, counted.1) in (
      sound c,
      subst (λ (ts : List (AssetId × ℕ)). AllByRecursion (λ (e : AssetId × ℕ). e.1 ≤ c.in_ok-added.added * 2 ^ 64) ts) (sym (made c))
          (all-with_value asset_cmp (λ (n : ℕ). n ≤ c.in_ok-added.added * 2 ^ 64) c.args.asset.now (total_at c.self.inside.totals.entries c.args.asset.now + c.args.quantity) c.self.inside.totals.entries
          (omega (arith, bounded, counted.1, c.ranges.quantity.fits))
          (all-weaker (λ (n : ℕ). n ≤ k * 2 ^ 64) (λ (n : ℕ). n ≤ c.in_ok-added.added * 2 ^ 64) c.self.inside.totals.entries more c.self.invariant.1)),
    )

pub returns-clause-ok : goal.returns-clause-ok
returns-clause-ok c = λ a.
    ap (λ (ts : List (AssetId × ℕ)). total_at ts a) (made c)
    ∙ total_at-more c.args.asset.now c.args.quantity c.self.inside.totals.entries a
    ∙ ap (λ (ts : List (AssetId × ℕ)). total_at ts a + quantity_of ((c.args.asset.now, c.args.quantity) ∷ []) a) c.self.view_is

pub returns-clause-sound : goal.returns-clause-sound
returns-clause-sound c = sound c
