use Rattle.std.proofs.Common.{◌<◌, ◌+◌, ℕ, List, unwrap_or, ap, subst, sym, ◌∙◌, arith}
use Rattle.std.specs.List.{AllByRecursion}
use Rattle.gov_ids.specs.declared.assets.AssetId.{AssetId}
use Rattle.gov_ids.specs.Orders.{asset_cmp}
use Rattle.gov_ids.proofs.Totals.{asset_total}
use Rattle.gov_ids.proofs.proofs_of_maps.Kept.{IsMap-with_value}
use Rattle.gov_ids.specs.of_maps.Maps.{IsMap, value_at, with_value}
use Rattle.assets.proofs.Balanced.{IsWithin, balance_raised, sums_within}
use Rattle.assets.proofs.Values.{all-weaker, all-with_value, given_is}
use Rattle.assets.proofs.balance.AssetBalance.raise.Goals as goal

pub overflow_add-sums : goal.overflow_add-sums
overflow_add-sums c =
    let k = c.self.inside.added in
    let counted = given_is c.checked_add.result (k + 1 < 18446744073709551616) (k + 1) c.in_ok-added.added c.checked_add.ensures c.in_ok-added.ensures.ok_part in
    let within = sums_within k c.args.asset.now c.self.inside.sums.entries c.args.self.now c.sums_of-sums.result c.self.invariant.1 c.self.view_is c.sums_of-sums.ensures in
    omega (arith, counted.0, within.0, c.from.ensures, c.ranges.taken.fits)

pub overflow_add-sums-2 : goal.overflow_add-sums-2
overflow_add-sums-2 c =
    let k = c.self.inside.added in
    let counted = given_is c.checked_add.result (k + 1 < 18446744073709551616) (k + 1) c.in_ok-added.added c.checked_add.ensures c.in_ok-added.ensures.ok_part in
    let within = sums_within k c.args.asset.now c.self.inside.sums.entries c.args.self.now c.sums_of-sums.result c.self.invariant.1 c.self.view_is c.sums_of-sums.ensures in
    omega (arith, counted.0, within.1, c.from-2.ensures, c.ranges.given.fits)

pub invariant_of-self : goal.invariant_of-self
invariant_of-self c =
    subst (λ (es : List (AssetId × (ℕ × ℕ))). IsMap asset_cmp es × AllByRecursion (λ (e : AssetId × (ℕ × ℕ)). IsWithin c.self.inside.added e.1) es) (sym c.in_err-insert.ensures.err) c.self.invariant

pub invariant_of-self-2 : goal.invariant_of-self-2
invariant_of-self-2 c =
    let k = c.self.inside.added in
    let a = c.args.asset.now in
    let es = c.self.inside.sums.entries in
    let new : ℕ × ℕ = (c.sums_of-sums.result.0 + c.from.result, c.sums_of-sums.result.1 + c.from-2.result) in
    let counted = given_is c.checked_add.result (k + 1 < 18446744073709551616) (k + 1) c.in_ok-added.added c.checked_add.ensures c.in_ok-added.ensures.ok_part in
    let within = sums_within k a es c.args.self.now c.sums_of-sums.result c.self.invariant.1 c.self.view_is c.sums_of-sums.ensures in
    let more : (s : ℕ × ℕ) → IsWithin k s → IsWithin c.in_ok-added.added s = λ s h. (omega (arith, h.0, counted.1), omega (arith, h.1, counted.1)) in
    let here : IsWithin c.in_ok-added.added new =
    (omega (arith, counted.1, within.0, c.from.ensures, c.ranges.taken.fits), omega (arith, counted.1, within.1, c.from-2.ensures, c.ranges.given.fits)) in
    subst (λ (es : List (AssetId × (ℕ × ℕ))). IsMap asset_cmp es × AllByRecursion (λ (e : AssetId × (ℕ × ℕ)). IsWithin c.in_ok-added.added e.1) es) (sym c.in_ok-insert.ensures.entries)
    (IsMap-with_value asset_total a new es c.self.invariant.0, all-with_value asset_cmp (IsWithin c.in_ok-added.added) a new es here (all-weaker (IsWithin k) (IsWithin c.in_ok-added.added) es more c.self.invariant.1))

pub returns : goal.returns
returns c = λ ts gs e.
    let a = c.args.asset.now in
    let sums = c.sums_of-sums.result in
    c.in_ok-insert.ensures.entries
    ∙ (λ i. with_value asset_cmp a (sums.0 + c.from.ensures i, sums.1 + c.from-2.ensures i) (c.self.view_is i))
    ∙ ap (λ (es : List (AssetId × (ℕ × ℕ))). with_value asset_cmp a (sums.0 + c.args.taken, sums.1 + c.args.given) es) e
    ∙ balance_raised a c.args.taken c.args.given ts gs sums (c.sums_of-sums.ensures ∙ ap (λ (es : List (AssetId × (ℕ × ℕ))). unwrap_or (value_at asset_cmp es a) (0, 0)) e)
