-- Totals of assets after some of one is added or taken away.
use Rattle.std.proofs.Common.{◌≡◌, ℕ, ◌+◌, ◌-◌, ◌≤◌, inl, inr, true, false, cond, List, [], ◌∷◌, Option, Some, None, unwrap_or, refl, ap, ◌∙◌, arith}
use Rattle.std.specs.List.{AllByRecursion}
use Rattle.std.proofs.lemmas.Bool.{cases_Bool}
use Rattle.gov_ids.specs.declared.assets.AssetId.{AssetId}
use Rattle.gov_ids.specs.Orders.{asset_cmp}
use Rattle.gov_ids.specs.Same.{same_asset}
use Rattle.gov_ids.proofs.Exacts.{asset_exact}
use Rattle.gov_ids.proofs.Totals.{asset_total}
use Rattle.gov_ids.proofs.proofs_of_maps.Kept.{IsMap-with_value, IsMap-without_key}
use Rattle.gov_ids.proofs.proofs_of_maps.Lookups.{value_at-with_value, value_at-without_key}
use Rattle.gov_ids.proofs.proofs_of_maps.Placed.{value_at_tied}
use Rattle.gov_ids.proofs.proofs_of_maps.Same.{map_from_value_at}
use Rattle.gov_ids.specs.of_maps.Maps.{IsMap, value_at, with_value, without_key}
use Rattle.assets.specs.Quantities.{quantity_of}
use Rattle.assets.specs.Totals.{AreTotals, total_at}
use Rattle.assets.proofs.Quantities.{quantity_of-one}
use Rattle.assets.proofs.Values.{all-at, all-at_or, all-with_value, all-without_key}

-- no total is above what none in the map is above
pub total_at-bounded : (k : ℕ) (a : AssetId) (ts : List (AssetId × ℕ)) → AllByRecursion (λ (e : AssetId × ℕ). e.1 ≤ k) ts → total_at ts a ≤ k
total_at-bounded k a ts h = all-at_or asset_cmp (λ (n : ℕ). n ≤ k) a 0 ts h (omega arith)

-- the totals with n of a
pub total_at-with_value : (a : AssetId) (n : ℕ) (ts : List (AssetId × ℕ)) (q : AssetId) → total_at (with_value asset_cmp a n ts) q ≡ cond (same_asset a q) n (total_at ts q)
total_at-with_value a n ts q =
    ap (λ (o : Option ℕ). unwrap_or o 0) (value_at-with_value asset_total a n ts q)
    ∙ elim (same_asset a q) as (λ b. unwrap_or (cond b (Some n) (value_at asset_cmp ts q)) 0 ≡ cond b n (total_at ts q)) [ true ↦ refl | false ↦ refl ]

-- and without a
pub total_at-without_key : (a : AssetId) (ts : List (AssetId × ℕ)) (q : AssetId) → IsMap asset_cmp ts → total_at (without_key asset_cmp a ts) q ≡ cond (same_asset a q) 0 (total_at ts q)
total_at-without_key a ts q h =
    ap (λ (o : Option ℕ). unwrap_or o 0) (value_at-without_key asset_total a ts q h)
    ∙ elim (same_asset a q) as (λ b. unwrap_or (cond b None (value_at asset_cmp ts q)) 0 ≡ cond b 0 (total_at ts q)) [ true ↦ refl | false ↦ refl ]

-- an asset that is the same has the same total
tied_total : (a q : AssetId) (ts : List (AssetId × ℕ)) → same_asset a q ≡ true → total_at ts q ≡ total_at ts a
tied_total a q ts t = ap (λ (o : Option ℕ). unwrap_or o 0) (value_at_tied asset_total a q ts t)

-- with n more of a
pub total_at-more : (a : AssetId) (n : ℕ) (ts : List (AssetId × ℕ)) (q : AssetId) → total_at (with_value asset_cmp a (total_at ts a + n) ts) q ≡ total_at ts q + quantity_of ((a, n) ∷ []) q
total_at-more a n ts q =
    elim (cases_Bool (same_asset a q)) [
      | inl same ↦
          let changed : total_at (with_value asset_cmp a (total_at ts a + n) ts) q ≡ total_at ts a + n = total_at-with_value a (total_at ts a + n) ts q ∙ ap (λ b. cond b (total_at ts a + n) (total_at ts q)) same in
          let added : quantity_of ((a, n) ∷ []) q ≡ n = quantity_of-one (a, n) q ∙ ap (λ b. cond b n 0) same in
          omega (arith, changed, added, tied_total a q ts same)
      | inr other ↦
          let changed : total_at (with_value asset_cmp a (total_at ts a + n) ts) q ≡ total_at ts q = total_at-with_value a (total_at ts a + n) ts q ∙ ap (λ b. cond b (total_at ts a + n) (total_at ts q)) other in
          let added : quantity_of ((a, n) ∷ []) q ≡ 0 = quantity_of-one (a, n) q ∙ ap (λ b. cond b n 0) other in
          omega (arith, changed, added)
    ]

-- with m of a, which is n less
pub total_at-less : (a : AssetId) (n m : ℕ) (ts : List (AssetId × ℕ)) (q : AssetId) → m ≡ total_at ts a - n → total_at (with_value asset_cmp a m ts) q ≡ total_at ts q - quantity_of ((a, n) ∷ []) q
total_at-less a n m ts q e =
    elim (cases_Bool (same_asset a q)) [
      | inl same ↦
          let changed : total_at (with_value asset_cmp a m ts) q ≡ m = total_at-with_value a m ts q ∙ ap (λ b. cond b m (total_at ts q)) same in
          let gone : quantity_of ((a, n) ∷ []) q ≡ n = quantity_of-one (a, n) q ∙ ap (λ b. cond b n 0) same in
          omega (arith, changed, gone, e, tied_total a q ts same)
      | inr other ↦
          let changed : total_at (with_value asset_cmp a m ts) q ≡ total_at ts q = total_at-with_value a m ts q ∙ ap (λ b. cond b m (total_at ts q)) other in
          let gone : quantity_of ((a, n) ∷ []) q ≡ 0 = quantity_of-one (a, n) q ∙ ap (λ b. cond b n 0) other in
          omega (arith, changed, gone)
    ]

-- without a, of which there were n
pub total_at-none : (a : AssetId) (n : ℕ) (ts : List (AssetId × ℕ)) (q : AssetId) → IsMap asset_cmp ts → 0 ≡ total_at ts a - n → total_at (without_key asset_cmp a ts) q ≡ total_at ts q - quantity_of ((a, n) ∷ []) q
total_at-none a n ts q h e =
    elim (cases_Bool (same_asset a q)) [
      | inl same ↦
          let changed : total_at (without_key asset_cmp a ts) q ≡ 0 = total_at-without_key a ts q h ∙ ap (λ b. cond b 0 (total_at ts q)) same in
          let gone : quantity_of ((a, n) ∷ []) q ≡ n = quantity_of-one (a, n) q ∙ ap (λ b. cond b n 0) same in
          omega (arith, changed, gone, e, tied_total a q ts same)
      | inr other ↦
          let changed : total_at (without_key asset_cmp a ts) q ≡ total_at ts q = total_at-without_key a ts q h ∙ ap (λ b. cond b 0 (total_at ts q)) other in
          let gone : quantity_of ((a, n) ∷ []) q ≡ 0 = quantity_of-one (a, n) q ∙ ap (λ b. cond b n 0) other in
          omega (arith, changed, gone)
    ]

pub AreTotals-with_value : (a : AssetId) (n : ℕ) (ts : List (AssetId × ℕ)) → AreTotals ts → 1 ≤ n → AreTotals (with_value asset_cmp a n ts)
AreTotals-with_value a n ts h p = (IsMap-with_value asset_total a n ts h.0, all-with_value asset_cmp (λ (n : ℕ). 1 ≤ n) a n ts p h.1)

pub AreTotals-without_key : (a : AssetId) (ts : List (AssetId × ℕ)) → AreTotals ts → AreTotals (without_key asset_cmp a ts)
AreTotals-without_key a ts h = (IsMap-without_key asset_cmp a ts h.0, all-without_key asset_cmp (λ (n : ℕ). 1 ≤ n) a ts h.1)

-- numbers from 1 on, or none, that are the same with 0 for none
same_amount : (x y : Option ℕ) → ((n : ℕ) → x ≡ Some n → 1 ≤ n) → ((n : ℕ) → y ≡ Some n → 1 ≤ n) → unwrap_or x 0 ≡ unwrap_or y 0 → x ≡ y
same_amount None None p q e = refl
same_amount None (Some n) p q e = let some = q n refl in absurd (omega arith)
same_amount (Some n) None p q e = let some = p n refl in absurd (omega arith)
same_amount (Some n) (Some m) p q e = ap Some e

-- totals that are the same of each asset are the same
pub totals_same : (ts us : List (AssetId × ℕ)) → AreTotals ts → AreTotals us → ((a : AssetId) → total_at ts a ≡ total_at us a) → ts ≡ us
totals_same ts us h g is =
    map_from_value_at asset_total asset_exact ts us h.0 g.0
    (λ a. same_amount _ _ (λ n. all-at asset_cmp (λ (n : ℕ). 1 ≤ n) a n ts h.1) (λ n. all-at asset_cmp (λ (n : ℕ). 1 ≤ n) a n us g.1) (is a))
