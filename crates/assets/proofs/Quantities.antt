-- What lists have of an asset, entry by entry.
use Rattle.std.proofs.Common.{◌≡◌, ℕ, suc, ◌+◌, ◌<◌, ◌≤◌, inl, inr, true, false, cond, List, [], ◌∷◌, ◌++◌, length, take, drop, get_or, filter, sum_by, ap, sym, ◌∙◌, arith, drop-cons}
use Rattle.std.specs.List.{list_all}
use Rattle.std.proofs.lemmas.Bool.{and_parts, cases_Bool, ltb-true}
use Rattle.std.proofs.lemmas.Cmp.{eq_by_cmp_equiv}
use Rattle.std.proofs.lemmas.List.{take_more}
use Rattle.std.proofs.lemmas.List.Folds.{list_all_at}
use Rattle.std.proofs.lemmas.List.Sums.{sum_by-cons}
use Rattle.gov_ids.specs.declared.assets.AssetId.{AssetId}
use Rattle.gov_ids.specs.Same.{same_asset}
use Rattle.gov_ids.proofs.Totals.{asset_total}
use Rattle.assets.specs.Quantities.{is_held, quantity_of}

pub quantity_of-cons : (e : AssetId × ℕ) (es : List (AssetId × ℕ)) (a : AssetId) → quantity_of (e ∷ es) a ≡ cond (same_asset e.0 a) e.1 0 + quantity_of es a
quantity_of-cons e es a =
    elim (same_asset e.0 a) as (λ b. sum_by (λ (x : AssetId × ℕ). x.1) (cond b (e ∷ filter (λ x. same_asset x.0 a) es) (filter (λ x. same_asset x.0 a) es)) ≡ cond b e.1 0 + quantity_of es a) [
      | true ↦ sum_by-cons (λ (x : AssetId × ℕ). x.1) e (filter (λ x. same_asset x.0 a) es)
      | false ↦ omega arith
    ]

pub quantity_of-append : (xs ys : List (AssetId × ℕ)) (a : AssetId) → quantity_of (xs ++ ys) a ≡ quantity_of xs a + quantity_of ys a
quantity_of-append [] ys a = omega arith
quantity_of-append (x ∷ xs) ys a = omega (arith, quantity_of-cons x (xs ++ ys) a, quantity_of-cons x xs a, quantity_of-append xs ys a)

-- of one entry
pub quantity_of-one : (e : AssetId × ℕ) (a : AssetId) → quantity_of (e ∷ []) a ≡ cond (same_asset e.0 a) e.1 0
quantity_of-one e a = omega (arith, quantity_of-cons e [] a)

-- with the entry at a place besides those before it
pub quantity_of-take_more : (es : List (AssetId × ℕ)) (i : ℕ) (d : AssetId × ℕ) (a : AssetId) → i < length es → quantity_of (take (i + 1) es) a ≡ quantity_of (take i es) a + quantity_of (get_or es i d ∷ []) a
quantity_of-take_more es i d a lt = ap (λ (l : List (AssetId × ℕ)). quantity_of l a) (take_more es i d lt) ∙ quantity_of-append (take i es) (get_or es i d ∷ []) a

-- that entry, and those behind it
pub quantity_of-drop_more : (es : List (AssetId × ℕ)) (i : ℕ) (d : AssetId × ℕ) (a : AssetId) → i < length es → quantity_of (drop i es) a ≡ quantity_of (get_or es i d ∷ []) a + quantity_of (drop (i + 1) es) a
quantity_of-drop_more es i d a lt =
    let on : i + 1 ≡ suc i = omega arith in
    let rest = ap (λ n. quantity_of (drop n es) a) on in
    omega (arith, ap (λ (l : List (AssetId × ℕ)). quantity_of l a) (drop-cons es i d lt), quantity_of-cons (get_or es i d) (drop (suc i) es) a, quantity_of-one (get_or es i d) a, rest)

-- there is at least what the entry at a place has
pub quantity_at : (es : List (AssetId × ℕ)) (i : ℕ) (d : AssetId × ℕ) → i < length es → d ≡ get_or es i d → d.1 ≤ quantity_of (drop i es) d.0
quantity_at es i d lt is =
    let here : quantity_of (get_or es i d ∷ []) d.0 ≡ d.1 = ap (λ (e : AssetId × ℕ). quantity_of (e ∷ []) d.0) (sym is) ∙ quantity_of-one d d.0 ∙ ap (λ b. cond b d.1 0) ((eq_by_cmp_equiv asset_total).refl d.0) in
    omega (arith, here, quantity_of-drop_more es i d d.0 lt)

-- each entry of a list that an output may hold has at least 1
pub held_at : (es : List (AssetId × ℕ)) (i : ℕ) (d : AssetId × ℕ) → list_all (λ (e : AssetId × ℕ). is_held e.1) es ≡ true → i < length es → 0 < (get_or es i d).1
held_at es i d h lt =
    elim (cases_Bool (is_held (get_or es i d).1)) [
      | inl held ↦ ltb-true _ _ (and_parts _ _ held).0
      | inr empty ↦ let none = list_all_at (λ (e : AssetId × ℕ). is_held e.1) es i d lt empty in cc
    ]
