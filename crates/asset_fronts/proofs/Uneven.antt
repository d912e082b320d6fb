-- The first uneven asset is the same by the fronts of what is taken.
use Rattle.std.proofs.Common.{◌≡◌, ℕ, ◌+◌, ◌≤◌, ◌==◌, ◌^◌, ◌⊎◌, inl, inr, nat_lt, Bool, true, false, not, cond, ◌||◌, List, [], ◌∷◌, ◌++◌, length, flat_map, refl, ap, sym, subst, ◌∙◌, arith}
use Rattle.std.specs.declared.cmp.Ordering.TheVariants.{Less, Equal, Greater}
use Rattle.std.specs.List.{list_all}
use Rattle.std.specs.Ordering.{is_lt}
use Rattle.std.proofs.lemmas.Bool.{and_parts, cases_Bool, eqb-true, ltb-true}
use Rattle.std.proofs.lemmas.Cmp.{eq_by_cmp_equiv}
use Rattle.gov_ids.specs.declared.assets.AssetId.{AssetId}
use Rattle.gov_ids.specs.Orders.{asset_cmp}
use Rattle.gov_ids.specs.Same.{same_asset}
use Rattle.gov_ids.proofs.Exacts.{asset_exact}
use Rattle.gov_ids.proofs.Totals.{asset_total}
use Rattle.maps.proofs.Ties.{turned}
use Rattle.maps.specs.Maps.{IsMap, has_member}
use Rattle.assets.specs.Balances.{balance_of, first_uneven}
use Rattle.assets.specs.Quantities.{is_held, quantity_of}
use Rattle.assets.proofs.Quantities.{quantity_of-append, quantity_of-cons}
use Rattle.asset_fronts.specs.Fronts.{AreSound, front, fronts}
use Rattle.asset_fronts.proofs.Balances.{AreSame, is_upto, names, names-append, uneven_same, upto_itself}
use Rattle.asset_fronts.proofs.Fronts.{front_has, front_same, not_named}

same_joined : (b : AssetId) (xs ys zs ws : List (AssetId × ℕ)) → AreSame b xs ys → AreSame b zs ws → AreSame b (xs ++ zs) (ys ++ ws)
same_joined b xs ys zs ws s t = λ q u. (
  names-append xs zs q ∙ (λ i. (s q u).0 i || (t q u).0 i) ∙ sym (names-append ys ws q),
  quantity_of-append xs zs q ∙ (λ i. (s q u).1 i + (t q u).1 i) ∙ sym (quantity_of-append ys ws q),
)

itself : (b : AssetId) (xs ys : List (AssetId × ℕ)) → xs ≡ ys → AreSame b xs ys
itself b xs ys e = λ q u. (ap (λ (l : List (AssetId × ℕ)). names l q) e, ap (λ (l : List (AssetId × ℕ)). quantity_of l q) e)

-- what comes no later than the earlier of two comes no later than the later one
upto_later : (c b q : AssetId) → asset_cmp c b ≡ Less → is_upto c q ≡ true → is_upto b q ≡ true
upto_later c b q less u =
    elim (asset_cmp b q) as (λ r. asset_cmp b q ≡ r → not (is_lt r) ≡ true) [
      | Less ↦ λ r. let early : is_upto c q ≡ false = ap (λ r. not (is_lt r)) (asset_total.trans c b q less r) in cc
      | Equal ↦ λ r. refl
      | Greater ↦ λ r. refl
    ] refl

same_earlier : (c b : AssetId) (xs ys : List (AssetId × ℕ)) → asset_cmp c b ≡ Less → AreSame b xs ys → AreSame c xs ys
same_earlier c b xs ys less s = λ q u. s q (upto_later c b q less u)

pub or_right : (a b : Bool) → b ≡ true → (a || b) ≡ true
or_right true b e = refl
or_right false b e = e

in_front : (xs ys : List (AssetId × ℕ)) (b : AssetId) → names xs b ≡ true → names (xs ++ ys) b ≡ true
in_front xs ys b n = names-append xs ys b ∙ ap (λ t. t || names ys b) n

in_rest : (xs ys : List (AssetId × ℕ)) (b : AssetId) → names ys b ≡ true → names (xs ++ ys) b ≡ true
in_rest xs ys b n = names-append xs ys b ∙ or_right (names xs b) (names ys b) n

-- an entry that an output holds has at least 1
pub held_some : (es : List (AssetId × ℕ)) (b : AssetId) → list_all (λ (e : AssetId × ℕ). is_held e.1) es ≡ true → names es b ≡ true → 1 ≤ quantity_of es b
held_some [] b h n = cc
held_some (e ∷ es) b h n =
    let parts = and_parts (is_held e.1) (list_all (λ (e : AssetId × ℕ). is_held e.1) es) h in
    elim (same_asset b e.0) as (λ s. same_asset b e.0 ≡ s → (s || names es b) ≡ true → 1 ≤ quantity_of (e ∷ es) b) [
      | true ↦ λ s n.
          let here : cond (same_asset e.0 b) e.1 0 ≡ e.1 = ap (λ t. cond t e.1 0) ((eq_by_cmp_equiv asset_total).symm e.0 b ∙ s) in
          omega (arith, quantity_of-cons e es b, here, ltb-true 0 e.1 (and_parts (nat_lt 0 e.1) (nat_lt e.1 (2 ^ 64)) parts.0).0)
      | false ↦ λ s n. omega (arith, quantity_of-cons e es b, held_some es b parts.1 n)
    ] refl n

-- some is taken and none given
pub uneven : (m n : ℕ) → 1 ≤ m → n ≡ 0 → (m == n) ≡ false
uneven m n h e = elim (cases_Bool (m == n)) [ inl t ↦ absurd (omega (arith, h, e, eqb-true m n t)) | inr f ↦ f ]

module _ {R : Type 0} (f : R → List (AssetId × ℕ)) where
  some_held : (b : AssetId) (refs : List R) → AreSound f refs → names (flat_map f refs) b ≡ true → 1 ≤ quantity_of (flat_map f refs) b
  some_held b [] s h = cc
  some_held b (r ∷ refs) s h =
      elim (names (f r) b) as (λ t. names (f r) b ≡ t → (t || names (flat_map f refs) b) ≡ true → 1 ≤ quantity_of (f r ++ flat_map f refs) b) [
        | true ↦ λ t h. omega (arith, quantity_of-append (f r) (flat_map f refs) b, held_some (f r) b s.0.1 t)
        | false ↦ λ t h. omega (arith, quantity_of-append (f r) (flat_map f refs) b, some_held b refs s.1 h)
      ] refl (sym (names-append (f r) (flat_map f refs) b) ∙ h)

  module _ (n : ℕ) (ns : List AssetId) (few : length ns ≤ n) where
    abbrev HasCut : List (AssetId × ℕ) → List (AssetId × ℕ) → Type 0
    HasCut xs ys = (b : AssetId) × (names xs b ≡ true) × (has_member asset_cmp ns b ≡ false) × AreSame b xs ys

    one : (r : R) → IsMap asset_cmp (f r) → (front n (f r) ≡ f r) ⊎ HasCut (front n (f r)) (f r)
    one r h = elim (front_has n ns (f r) few h) [ inl e ↦ inl e | inr (b, named, out) ↦ inr (b, named, out, front_same (n + 1) (f r) b h named) ]

    both : (xs ys zs ws : List (AssetId × ℕ)) → HasCut xs ys → HasCut zs ws → HasCut (xs ++ zs) (ys ++ ws)
    both xs ys zs ws (b, named, out, same) (c, known, apart, equal) =
        elim (asset_cmp b c) as (λ r. asset_cmp b c ≡ r → HasCut (xs ++ zs) (ys ++ ws)) [
          | Less ↦ λ r. (b, in_front xs zs b named, out, same_joined b xs ys zs ws same (same_earlier b c zs ws r equal))
          | Equal ↦ λ r. (b, in_front xs zs b named, out, same_joined b xs ys zs ws same (subst (λ (a : AssetId). AreSame a zs ws) (sym (asset_exact b c r)) equal))
          | Greater ↦ λ r. (c, in_rest xs zs c known, apart, same_joined c xs ys zs ws (same_earlier c b xs ys (turned asset_total b c Greater r) same) equal)
        ] refl

    -- the fronts are all, or have an asset that is not named, up to which they are all
    cut : (refs : List R) → AreSound f refs → (fronts f n refs ≡ flat_map f refs) ⊎ HasCut (fronts f n refs) (flat_map f refs)
    cut [] s = inl refl
    cut (r ∷ refs) s =
        elim (one r s.0.0) [
          | inl e ↦
              elim (cut refs s.1) [
                | inl all ↦ inl (λ i. e i ++ all i)
                | inr (b, named, out, same) ↦ inr (b, in_rest (front n (f r)) (fronts f n refs) b named, out, same_joined b (front n (f r)) (f r) (fronts f n refs) (flat_map f refs) (itself b (front n (f r)) (f r) e) same)
              ]
          | inr (b, named, out, same) ↦
              elim (cut refs s.1) [
                | inl all ↦ inr (b, in_front (front n (f r)) (fronts f n refs) b named, out, same_joined b (front n (f r)) (f r) (fronts f n refs) (flat_map f refs) same (itself b (fronts f n refs) (flat_map f refs) all))
                | inr rest ↦ inr (both (front n (f r)) (f r) (fronts f n refs) (flat_map f refs) (b, named, out, same) rest)
              ]
        ]

    -- with what is minted besides, and given, where that names no more than some
    pub uneven_by_fronts : (minted given : List (AssetId × ℕ)) → ((q : AssetId) → has_member asset_cmp ns q ≡ false → names given q ≡ false) → (refs : List R) → AreSound f refs
        → first_uneven (balance_of (fronts f n refs ++ minted) given) ≡ first_uneven (balance_of (flat_map f refs ++ minted) given)
    uneven_by_fronts minted given known refs s =
        elim (cut refs s) [
          | inl all ↦ ap (λ (l : List (AssetId × ℕ)). first_uneven (balance_of (l ++ minted) given)) all
          | inr (b, named, out, same) ↦
              let here = same b (upto_itself b) in
              let some : 1 ≤ quantity_of (fronts f n refs ++ minted) b = omega (arith, quantity_of-append (fronts f n refs) minted b, here.1, some_held b refs s (sym here.0 ∙ named)) in
              uneven_same b (fronts f n refs ++ minted) (flat_map f refs ++ minted) given (same_joined b (fronts f n refs) (flat_map f refs) minted minted same (itself b minted minted refl))
              (in_front (fronts f n refs ++ minted) given b (in_front (fronts f n refs) minted b named))
              (uneven (quantity_of (fronts f n refs ++ minted) b) (quantity_of given b) some (not_named given b (known b out)))
        ]
