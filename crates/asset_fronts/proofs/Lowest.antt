-- The lowest asset of some entries, with one entry more, and as the first that is not balanced.
use Rattle.std.proofs.Common.{◌≡◌, ℕ, ◌+◌, ◌==◌, Bool, true, false, not, cond, ◌||◌, List, [], ◌∷◌, ◌++◌, Option, Some, None, map, find, option_map, slice_get, unwrap_or, append-nil, refl, ap, sym, ◌∙◌, arith, zero, suc, take, flat_map}
use Rattle.std.specs.declared.cmp.Ordering.TheVariants.{Less, Equal, Greater}
use Rattle.std.specs.List.{enumerate_from, list_all}
use Rattle.std.specs.List.Sorted.{IsStrictlySortedBy}
use Rattle.std.specs.Map.{keys_of}
use Rattle.std.specs.Ordering.{is_eq, match_ordering}
use Rattle.std.proofs.lemmas.Bool.{and_from, and_parts}
use Rattle.std.proofs.lemmas.Cmp.{eq_by_cmp_equiv}
use Rattle.gov_ids.specs.declared.assets.AssetId.{AssetId}
use Rattle.gov_ids.specs.Orders.{asset_cmp}
use Rattle.gov_ids.specs.Same.{same_asset}
use Rattle.gov_ids.proofs.Exacts.{asset_exact}
use Rattle.gov_ids.proofs.Totals.{asset_total}
use Rattle.maps.proofs.Kept.{IsMap-with_value}
use Rattle.maps.proofs.Lookups.{none_below, value_at-with_value}
use Rattle.maps.proofs.Same.{map_from_value_at}
use Rattle.maps.proofs.Sets.{has_member-in_order}
use Rattle.maps.proofs.Ties.{all_above, same_key}
use Rattle.maps.specs.Maps.{IsMap, value_at, with_value, has_member}
use Rattle.assets.specs.Balances.{balance_of, first_uneven, is_even}
use Rattle.assets.specs.Quantities.{is_held, named_in, quantity_of}
use Rattle.assets.proofs.Quantities.{quantity_of-append, quantity_of-one}
use Rattle.asset_fronts.specs.Fronts.{AreSound, front, fronts, lowest_in, lowest_of}
use Rattle.asset_fronts.proofs.Balances.{IsMap-balance_of, names, names-append, value_at-balance_of}
use Rattle.asset_fronts.proofs.Fronts.{not_named, or_none}
use Rattle.asset_fronts.proofs.Uneven.{held_some, or_right, uneven, uneven_by_fronts}

-- with n more of an asset
abbrev pub lowest_after : AssetId → ℕ → Option (AssetId × ℕ) → Option (AssetId × ℕ)
lowest_after a n None = Some (a, n)
lowest_after a n (Some l) = match_ordering (asset_cmp a l.0) (Some (a, n)) (Some (l.0, l.1 + n)) (Some l)

lowest_put : (a : AssetId) (n t : ℕ) (m : List (AssetId × (ℕ × ℕ))) → IsMap asset_cmp m → t ≡ (unwrap_or (value_at asset_cmp m a) (0, 0)).0
    → lowest_in (with_value asset_cmp a (t + n, 0) m) ≡ lowest_after a n (lowest_in m)
unfolding IsStrictlySortedBy
lowest_put a n t [] h is = let none : t + n ≡ n = omega (arith, is) in ap (λ k. Some (a, k)) none
lowest_put a n t (e ∷ m) h is =
    elim (asset_cmp a e.0) as (λ r. asset_cmp a e.0 ≡ r → t ≡ (unwrap_or (cond (is_eq r) (Some e.1) (value_at asset_cmp m a)) (0, 0)).0
    → lowest_in (match_ordering r ((a, (t + n, 0)) ∷ e ∷ m) ((e.0, (t + n, 0)) ∷ m) (e ∷ with_value asset_cmp a (t + n, 0) m)) ≡ match_ordering r (Some (a, n)) (Some (e.0, e.1.0 + n)) (Some (e.0, e.1.0))) [
      | Less ↦ λ r is.
          let absent : value_at asset_cmp m a ≡ None = none_below asset_cmp a m (all_above asset_total a e.0 (keys_of m) r h.0) in
          let zero : t ≡ 0 = is ∙ ap (λ (o : Option (ℕ × ℕ)). (unwrap_or o (0, 0)).0) absent in
          let none : t + n ≡ n = omega (arith, zero) in
          ap (λ k. Some (a, k)) none
      | Equal ↦ λ r is. ap (λ k. Some (e.0, k + n)) is
      | Greater ↦ λ r is. refl
    ] refl is

-- what a balance has of an asset of which nothing is given, if it is named
abbrev value_if : Bool → ℕ → Option (ℕ × ℕ)
value_if t k = cond t (Some (k, 0)) None

abbrev taken_in : Option (ℕ × ℕ) → ℕ
taken_in o = (unwrap_or {T = ℕ × ℕ} o (0, 0)).0

taken_at : (taken : List (AssetId × ℕ)) (a : AssetId) → quantity_of taken a ≡ taken_in (value_at asset_cmp (balance_of taken []) a)
taken_at taken a =
    let whole : names (taken ++ []) a ≡ names taken a = ap (λ (l : List (AssetId × ℕ)). names l a) (append-nil taken) in
    elim (names taken a) as (λ t. names taken a ≡ t → quantity_of taken a ≡ taken_in (value_if t (quantity_of taken a))) [
      | true ↦ λ t. refl
      | false ↦ λ t. not_named taken a t
    ] refl
    ∙ ap taken_in (ap (λ t. value_if t (quantity_of taken a)) (sym whole) ∙ sym (value_at-balance_of taken [] a))

module _ (taken : List (AssetId × ℕ)) (a : AssetId) (n : ℕ) where
  more_names : (q : AssetId) → names ((taken ++ (a, n) ∷ []) ++ []) q ≡ (names taken q || (same_asset q a || false))
  more_names q = ap (λ (l : List (AssetId × ℕ)). names l q) (append-nil (taken ++ (a, n) ∷ [])) ∙ names-append taken ((a, n) ∷ []) q

  more_at : (q : AssetId) → quantity_of (taken ++ (a, n) ∷ []) q ≡ quantity_of taken q + cond (same_asset a q) n 0
  more_at q = omega (arith, quantity_of-append taken ((a, n) ∷ []) q, quantity_of-one (a, n) q)

  abbrev put : ℕ × ℕ
  put = (quantity_of taken a + n, 0)

  more_same : (q : AssetId) → value_at asset_cmp (with_value asset_cmp a put (balance_of taken [])) q ≡ value_at asset_cmp (balance_of (taken ++ (a, n) ∷ []) []) q
  more_same q =
      let turn : same_asset q a ≡ same_asset a q = (eq_by_cmp_equiv asset_total).symm q a in
      let old : value_at asset_cmp (balance_of taken []) q ≡ value_if (names taken q) (quantity_of taken q) =
      value_at-balance_of taken [] q ∙ ap (λ (l : List (AssetId × ℕ)). value_if (names l q) (quantity_of taken q)) (append-nil taken) in
      let new : value_at asset_cmp (balance_of (taken ++ (a, n) ∷ []) []) q ≡ value_if (names taken q || (same_asset a q || false)) (quantity_of taken q + cond (same_asset a q) n 0) =
      value_at-balance_of (taken ++ (a, n) ∷ []) [] q ∙ (λ i. value_if (more_names q i) (more_at q i)) ∙ ap (λ t. value_if (names taken q || (t || false)) (quantity_of taken q + cond (same_asset a q) n 0)) turn in
      value_at-with_value asset_total a put (balance_of taken []) q
      ∙ ap (λ (o : Option (ℕ × ℕ)). cond (same_asset a q) (Some put) o) old
      ∙ elim (same_asset a q) as (λ t. same_asset a q ≡ t → cond t (Some put) (value_if (names taken q) (quantity_of taken q)) ≡ value_if (names taken q || (t || false)) (quantity_of taken q + cond t n 0)) [
        | true ↦ λ t.
            let is : a ≡ q = same_key asset_exact a q t in
            let here : quantity_of taken a + n ≡ quantity_of taken q + n = ap (λ (x : AssetId). quantity_of taken x + n) is in
            ap (λ k. value_if true k) here ∙ ap (λ b. value_if b (quantity_of taken q + n)) (sym (or_right (names taken q) true refl))
        | false ↦ λ t.
            let none : quantity_of taken q ≡ quantity_of taken q + 0 = omega arith in
            ap (λ k. value_if (names taken q) k) none ∙ ap (λ b. value_if b (quantity_of taken q + 0)) (sym (or_none (names taken q) false refl))
      ] refl
      ∙ sym new

  -- one entry more
  pub lowest_more : lowest_after a n (lowest_of taken) ≡ lowest_of (taken ++ (a, n) ∷ [])
  lowest_more =
      sym (lowest_put a n (quantity_of taken a) (balance_of taken []) (IsMap-balance_of taken []) (taken_at taken a))
      ∙ ap (λ (m : List (AssetId × (ℕ × ℕ))). lowest_in m) (map_from_value_at asset_total asset_exact _ _ (IsMap-with_value asset_total a put (balance_of taken []) (IsMap-balance_of taken [])) (IsMap-balance_of (taken ++ (a, n) ∷ []) []) more_same)

first_front : (es : List (AssetId × ℕ)) (x : AssetId × ℕ) → Some x ≡ slice_get es 0 → front 0 es ≡ x ∷ []
first_front [] x e = cc
first_front (y ∷ es) x e = let same : y ≡ x = cc in ap (λ (z : AssetId × ℕ). z ∷ []) same

-- with the first entry of one list more
pub lowest_step : (taken es : List (AssetId × ℕ)) (x : AssetId × ℕ) (o : Option (AssetId × ℕ)) → Some x ≡ slice_get es 0 → o ≡ lowest_of taken → lowest_after x.0 x.1 o ≡ lowest_of (taken ++ front 0 es)
lowest_step taken es x o first is =
    ap (lowest_after x.0 x.1) is ∙ lowest_more taken x.0 x.1 ∙ ap (λ (l : List (AssetId × ℕ)). lowest_of (taken ++ l)) (sym (first_front es x first))

-- it is the first that is not balanced where nothing is given
pub lowest_uneven : (taken : List (AssetId × ℕ)) → list_all (λ (e : AssetId × ℕ). is_held e.1) taken ≡ true → first_uneven (balance_of taken []) ≡ option_map (λ (l : AssetId × ℕ). (0, (l.0, (l.1, 0)))) (lowest_of taken)
lowest_uneven taken held =
    let sums : AssetId → AssetId × (ℕ × ℕ) = λ a. (a, (quantity_of taken a, 0)) in
    let is_uneven : ℕ × (AssetId × (ℕ × ℕ)) → Bool = λ p. not (is_even p.1) in
    elim (named_in (taken ++ [])) as (λ ks. named_in (taken ++ []) ≡ ks → find is_uneven (enumerate_from 0 (map sums ks)) ≡ option_map (λ (l : AssetId × ℕ). (0, (l.0, (l.1, 0)))) (lowest_in (map sums ks))) [
      | [] ↦ λ e. refl
      | a ∷ ks ↦ λ e.
          let first : has_member asset_cmp (named_in (taken ++ [])) a ≡ true = ap (λ (l : List AssetId). has_member asset_cmp l a) e ∙ ap (λ t. t || has_member asset_cmp ks a) ((eq_by_cmp_equiv asset_total).refl a) in
          let named : names taken a ≡ true = ap (λ (l : List (AssetId × ℕ)). names l a) (sym (append-nil taken)) ∙ sym (has_member-in_order asset_total (keys_of (taken ++ [])) a) ∙ first in
          let some : (quantity_of taken a == 0) ≡ false = uneven (quantity_of taken a) 0 (held_some taken a held named) refl in
          ap (λ t. cond (not t) (Some (0, sums a)) (find is_uneven (enumerate_from 1 (map sums ks)))) some
    ] refl

-- what fronts have is what lists of an output have
held_take : (m : ℕ) (es : List (AssetId × ℕ)) → list_all (λ (e : AssetId × ℕ). is_held e.1) es ≡ true → list_all (λ (e : AssetId × ℕ). is_held e.1) (take m es) ≡ true
held_take zero es h = refl
held_take (suc m) [] h = refl
held_take (suc m) (e ∷ es) h =
    let parts = and_parts (is_held e.1) (list_all (λ (e : AssetId × ℕ). is_held e.1) es) h in
    and_from (is_held e.1) (list_all (λ (e : AssetId × ℕ). is_held e.1) (take m es)) parts.0 (held_take m es parts.1)

held_append : (xs ys : List (AssetId × ℕ)) → list_all (λ (e : AssetId × ℕ). is_held e.1) xs ≡ true → list_all (λ (e : AssetId × ℕ). is_held e.1) ys ≡ true → list_all (λ (e : AssetId × ℕ). is_held e.1) (xs ++ ys) ≡ true
held_append [] ys h g = g
held_append (x ∷ xs) ys h g =
    let parts = and_parts (is_held x.1) (list_all (λ (e : AssetId × ℕ). is_held e.1) xs) h in
    and_from (is_held x.1) (list_all (λ (e : AssetId × ℕ). is_held e.1) (xs ++ ys)) parts.0 (held_append xs ys parts.1 g)

module _ {R : Type 0} (f : R → List (AssetId × ℕ)) where
  held_fronts : (refs : List R) → AreSound f refs → list_all (λ (e : AssetId × ℕ). is_held e.1) (fronts f 0 refs) ≡ true
  held_fronts [] s = refl
  held_fronts (r ∷ refs) s = held_append (front 0 (f r)) (fronts f 0 refs) (held_take 1 (f r) s.0.1) (held_fronts refs s.1)

  -- where nothing is minted and given, the lowest asset of all is the first that is not balanced
  pub lowest_first : (refs : List R) → AreSound f refs → first_uneven (balance_of (flat_map f refs) []) ≡ option_map (λ (l : AssetId × ℕ). (0, (l.0, (l.1, 0)))) (lowest_of (fronts f 0 refs))
  lowest_first refs s =
      ap (λ (l : List (AssetId × ℕ)). first_uneven (balance_of l [])) (sym (append-nil (flat_map f refs)))
      ∙ sym (uneven_by_fronts f 0 [] (omega arith) [] [] (λ q h. refl) refs s)
      ∙ ap (λ (l : List (AssetId × ℕ)). first_uneven (balance_of l [])) (append-nil (fronts f 0 refs))
      ∙ lowest_uneven (fronts f 0 refs) (held_fronts refs s)
