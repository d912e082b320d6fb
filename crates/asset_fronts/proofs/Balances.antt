-- Two balances that agree up to an uneven asset have the same first uneven one.
use Rattle.std.proofs.Common.{◌≡◌, ℕ, ◌+◌, ◌==◌, Bool, true, false, not, cond, ◌||◌, List, [], ◌∷◌, ◌++◌, Option, Some, None, map, find, refl, ap, sym, subst, ◌∙◌}
use Rattle.std.specs.declared.cmp.Ordering.TheVariants.{Less, Equal, Greater}
use Rattle.std.specs.List.{enumerate_from}
use Rattle.std.specs.List.Sorted.{IsStrictlySortedBy}
use Rattle.std.specs.Map.{keys_of}
use Rattle.std.specs.Ordering.{is_eq, is_lt}
use Rattle.std.proofs.lemmas.Cmp.{tied_itself}
use Rattle.std.proofs.lemmas.Map.Entries.{option_filter}
use Rattle.gov_ids.specs.declared.assets.AssetId.{AssetId}
use Rattle.gov_ids.specs.Orders.{asset_cmp}
use Rattle.gov_ids.specs.Same.{same_asset}
use Rattle.gov_ids.proofs.Exacts.{asset_exact}
use Rattle.gov_ids.proofs.Totals.{asset_total}
use Rattle.maps.proofs.Joined.{or_assoc}
use Rattle.maps.proofs.Kept.{IsMap-entries_where, keys_of-each}
use Rattle.maps.proofs.Lookups.{none_below, value_at-entries_where}
use Rattle.maps.proofs.Same.{map_from_value_at}
use Rattle.maps.proofs.Sets.{IsSet-in_order, has_member-in_order}
use Rattle.maps.proofs.Ties.{all_above, same_key}
use Rattle.maps.specs.Maps.{IsMap, IsSet, value_at, has_member, entries_where}
use Rattle.assets.specs.Balances.{balance_of, first_uneven, is_even}
use Rattle.assets.specs.Quantities.{named_in, quantity_of}

-- whether a list names an asset
abbrev pub names : List (AssetId × ℕ) → AssetId → Bool
names es q = has_member asset_cmp (keys_of es) q

pub names-append : (xs ys : List (AssetId × ℕ)) (q : AssetId) → names (xs ++ ys) q ≡ (names xs q || names ys q)
names-append [] ys q = refl
names-append (x ∷ xs) ys q = ap (λ b. same_asset q x.0 || b) (names-append xs ys q) ∙ or_assoc (same_asset q x.0) (names xs q) (names ys q)

value_at-made : {X : Type 0} (f : AssetId → X) (ks : List AssetId) (q : AssetId) → value_at asset_cmp (map (λ a. (a, f a)) ks) q ≡ cond (has_member asset_cmp ks q) (Some (f q)) None
value_at-made f [] q = refl
value_at-made {X} f (k ∷ ks) q =
    elim (same_asset q k) as (λ b. same_asset q k ≡ b → cond b (Some (f k)) (value_at asset_cmp (map (λ a. (a, f a)) ks) q) ≡ cond (b || has_member asset_cmp ks q) (Some (f q)) None) [
      | true ↦ λ t. ap (λ (a : AssetId). Some (f a)) (sym (same_key asset_exact q k t))
      | false ↦ λ t. value_at-made f ks q
    ] refl

pub IsMap-balance_of : (ts gs : List (AssetId × ℕ)) → IsMap asset_cmp (balance_of ts gs)
IsMap-balance_of ts gs =
    subst (λ (ks : List AssetId). IsSet asset_cmp ks) (sym (keys_of-each {X = ℕ × ℕ} (λ (a : AssetId). (quantity_of ts a, quantity_of gs a)) (named_in (ts ++ gs)))) (IsSet-in_order asset_total (keys_of (ts ++ gs)))

pub value_at-balance_of : (ts gs : List (AssetId × ℕ)) (q : AssetId) → value_at asset_cmp (balance_of ts gs) q ≡ cond (names (ts ++ gs) q) (Some (quantity_of ts q, quantity_of gs q)) None
value_at-balance_of ts gs q =
    value_at-made (λ a. (quantity_of ts a, quantity_of gs a)) (named_in (ts ++ gs)) q
    ∙ ap (λ b. cond b (Some (quantity_of ts q, quantity_of gs q)) None) (has_member-in_order asset_total (keys_of (ts ++ gs)) q)

-- whether q comes no later than b
abbrev pub is_upto : AssetId → AssetId → Bool
is_upto b q = not (is_lt (asset_cmp b q))

pub upto_itself : (b : AssetId) → is_upto b b ≡ true
upto_itself b = ap (λ r. not (is_lt r)) (tied_itself asset_total b)

-- the entries up to b
abbrev low : AssetId → List (AssetId × (ℕ × ℕ)) → List (AssetId × (ℕ × ℕ))
low b m = entries_where (λ q v. is_upto b q) m

abbrev is_uneven : ℕ × (AssetId × (ℕ × ℕ)) → Bool
is_uneven p = not (is_even p.1)

chosen : {X : Type 0} (b : Bool) (x y z : X) → b ≡ true → cond b x y ≡ cond b x z
chosen true x y z e = refl
chosen false x y z e = cc

-- the first uneven entry stands among those up to an uneven one
found_low : (b : AssetId) (v : ℕ × ℕ) (m : List (AssetId × (ℕ × ℕ))) (i : ℕ) → IsMap asset_cmp m → value_at asset_cmp m b ≡ Some v → (v.0 == v.1) ≡ false
    → find is_uneven (enumerate_from i m) ≡ find is_uneven (enumerate_from i (low b m))
unfolding IsStrictlySortedBy
found_low b v [] i h p u = cc
found_low b v (e ∷ m) i h p u =
    elim (asset_cmp b e.0) as (λ r. asset_cmp b e.0 ≡ r → cond (is_eq r) (Some e.1) (value_at asset_cmp m b) ≡ Some v
    → cond (not (is_even e)) (Some (i, e)) (find is_uneven (enumerate_from (i + 1) m)) ≡ find is_uneven (enumerate_from i (cond (not (is_lt r)) (e ∷ low b m) (low b m)))) [
      | Less ↦ λ r p. let none : value_at asset_cmp m b ≡ None = none_below asset_cmp b m (all_above asset_total b e.0 (keys_of m) r h.0) in cc
      | Equal ↦ λ r p.
          let same : e.1 ≡ v = cc in
          chosen (not (is_even e)) (Some (i, e)) (find is_uneven (enumerate_from (i + 1) m)) (find is_uneven (enumerate_from (i + 1) (low b m))) (ap (λ (w : ℕ × ℕ). not (w.0 == w.1)) same ∙ ap not u)
      | Greater ↦ λ r p. ap (λ x. cond (not (is_even e)) (Some (i, e)) x) (found_low b v m (i + 1) h.1 p u)
    ] refl p

filtered : {X : Type 0} (t : Bool) (x y : Option X) → (t ≡ true → x ≡ y) → option_filter (λ v. t) x ≡ option_filter (λ v. t) y
filtered {X} true x y h = ap (λ (o : Option X). option_filter (λ v. true) o) (h refl)
filtered {X} false x y h =
    let none : (o : Option X) → option_filter (λ v. false) o ≡ None = λ o. elim o as (λ o. option_filter (λ v. false) o ≡ None) [ None ↦ refl | Some v ↦ refl ] in
    none x ∙ sym (none y)

-- two lists name the same assets up to b, and have as much of each
abbrev pub AreSame : AssetId → List (AssetId × ℕ) → List (AssetId × ℕ) → Type 0
AreSame b xs ys = (q : AssetId) → is_upto b q ≡ true → (names xs q ≡ names ys q) × (quantity_of xs q ≡ quantity_of ys q)

module _ (b : AssetId) (xs ys gs : List (AssetId × ℕ)) (same : AreSame b xs ys) where
  all_names : (q : AssetId) → is_upto b q ≡ true → names (xs ++ gs) q ≡ names (ys ++ gs) q
  all_names q t = names-append xs gs q ∙ ap (λ n. n || names gs q) (same q t).0 ∙ sym (names-append ys gs q)

  values_same : (q : AssetId) → is_upto b q ≡ true → value_at asset_cmp (balance_of xs gs) q ≡ value_at asset_cmp (balance_of ys gs) q
  values_same q t =
      value_at-balance_of xs gs q
      ∙ (λ i. cond (all_names q t i) (Some ((same q t).1 i, quantity_of gs q)) None)
      ∙ sym (value_at-balance_of ys gs q)

  low_same : low b (balance_of xs gs) ≡ low b (balance_of ys gs)
  low_same =
      map_from_value_at asset_total asset_exact _ _
      (IsMap-entries_where asset_cmp (λ q v. is_upto b q) (balance_of xs gs) (IsMap-balance_of xs gs))
      (IsMap-entries_where asset_cmp (λ q v. is_upto b q) (balance_of ys gs) (IsMap-balance_of ys gs))
      (λ q.
      value_at-entries_where asset_total asset_exact (λ q v. is_upto b q) (balance_of xs gs) q (IsMap-balance_of xs gs)
      ∙ filtered (is_upto b q) (value_at asset_cmp (balance_of xs gs) q) (value_at asset_cmp (balance_of ys gs) q) (values_same q)
      ∙ sym (value_at-entries_where asset_total asset_exact (λ q v. is_upto b q) (balance_of ys gs) q (IsMap-balance_of ys gs)))

  pub uneven_same : names (xs ++ gs) b ≡ true → (quantity_of xs b == quantity_of gs b) ≡ false → first_uneven (balance_of xs gs) ≡ first_uneven (balance_of ys gs)
  uneven_same n u =
      let here : value_at asset_cmp (balance_of xs gs) b ≡ Some (quantity_of xs b, quantity_of gs b) =
      value_at-balance_of xs gs b ∙ ap (λ t. cond t (Some (quantity_of xs b, quantity_of gs b)) None) n in
      let there : value_at asset_cmp (balance_of ys gs) b ≡ Some (quantity_of xs b, quantity_of gs b) = sym (values_same b (upto_itself b)) ∙ here in
      found_low b (quantity_of xs b, quantity_of gs b) (balance_of xs gs) 0 (IsMap-balance_of xs gs) here u
      ∙ ap (λ (m : List (AssetId × (ℕ × ℕ))). find is_uneven (enumerate_from 0 m)) low_same
      ∙ sym (found_low b (quantity_of xs b, quantity_of gs b) (balance_of ys gs) 0 (IsMap-balance_of ys gs) there u)
