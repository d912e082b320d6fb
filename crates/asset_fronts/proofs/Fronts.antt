-- The front of a list is the list, or has an asset that is not named elsewhere.
use Rattle.std.proofs.Common.{◌≡◌, ℕ, zero, suc, ◌+◌, ◌<◌, ◌≤◌, ◌⊎◌, inl, inr, Bool, true, false, not, cond, ◌||◌, List, [], ◌∷◌, ◌++◌, length, take, drop, nat_lt, refl, ap, sym, ◌∙◌, arith}
use Rattle.std.specs.declared.cmp.Ordering.TheVariants.{Less}
use Rattle.std.specs.List.{AllByRecursion}
use Rattle.std.specs.List.Sorted.{IsStrictlySortedBy}
use Rattle.std.specs.Map.{keys_of}
use Rattle.std.specs.Ordering.{is_lt}
use Rattle.std.proofs.lemmas.Bool.{ltb-false, ltb-true}
use Rattle.std.proofs.lemmas.Cmp.{eq_by_cmp_equiv}
use Rattle.std.proofs.lemmas.List.{take-append-drop, take_all}
use Rattle.std.proofs.lemmas.Map.Keys.{IsDistinct-from_sorted}
use Rattle.std.proofs.lemmas.Map.Made.{length-le_from_is_member}
use Rattle.gov_ids.specs.declared.assets.AssetId.{AssetId}
use Rattle.gov_ids.specs.Orders.{asset_cmp}
use Rattle.gov_ids.specs.Same.{same_asset}
use Rattle.gov_ids.proofs.Exacts.{asset_exact}
use Rattle.gov_ids.proofs.Totals.{asset_total}
use Rattle.maps.proofs.Ties.{all_tied, is_equal, same_key}
use Rattle.maps.specs.Maps.{IsMap, has_member}
use Rattle.assets.specs.Quantities.{quantity_of}
use Rattle.assets.proofs.Quantities.{quantity_of-append, quantity_of-cons}
use Rattle.asset_fronts.specs.Fronts.{front}
use Rattle.asset_fronts.proofs.Balances.{AreSame, is_upto, names, names-append}

all_drop : (P : AssetId → Type 0) (m : ℕ) (es : List (AssetId × ℕ)) → AllByRecursion P (keys_of es) → AllByRecursion P (keys_of (drop m es))
all_drop P zero es h = h
all_drop P (suc m) [] h = tt
all_drop P (suc m) (e ∷ es) h = all_drop P m es h.1

-- what lies behind a front comes past each asset of it
behind : (m : ℕ) (es : List (AssetId × ℕ)) (b : AssetId) → IsMap asset_cmp es → names (take m es) b ≡ true → AllByRecursion (λ x. asset_cmp b x ≡ Less) (keys_of (drop m es))
unfolding IsStrictlySortedBy
behind zero es b h n = cc
behind (suc m) [] b h n = tt
behind (suc m) (e ∷ es) b h n =
    elim (same_asset b e.0) as (λ t. same_asset b e.0 ≡ t → (t || names (take m es) b) ≡ true → AllByRecursion (λ x. asset_cmp b x ≡ Less) (keys_of (drop m es))) [
      | true ↦ λ t n. all_drop (λ x. asset_cmp b x ≡ Less) m es (all_tied asset_total b e.0 (keys_of es) (is_equal _ t) h.0)
      | false ↦ λ t n. behind m es b h.1 n
    ] refl n

-- and is not among what comes no later
not_behind : (b q : AssetId) (ks : List AssetId) → AllByRecursion (λ x. asset_cmp b x ≡ Less) ks → is_upto b q ≡ true → has_member asset_cmp ks q ≡ false
not_behind b q [] h t = refl
not_behind b q (k ∷ ks) h t =
    elim (same_asset q k) as (λ s. same_asset q k ≡ s → (s || has_member asset_cmp ks q) ≡ false) [
      | true ↦ λ s. let less : asset_cmp b q ≡ Less = ap (asset_cmp b) (same_key asset_exact q k s) ∙ h.0 in let late : is_upto b q ≡ false = ap (λ r. not (is_lt r)) less in cc
      | false ↦ λ s. not_behind b q ks h.1 t
    ] refl

pub not_named : (es : List (AssetId × ℕ)) (q : AssetId) → names es q ≡ false → quantity_of es q ≡ 0
not_named [] q h = refl
not_named (e ∷ es) q h =
    elim (same_asset q e.0) as (λ s. same_asset q e.0 ≡ s → (s || names es q) ≡ false → quantity_of (e ∷ es) q ≡ 0) [
      | true ↦ λ s h. cc
      | false ↦ λ s h.
          let other : cond (same_asset e.0 q) e.1 0 ≡ 0 = ap (λ b. cond b e.1 0) ((eq_by_cmp_equiv asset_total).symm e.0 q ∙ s) in
          omega (arith, quantity_of-cons e es q, other, not_named es q h)
    ] refl h

pub or_none : (a b : Bool) → b ≡ false → (a || b) ≡ a
or_none true b e = refl
or_none false b e = e

-- up to an asset of a front the front is the list
pub front_same : (m : ℕ) (es : List (AssetId × ℕ)) (b : AssetId) → IsMap asset_cmp es → names (take m es) b ≡ true → AreSame b (take m es) es
front_same m es b h n = λ q t.
    let none : names (drop m es) q ≡ false = not_behind b q (keys_of (drop m es)) (behind m es b h n) t in
    let whole : take m es ++ drop m es ≡ es = take-append-drop m es in (
      sym (ap (λ (l : List (AssetId × ℕ)). names l q) (sym whole) ∙ names-append (take m es) (drop m es) q ∙ or_none (names (take m es) q) (names (drop m es) q) none),
      omega (arith, ap (λ (l : List (AssetId × ℕ)). quantity_of l q) whole, quantity_of-append (take m es) (drop m es) q, not_named (drop m es) q none),
    )

-- all that a list names are among some, or one is not
unnamed : (ns : List AssetId) (es : List (AssetId × ℕ)) → ((q : AssetId) → names es q ≡ true → has_member asset_cmp ns q ≡ true) ⊎ ((b : AssetId) × (names es b ≡ true) × (has_member asset_cmp ns b ≡ false))
unnamed ns [] = inl (λ q h. cc)
unnamed ns (e ∷ es) =
    elim (has_member asset_cmp ns e.0) as (λ t. has_member asset_cmp ns e.0 ≡ t → ((q : AssetId) → names (e ∷ es) q ≡ true → has_member asset_cmp ns q ≡ true) ⊎ ((b : AssetId) × (names (e ∷ es) b ≡ true) × (has_member asset_cmp ns b ≡ false))) [
      | false ↦ λ t. inr (e.0, ap (λ s. s || names es e.0) ((eq_by_cmp_equiv asset_total).refl e.0), t)
      | true ↦ λ t.
          elim (unnamed ns es) [
            | inl all ↦ inl (λ q h. elim (same_asset q e.0) as (λ s. same_asset q e.0 ≡ s → (s || names es q) ≡ true → has_member asset_cmp ns q ≡ true) [
              | true ↦ λ s h. ap (has_member asset_cmp ns) (same_key asset_exact q e.0 s) ∙ t
              | false ↦ λ s h. all q h
            ] refl h)
            | inr found ↦ inr (found.0, later (same_asset found.0 e.0) (names es found.0) found.1, found.2)
          ]
    ] refl
  where
    later : (a b : Bool) → b ≡ true → (a || b) ≡ true
    later true b e = refl
    later false b e = e

length-keys : (es : List (AssetId × ℕ)) → length (keys_of es) ≡ length es
length-keys [] = refl
length-keys (e ∷ es) = ap (λ n. suc n) (length-keys es)

IsMap-take : (m : ℕ) (es : List (AssetId × ℕ)) → IsMap asset_cmp es → IsMap asset_cmp (take m es)
unfolding IsStrictlySortedBy
IsMap-take zero es h = tt
IsMap-take (suc m) [] h = tt
IsMap-take (suc m) (e ∷ es) h = (all_take (λ x. asset_cmp e.0 x ≡ Less) m es h.0, IsMap-take m es h.1)
  where
    all_take : (P : AssetId → Type 0) (m : ℕ) (es : List (AssetId × ℕ)) → AllByRecursion P (keys_of es) → AllByRecursion P (keys_of (take m es))
    all_take P zero es h = tt
    all_take P (suc m) [] h = tt
    all_take P (suc m) (e ∷ es) h = (h.0, all_take P m es h.1)

length-take : (m : ℕ) (es : List (AssetId × ℕ)) → m ≤ length es → length (take m es) ≡ m
length-take zero es h = refl
length-take (suc m) [] h = absurd (omega (arith, h))
length-take (suc m) (e ∷ es) h = ap (λ n. suc n) (length-take m es (omega (arith, h)))

-- a front of more entries than are named has an asset that is not
pub front_has : (n : ℕ) (ns : List AssetId) (es : List (AssetId × ℕ)) → length ns ≤ n → IsMap asset_cmp es → (front n es ≡ es) ⊎ ((b : AssetId) × (names (front n es) b ≡ true) × (has_member asset_cmp ns b ≡ false))
front_has n ns es few h =
    elim (nat_lt n (length es)) as (λ t. nat_lt n (length es) ≡ t → (front n es ≡ es) ⊎ ((b : AssetId) × (names (front n es) b ≡ true) × (has_member asset_cmp ns b ≡ false))) [
      | false ↦ λ t. inl (take_all (n + 1) es (omega (arith, short t)))
      | true ↦ λ t.
          let long : n < length es = ltb-true _ _ t in
          elim (unnamed ns (front n es)) [
            | inl all ↦
                let within : length (keys_of (front n es)) ≤ length ns = length-le_from_is_member (eq_by_cmp_equiv asset_total) (keys_of (front n es)) ns (IsDistinct-from_sorted asset_cmp (keys_of (front n es)) (IsMap-take (n + 1) es h)) all in
                absurd (omega (arith, within, few, length-keys (front n es), length-take (n + 1) es (omega (arith, long))))
            | inr found ↦ inr found
          ]
    ] refl
  where
    short : nat_lt n (length es) ≡ false → length es ≤ n
    short t = ltb-false _ _ t
