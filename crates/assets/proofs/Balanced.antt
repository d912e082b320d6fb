-- The balance with some of an asset taken and given besides.
use Rattle.std.proofs.Common.{◌≡◌, ℕ, ◌+◌, ◌*◌, ◌^◌, ◌≤◌, Bool, true, false, cond, ◌||◌, inl, inr, List, [], ◌∷◌, ◌++◌, Option, Some, None, map, unwrap_or, length, take, get_or, ◌<◌, refl, ap, sym, subst, ◌∙◌, append_assoc, arith}
use Rattle.std.specs.List.{AllByRecursion}
use Rattle.std.specs.Map.{keys_of}
use Rattle.std.proofs.lemmas.Bool.{cases_Bool, or_parts}
use Rattle.std.proofs.lemmas.Cmp.{eq_by_cmp_equiv}
use Rattle.std.proofs.lemmas.List.{take_more}
use Rattle.gov_ids.specs.declared.assets.AssetId.{AssetId}
use Rattle.gov_ids.specs.Orders.{asset_cmp}
use Rattle.gov_ids.specs.Same.{same_asset}
use Rattle.gov_ids.proofs.Exacts.{asset_exact}
use Rattle.gov_ids.proofs.Totals.{asset_total}
use Rattle.gov_ids.proofs.proofs_of_maps.Joined.{or_assoc}
use Rattle.gov_ids.proofs.proofs_of_maps.Kept.{IsMap-with_value, keys_of-each}
use Rattle.gov_ids.proofs.proofs_of_maps.Lookups.{value_at-with_value}
use Rattle.gov_ids.proofs.proofs_of_maps.Same.{map_from_value_at}
use Rattle.gov_ids.proofs.proofs_of_maps.Sets.{IsSet-in_order, has_member-in_order}
use Rattle.gov_ids.proofs.proofs_of_maps.Ties.{same_key}
use Rattle.gov_ids.specs.of_maps.Maps.{IsMap, IsSet, value_at, with_value, has_member}
use Rattle.assets.specs.Balances.{balance_of}
use Rattle.assets.specs.Quantities.{named_in, quantity_of}
use Rattle.assets.proofs.Quantities.{quantity_of-append, quantity_of-cons, quantity_of-one}
use Rattle.assets.proofs.Values.{all-at_or}

-- both sums are of at most k numbers below 2^64
abbrev pub IsWithin : ℕ → ℕ × ℕ → Type 0
IsWithin k s = (s.0 ≤ k * 2 ^ 64) × (s.1 ≤ k * 2 ^ 64)

-- and so are those of each asset
pub sums_within : (k : ℕ) (a : AssetId) (es fs : List (AssetId × (ℕ × ℕ))) (s : ℕ × ℕ) → AllByRecursion (λ (e : AssetId × (ℕ × ℕ)). IsWithin k e.1) es → es ≡ fs
    → s ≡ unwrap_or (value_at asset_cmp fs a) (0, 0) → IsWithin k s
sums_within k a es fs s h is e =
    subst (λ (s : ℕ × ℕ). IsWithin k s) (sym (e ∙ ap (λ (l : List (AssetId × (ℕ × ℕ))). unwrap_or (value_at asset_cmp l a) (0, 0)) (sym is)))
    (all-at_or asset_cmp (IsWithin k) a (0, 0) es h (omega arith, omega arith))

-- whether a list names an asset
abbrev names : List (AssetId × ℕ) → AssetId → Bool
names es q = has_member asset_cmp (keys_of es) q

value_at-made : {X : Type 0} (f : AssetId → X) (ks : List AssetId) (q : AssetId) → value_at asset_cmp (map (λ a. (a, f a)) ks) q ≡ cond (has_member asset_cmp ks q) (Some (f q)) None
value_at-made f [] q = refl
value_at-made {X} f (k ∷ ks) q =
    elim (same_asset q k) as (λ b. same_asset q k ≡ b → cond b (Some (f k)) (value_at asset_cmp (map (λ a. (a, f a)) ks) q) ≡ cond (b || has_member asset_cmp ks q) (Some (f q)) None) [
      | true ↦ λ t. ap (λ (a : AssetId). Some (f a)) (sym (same_key asset_exact q k t))
      | false ↦ λ t. value_at-made f ks q
    ] refl

IsMap-balance_of : (ts gs : List (AssetId × ℕ)) → IsMap asset_cmp (balance_of ts gs)
IsMap-balance_of ts gs =
    subst (λ (ks : List AssetId). IsSet asset_cmp ks) (sym (keys_of-each {X = ℕ × ℕ} (λ (a : AssetId). (quantity_of ts a, quantity_of gs a)) (named_in (ts ++ gs)))) (IsSet-in_order asset_total (keys_of (ts ++ gs)))

value_at-balance_of : (ts gs : List (AssetId × ℕ)) (q : AssetId) → value_at asset_cmp (balance_of ts gs) q ≡ cond (names (ts ++ gs) q) (Some (quantity_of ts q, quantity_of gs q)) None
value_at-balance_of ts gs q =
    value_at-made (λ a. (quantity_of ts a, quantity_of gs a)) (named_in (ts ++ gs)) q
    ∙ ap (λ b. cond b (Some (quantity_of ts q, quantity_of gs q)) None) (has_member-in_order asset_total (keys_of (ts ++ gs)) q)

names-append : (xs ys : List (AssetId × ℕ)) (q : AssetId) → names (xs ++ ys) q ≡ (names xs q || names ys q)
names-append [] ys q = refl
names-append (x ∷ xs) ys q = ap (λ b. same_asset q x.0 || b) (names-append xs ys q) ∙ or_assoc (same_asset q x.0) (names xs q) (names ys q)

not_named : (es : List (AssetId × ℕ)) (q : AssetId) → names es q ≡ false → quantity_of es q ≡ 0
not_named [] q h = refl
not_named (e ∷ es) q h =
    let parts = or_parts (same_asset q e.0) (names es q) h in
    let other : same_asset e.0 q ≡ false = (eq_by_cmp_equiv asset_total).symm e.0 q ∙ parts.0 in
    let none : cond (same_asset e.0 q) e.1 0 ≡ 0 = ap (λ b. cond b e.1 0) other in
    omega (arith, quantity_of-cons e es q, none, not_named es q parts.1)

-- what the balance has of an asset, 0 where it does not name it
pub sums_of : (ts gs : List (AssetId × ℕ)) (q : AssetId) → unwrap_or (value_at asset_cmp (balance_of ts gs) q) (0, 0) ≡ (quantity_of ts q, quantity_of gs q)
sums_of ts gs q =
    ap (λ (o : Option (ℕ × ℕ)). unwrap_or o (0, 0)) (value_at-balance_of ts gs q)
    ∙ elim (cases_Bool (names (ts ++ gs) q)) [
      | inl named ↦ ap (λ b. unwrap_or (cond b (Some (quantity_of ts q, quantity_of gs q)) None) (0, 0)) named
      | inr absent ↦
          let parts = or_parts (names ts q) (names gs q) (sym (names-append ts gs q) ∙ absent) in
          ap (λ b. unwrap_or (cond b (Some (quantity_of ts q, quantity_of gs q)) None) (0, 0)) absent
          ∙ λ i. (sym (not_named ts q parts.0) i, sym (not_named gs q parts.1) i)
    ]

-- balances of the same names and quantities are the same
balance_same : (ts gs us hs : List (AssetId × ℕ)) → ((q : AssetId) → names (ts ++ gs) q ≡ names (us ++ hs) q) → ((q : AssetId) → quantity_of ts q ≡ quantity_of us q) → ((q : AssetId) → quantity_of gs q ≡ quantity_of hs q)
    → balance_of ts gs ≡ balance_of us hs
balance_same ts gs us hs n t g =
    map_from_value_at asset_total asset_exact (balance_of ts gs) (balance_of us hs) (IsMap-balance_of ts gs) (IsMap-balance_of us hs)
    (λ q. value_at-balance_of ts gs q ∙ (λ i. cond (n q i) (Some (t q i, g q i)) None) ∙ sym (value_at-balance_of us hs q))

or_one : (m n s : Bool) → ((m || (s || false)) || (n || (s || false))) ≡ (s || (m || n))
or_one true true true = refl
or_one true true false = refl
or_one true false true = refl
or_one true false false = refl
or_one false true true = refl
or_one false true false = refl
or_one false false true = refl
or_one false false false = refl

or_left : (m n s : Bool) → (s || (m || n)) ≡ ((m || (s || false)) || n)
or_left true n true = refl
or_left true n false = refl
or_left false n true = refl
or_left false n false = refl

or_right : (m n s : Bool) → (s || (m || n)) ≡ (m || (n || (s || false)))
or_right true true true = refl
or_right true true false = refl
or_right true false true = refl
or_right true false false = refl
or_right false true true = refl
or_right false true false = refl
or_right false false true = refl
or_right false false false = refl

module _ (a : AssetId) (ts gs : List (AssetId × ℕ)) where
  -- with an entry of a on both sides
  names-both : (n m : ℕ) (q : AssetId) → names ((ts ++ (a, n) ∷ []) ++ (gs ++ (a, m) ∷ [])) q ≡ (same_asset q a || names (ts ++ gs) q)
  names-both n m q =
      names-append (ts ++ (a, n) ∷ []) (gs ++ (a, m) ∷ []) q
      ∙ (λ i. names-append ts ((a, n) ∷ []) q i || names-append gs ((a, m) ∷ []) q i)
      ∙ or_one (names ts q) (names gs q) (same_asset q a)
      ∙ ap (λ b. same_asset q a || b) (sym (names-append ts gs q))

  quantity_of-more : (es : List (AssetId × ℕ)) (n : ℕ) (q : AssetId) → quantity_of (es ++ (a, n) ∷ []) q ≡ quantity_of es q + cond (same_asset a q) n 0
  quantity_of-more es n q = quantity_of-append es ((a, n) ∷ []) q ∙ ap (λ k. quantity_of es q + k) (quantity_of-one (a, n) q)

  quantity_of-none : (es : List (AssetId × ℕ)) (q : AssetId) → quantity_of (es ++ (a, 0) ∷ []) q ≡ quantity_of es q
  quantity_of-none es q =
      quantity_of-more es 0 q ∙ elim (same_asset a q) as (λ b. quantity_of es q + cond b 0 0 ≡ quantity_of es q) [ true ↦ omega arith | false ↦ omega arith ]

  -- none given besides
  pub taken_alone : (n : ℕ) → balance_of (ts ++ (a, n) ∷ []) (gs ++ (a, 0) ∷ []) ≡ balance_of (ts ++ (a, n) ∷ []) gs
  taken_alone n =
      balance_same (ts ++ (a, n) ∷ []) (gs ++ (a, 0) ∷ []) (ts ++ (a, n) ∷ []) gs
      (λ q. names-both n 0 q ∙ ap (λ b. same_asset q a || b) (names-append ts gs q) ∙ or_left (names ts q) (names gs q) (same_asset q a)
      ∙ ap (λ b. b || names gs q) (sym (names-append ts ((a, n) ∷ []) q)) ∙ sym (names-append (ts ++ (a, n) ∷ []) gs q))
      (λ q. refl) (quantity_of-none gs)

  -- none taken besides
  pub given_alone : (n : ℕ) → balance_of (ts ++ (a, 0) ∷ []) (gs ++ (a, n) ∷ []) ≡ balance_of ts (gs ++ (a, n) ∷ [])
  given_alone n =
      balance_same (ts ++ (a, 0) ∷ []) (gs ++ (a, n) ∷ []) ts (gs ++ (a, n) ∷ [])
      (λ q. names-both 0 n q ∙ ap (λ b. same_asset q a || b) (names-append ts gs q) ∙ or_right (names ts q) (names gs q) (same_asset q a)
      ∙ ap (λ b. names ts q || b) (sym (names-append gs ((a, n) ∷ []) q)) ∙ sym (names-append ts (gs ++ (a, n) ∷ []) q))
      (quantity_of-none ts) (λ q. refl)

  -- with n taken and m given besides, at any asset
  more_at : (n m : ℕ) (q : AssetId) → value_at asset_cmp (with_value asset_cmp a (quantity_of ts a + n, quantity_of gs a + m) (balance_of ts gs)) q ≡ value_at asset_cmp (balance_of (ts ++ (a, n) ∷ []) (gs ++ (a, m) ∷ [])) q
  more_at n m q =
      let new = balance_of (ts ++ (a, n) ∷ []) (gs ++ (a, m) ∷ []) in
      let values : ◌≡◌ {A = Option (ℕ × ℕ)} (value_at asset_cmp new q) (cond (same_asset q a || names (ts ++ gs) q) (Some (quantity_of ts q + cond (same_asset a q) n 0, quantity_of gs q + cond (same_asset a q) m 0)) None) =
      value_at-balance_of (ts ++ (a, n) ∷ []) (gs ++ (a, m) ∷ []) q
      ∙ (λ i. cond (names-both n m q i) (Some (quantity_of-more ts n q i, quantity_of-more gs m q i)) None) in
      value_at-with_value asset_total a (quantity_of ts a + n, quantity_of gs a + m) (balance_of ts gs) q
      ∙ elim (cases_Bool (same_asset a q)) [
        | inl same ↦
            let tied : same_asset q a ≡ true = (eq_by_cmp_equiv asset_total).symm q a ∙ same in
            let is : a ≡ q = same_key asset_exact a q same in
            ap (λ b. cond b (Some (quantity_of ts a + n, quantity_of gs a + m)) (value_at asset_cmp (balance_of ts gs) q)) same
            ∙ ap (λ (x : AssetId). Some (quantity_of ts x + n, quantity_of gs x + m)) is
            ∙ sym (λ i. cond (tied i || names (ts ++ gs) q) (Some (quantity_of ts q + cond (same i) n 0, quantity_of gs q + cond (same i) m 0)) None)
            ∙ sym values
        | inr other ↦
            let apart : same_asset q a ≡ false = (eq_by_cmp_equiv asset_total).symm q a ∙ other in
            let left : quantity_of ts q + 0 ≡ quantity_of ts q = omega arith in
            let right : quantity_of gs q + 0 ≡ quantity_of gs q = omega arith in
            ap (λ b. cond b (Some (quantity_of ts a + n, quantity_of gs a + m)) (value_at asset_cmp (balance_of ts gs) q)) other
            ∙ value_at-balance_of ts gs q
            ∙ sym (λ i. cond (names (ts ++ gs) q) (Some (left i, right i)) None)
            ∙ sym (λ i. cond (apart i || names (ts ++ gs) q) (Some (quantity_of ts q + cond (other i) n 0, quantity_of gs q + cond (other i) m 0)) None)
            ∙ sym values
      ]

  pub balance_more : (n m : ℕ) → with_value asset_cmp a (quantity_of ts a + n, quantity_of gs a + m) (balance_of ts gs) ≡ balance_of (ts ++ (a, n) ∷ []) (gs ++ (a, m) ∷ [])
  balance_more n m =
      map_from_value_at asset_total asset_exact _ _
      (IsMap-with_value asset_total a (quantity_of ts a + n, quantity_of gs a + m) (balance_of ts gs) (IsMap-balance_of ts gs))
      (IsMap-balance_of (ts ++ (a, n) ∷ []) (gs ++ (a, m) ∷ []))
      (more_at n m)

-- the same with what stands in the balance
pub balance_raised : (a : AssetId) (n m : ℕ) (ts gs : List (AssetId × ℕ)) (sums : ℕ × ℕ) → sums ≡ unwrap_or (value_at asset_cmp (balance_of ts gs) a) (0, 0)
    → with_value asset_cmp a (sums.0 + n, sums.1 + m) (balance_of ts gs) ≡ balance_of (ts ++ (a, n) ∷ []) (gs ++ (a, m) ∷ [])
balance_raised a n m ts gs sums e =
    ap (λ (s : ℕ × ℕ). with_value asset_cmp a (s.0 + n, s.1 + m) (balance_of ts gs)) (e ∙ sums_of ts gs a) ∙ balance_more a ts gs n m

-- the entries as far as a place, and the next
pub front_more : (ts es : List (AssetId × ℕ)) (i : ℕ) (d : AssetId × ℕ) → i < length es → d ≡ get_or es i d → (ts ++ take i es) ++ d ∷ [] ≡ ts ++ take (i + 1) es
front_more ts es i d lt is =
    append_assoc ts (take i es) (d ∷ []) ∙ ap (λ (e : AssetId × ℕ). ts ++ (take i es ++ e ∷ [])) is ∙ ap (λ (l : List (AssetId × ℕ)). ts ++ l) (sym (take_more es i d lt))
