-- The balance with some of an asset taken and given besides.
use Rattle.std.proofs.Common.{◌≡◌, ℕ, ◌+◌, ◌<◌, Bool, true, false, cond, ◌||◌, inl, inr, List, [], ◌∷◌, ◌++◌, map, Option, Some, None, unwrap_or, length, take, get_or, refl, ap, sym, ◌∙◌, append_assoc, arith}
use Rattle.std.proofs.lemmas.Bool.{cases_Bool, or_parts}
use Rattle.std.proofs.lemmas.Cmp.{eq_by_cmp_equiv}
use Rattle.std.proofs.lemmas.List.{take_more}
use Rattle.asset_fronts.proofs.Balances.{IsMap-balance_of, names, names-append, value_at-balance_of}
use Rattle.assets.proofs.Quantities.{quantity_of-append, quantity_of-cons, quantity_of-one}
use Rattle.assets.specs.Balances.{balance_of}
use Rattle.assets.specs.Quantities.{quantity_of}
use Rattle.gov_ids.specs.declared.assets.AssetId.{AssetId}
use Rattle.gov_ids.specs.Orders.{asset_cmp}
use Rattle.gov_ids.specs.Same.{same_asset}
use Rattle.gov_ids.proofs.Exacts.{asset_exact}
use Rattle.gov_ids.proofs.Totals.{asset_total}
use Rattle.maps.proofs.Kept.{IsMap-with_value}
use Rattle.maps.proofs.Lookups.{value_at-with_value}
use Rattle.maps.proofs.Same.{map_from_value_at}
use Rattle.maps.proofs.Ties.{same_key}
use Rattle.maps.specs.Maps.{value_at, with_value}
use Rattle.utxo_rules.specs.Raised.{raised, sums_at}

not_named : (es : List (AssetId × ℕ)) (q : AssetId) → names es q ≡ false → quantity_of es q ≡ 0
not_named [] q h = refl
not_named (e ∷ es) q h =
    let parts = or_parts (same_asset q e.0) (names es q) h in
    let other : same_asset e.0 q ≡ false = (eq_by_cmp_equiv asset_total).symm e.0 q ∙ parts.0 in
    let none : cond (same_asset e.0 q) e.1 0 ≡ 0 = ap (λ b. cond b e.1 0) other in
    omega (arith, quantity_of-cons e es q, none, not_named es q parts.1)

-- what the balance has of an asset, 0 where it does not name it
sums_of : (ts gs : List (AssetId × ℕ)) (q : AssetId) → sums_at (balance_of ts gs) q ≡ (quantity_of ts q, quantity_of gs q)
sums_of ts gs q =
    ap (λ (o : Option (ℕ × ℕ)). unwrap_or o (0, 0)) (value_at-balance_of ts gs q)
    ∙ elim (cases_Bool (names (ts ++ gs) q)) [
      | inl named ↦ ap (λ b. unwrap_or (cond b (Some (quantity_of ts q, quantity_of gs q)) None) (0, 0)) named
      | inr absent ↦
          let parts = or_parts (names ts q) (names gs q) (sym (names-append ts gs q) ∙ absent) in
          ap (λ b. unwrap_or (cond b (Some (quantity_of ts q, quantity_of gs q)) None) (0, 0)) absent
          ∙ λ i. (sym (not_named ts q parts.0) i, sym (not_named gs q parts.1) i)
    ]

-- some more of an asset on both sides: what is named, and how much of each asset there is
module _ (a : AssetId) (n m : ℕ) (ts gs us hs : List (AssetId × ℕ)) (named : (q : AssetId) → names (us ++ hs) q ≡ (same_asset q a || names (ts ++ gs) q))
    (taken : (q : AssetId) → quantity_of us q ≡ quantity_of ts q + cond (same_asset a q) n 0) (given : (q : AssetId) → quantity_of hs q ≡ quantity_of gs q + cond (same_asset a q) m 0) where
  values : (q : AssetId) → ◌≡◌ {A = Option (ℕ × ℕ)} (value_at asset_cmp (balance_of us hs) q) (cond (same_asset q a || names (ts ++ gs) q) (Some (quantity_of ts q + cond (same_asset a q) n 0, quantity_of gs q + cond (same_asset a q) m 0)) None)
  values q = value_at-balance_of us hs q ∙ (λ i. cond (named q i) (Some (taken q i, given q i)) None)

  more_at : (q : AssetId) → value_at asset_cmp (with_value asset_cmp a (quantity_of ts a + n, quantity_of gs a + m) (balance_of ts gs)) q ≡ value_at asset_cmp (balance_of us hs) q
  more_at q =
      value_at-with_value asset_total a (quantity_of ts a + n, quantity_of gs a + m) (balance_of ts gs) q
      ∙ elim (cases_Bool (same_asset a q)) [
        | inl same ↦
            let tied : same_asset q a ≡ true = (eq_by_cmp_equiv asset_total).symm q a ∙ same in
            let is : a ≡ q = same_key asset_exact a q same in
            ap (λ b. cond b (Some (quantity_of ts a + n, quantity_of gs a + m)) (value_at asset_cmp (balance_of ts gs) q)) same
            ∙ ap (λ (x : AssetId). Some (quantity_of ts x + n, quantity_of gs x + m)) is
            ∙ sym (λ i. cond (tied i || names (ts ++ gs) q) (Some (quantity_of ts q + cond (same i) n 0, quantity_of gs q + cond (same i) m 0)) None)
            ∙ sym (values q)
        | inr other ↦
            let apart : same_asset q a ≡ false = (eq_by_cmp_equiv asset_total).symm q a ∙ other in
            let left : quantity_of ts q + 0 ≡ quantity_of ts q = omega arith in
            let right : quantity_of gs q + 0 ≡ quantity_of gs q = omega arith in
            ap (λ b. cond b (Some (quantity_of ts a + n, quantity_of gs a + m)) (value_at asset_cmp (balance_of ts gs) q)) other
            ∙ value_at-balance_of ts gs q
            ∙ sym (λ i. cond (names (ts ++ gs) q) (Some (left i, right i)) None)
            ∙ sym (λ i. cond (apart i || names (ts ++ gs) q) (Some (quantity_of ts q + cond (other i) n 0, quantity_of gs q + cond (other i) m 0)) None)
            ∙ sym (values q)
      ]

  raised_to : raised a n m (balance_of ts gs) ≡ balance_of us hs
  raised_to =
      ap (λ (s : ℕ × ℕ). with_value asset_cmp a (s.0 + n, s.1 + m) (balance_of ts gs)) (sums_of ts gs a)
      ∙ map_from_value_at asset_total asset_exact _ _
      (IsMap-with_value asset_total a (quantity_of ts a + n, quantity_of gs a + m) (balance_of ts gs) (IsMap-balance_of ts gs))
      (IsMap-balance_of us hs)
      more_at

or_one : (m n s : Bool) → ((m || (s || false)) || (n || (s || false))) ≡ (s || (m || n))
or_one true true true = refl
or_one true true false = refl
or_one true false true = refl
or_one true false false = refl
or_one false true true = refl
or_one false true false = refl
or_one false false true = refl
or_one false false false = refl

or_left : (m n s : Bool) → ((m || (s || false)) || n) ≡ (s || (m || n))
or_left true n true = refl
or_left true n false = refl
or_left false n true = refl
or_left false n false = refl

or_right : (m n s : Bool) → (m || (n || (s || false))) ≡ (s || (m || n))
or_right true true true = refl
or_right true true false = refl
or_right true false true = refl
or_right true false false = refl
or_right false true true = refl
or_right false true false = refl
or_right false false true = refl
or_right false false false = refl

none_more : (k : ℕ) (b : Bool) → k ≡ k + cond b 0 0
none_more k true = omega arith
none_more k false = omega arith

module _ (a : AssetId) (ts gs : List (AssetId × ℕ)) where
  more : (es : List (AssetId × ℕ)) (n : ℕ) (q : AssetId) → quantity_of (es ++ (a, n) ∷ []) q ≡ quantity_of es q + cond (same_asset a q) n 0
  more es n q = quantity_of-append es ((a, n) ∷ []) q ∙ ap (λ k. quantity_of es q + k) (quantity_of-one (a, n) q)

  whole : (q : AssetId) → (same_asset q a || (names ts q || names gs q)) ≡ (same_asset q a || names (ts ++ gs) q)
  whole q = ap (λ b. same_asset q a || b) (sym (names-append ts gs q))

  -- taken and given
  pub raised_both : (n m : ℕ) → raised a n m (balance_of ts gs) ≡ balance_of (ts ++ (a, n) ∷ []) (gs ++ (a, m) ∷ [])
  raised_both n m =
      raised_to a n m ts gs (ts ++ (a, n) ∷ []) (gs ++ (a, m) ∷ [])
      (λ q. names-append (ts ++ (a, n) ∷ []) (gs ++ (a, m) ∷ []) q
      ∙ (λ i. names-append ts ((a, n) ∷ []) q i || names-append gs ((a, m) ∷ []) q i)
      ∙ or_one (names ts q) (names gs q) (same_asset q a) ∙ whole q)
      (more ts n) (more gs m)

  -- taken alone
  pub raised_taken : (n : ℕ) → raised a n 0 (balance_of ts gs) ≡ balance_of (ts ++ (a, n) ∷ []) gs
  raised_taken n =
      raised_to a n 0 ts gs (ts ++ (a, n) ∷ []) gs
      (λ q. names-append (ts ++ (a, n) ∷ []) gs q ∙ ap (λ b. b || names gs q) (names-append ts ((a, n) ∷ []) q)
      ∙ or_left (names ts q) (names gs q) (same_asset q a) ∙ whole q)
      (more ts n) (λ q. none_more (quantity_of gs q) (same_asset a q))

  -- given alone
  pub raised_given : (n : ℕ) → raised a 0 n (balance_of ts gs) ≡ balance_of ts (gs ++ (a, n) ∷ [])
  raised_given n =
      raised_to a 0 n ts gs ts (gs ++ (a, n) ∷ [])
      (λ q. names-append ts (gs ++ (a, n) ∷ []) q ∙ ap (λ b. names ts q || b) (names-append gs ((a, n) ∷ []) q)
      ∙ or_right (names ts q) (names gs q) (same_asset q a) ∙ whole q)
      (λ q. none_more (quantity_of ts q) (same_asset a q)) (more gs n)

-- the entries as far as a place, and the next
pub front_more : {X : Type 0} (ts es : List X) (i : ℕ) (d : X) → i < length es → d ≡ get_or es i d → (ts ++ take i es) ++ d ∷ [] ≡ ts ++ take (i + 1) es
front_more {X} ts es i d lt is =
    append_assoc ts (take i es) (d ∷ []) ∙ ap (λ (e : X). ts ++ (take i es ++ e ∷ [])) is ∙ ap (λ (l : List X). ts ++ l) (sym (take_more es i d lt))

map_both : {X Y : Type 0} (f : X → Y) (xs ys : List X) → map f xs ++ map f ys ≡ map f (xs ++ ys)
map_both f [] ys = refl
map_both {X} {Y} f (x ∷ xs) ys = ap (λ (l : List Y). f x ∷ l) (map_both f xs ys)

-- the same, with what a function makes of each entry
pub map_more : {X Y : Type 0} (f : X → Y) (ts : List Y) (es : List X) (i : ℕ) (d : X) → i < length es → d ≡ get_or es i d → (ts ++ map f (take i es)) ++ f d ∷ [] ≡ ts ++ map f (take (i + 1) es)
map_more {X} {Y} f ts es i d lt is =
    append_assoc ts (map f (take i es)) (f d ∷ [])
    ∙ ap (λ (e : X). ts ++ (map f (take i es) ++ f e ∷ [])) is
    ∙ ap (λ (l : List Y). ts ++ l) (map_both f (take i es) (get_or es i d ∷ []))
    ∙ ap (λ (l : List X). ts ++ map f l) (sym (take_more es i d lt))
