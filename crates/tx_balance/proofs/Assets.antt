-- What lists have of an asset, and that each asset is even where the list of all that are named is.
use Rattle.std.proofs.Common.{◌≡◌, ℕ, ◌+◌, List, [], ◌∷◌, ◌++◌, Bool, true, false, cond, not, ◌&&◌, ◌||◌, Option, Some, None, filter, flat_map, map, sum_by, refl, ap, sym, ◌∙◌, arith}
use Rattle.std.specs.List.{enumerate_from, list_all, list_any}
use Rattle.std.specs.Map.{keys_of}
use Rattle.std.specs.Option.{option_map, unwrap_or}
use Rattle.std.specs.Ordering.{eq_by_cmp}
use Rattle.std.proofs.lemmas.Bool.{and_parts, eqb-true, not-false, or_parts}
use Rattle.std.proofs.lemmas.Cmp.{eq_by_cmp_equiv}
use Rattle.std.proofs.lemmas.List.Elements.{filter-append}
use Rattle.std.proofs.lemmas.List.Sums.{sum_by-append, sum_by-cons}
use Rattle.maps.specs.Maps.{has_member}
use Rattle.maps.specs.Words.{amount}
use Rattle.maps.proofs.Sets.{has_member-in_order}
use Rattle.maps.proofs.Ties.{same_key}
use Rattle.assets.specs.Balances.{balance_of, is_even}
use Rattle.assets.specs.Quantities.{named_in, quantity_of}
use Rattle.gov_ids.specs.declared.assets.AssetId.{AssetId}
use Rattle.gov_ids.specs.Orders.{asset_cmp}
use Rattle.gov_ids.specs.Same.{same_asset}
use Rattle.gov_ids.proofs.Exacts.{asset_exact}
use Rattle.gov_ids.proofs.Totals.{asset_total}
use Rattle.book_records.specs.declared.Output.{Output}
use Rattle.ledger_model.specs.Broken.{asset_check}
use Rattle.ledger_model.specs.Checks.{at_place}
use Rattle.ledger_model.proofs.Unbroken.{IsUnbroken, unbroken-cons}

module _ (a : AssetId) where
  abbrev is_here : AssetId × ℕ → Bool
  is_here e = same_asset e.0 a

  abbrev quantity : AssetId × ℕ → ℕ
  quantity e = e.1

  pub quantity_of-append : (xs ys : List (AssetId × ℕ)) → quantity_of (xs ++ ys) a ≡ quantity_of xs a + quantity_of ys a
  quantity_of-append xs ys =
      ap (λ (es : List (AssetId × ℕ)). sum_by quantity es) (filter-append is_here xs ys) ∙ sum_by-append quantity (filter is_here xs) (filter is_here ys)

  pub quantity_of-flat_map : {X : Type 0} (f : X → List (AssetId × ℕ)) (xs : List X) → quantity_of (flat_map f xs) a ≡ sum_by (λ x. quantity_of (f x) a) xs
  quantity_of-flat_map f [] = refl
  quantity_of-flat_map f (x ∷ xs) =
      omega (arith, quantity_of-append (f x) (flat_map f xs), quantity_of-flat_map f xs, sum_by-cons (λ x. quantity_of (f x) a) x xs)

  -- what an output has, where there is one
  pub quantity_of-there : (o : Option Output) → quantity_of (unwrap_or (option_map (λ (x : Output). x.assets) o) []) a ≡ amount (λ (x : Output). quantity_of x.assets a) o
  quantity_of-there None = refl
  quantity_of-there (Some x) = refl

  none_here : (e : AssetId × ℕ) (es : List (AssetId × ℕ)) (b : Bool) → b ≡ false → quantity_of es a ≡ 0 → sum_by quantity (cond b (e ∷ filter is_here es) (filter is_here es)) ≡ 0
  none_here e es true h n = cc
  none_here e es false h n = n

  -- a list that does not name it has nothing of it
  not_named : (es : List (AssetId × ℕ)) → has_member asset_cmp (keys_of es) a ≡ false → quantity_of es a ≡ 0
  not_named [] h = refl
  not_named (e ∷ es) h =
      let parts : (eq_by_cmp asset_cmp a e.0 ≡ false) × (has_member asset_cmp (keys_of es) a ≡ false) = or_parts _ _ h in
      none_here e es (same_asset e.0 a) ((eq_by_cmp_equiv asset_total).symm e.0 a ∙ parts.0) (not_named es parts.1)

module _ (taken given : List (AssetId × ℕ)) where
  abbrev sums_of : AssetId → AssetId × (ℕ × ℕ)
  sums_of a = (a, (quantity_of taken a, quantity_of given a))

  abbrev IsLevel : AssetId → Type 0
  IsLevel a = quantity_of taken a ≡ quantity_of given a

  even_among : (a : AssetId) (ks : List AssetId) → has_member asset_cmp ks a ≡ true → list_all is_even (map sums_of ks) ≡ true → IsLevel a
  even_among a [] h e = cc
  even_among a (k ∷ ks) h e =
      let parts : (is_even (sums_of k) ≡ true) × (list_all is_even (map sums_of ks) ≡ true) = and_parts _ _ e in
      elim (eq_by_cmp asset_cmp a k) as (λ b. eq_by_cmp asset_cmp a k ≡ b → (b || has_member asset_cmp ks a) ≡ true → IsLevel a) [
        | true ↦ λ t h.
            let one : a ≡ k = same_key asset_exact a k t in
            ap (λ (x : AssetId). quantity_of taken x) one ∙ eqb-true (quantity_of taken k) (quantity_of given k) parts.0 ∙ ap (λ (x : AssetId). quantity_of given x) (sym one)
        | false ↦ λ t h. even_among a ks h parts.1
      ] refl h

  even_by : (a : AssetId) (b : Bool) → has_member asset_cmp (keys_of (taken ++ given)) a ≡ b → list_all is_even (balance_of taken given) ≡ true → IsLevel a
  even_by a true h e = even_among a (named_in (taken ++ given)) (has_member-in_order asset_total (keys_of (taken ++ given)) a ∙ h) e
  even_by a false h e = omega (arith, not_named a (taken ++ given) h, quantity_of-append a taken given)

  -- where all that are named are even, each asset is
  pub all_even : list_all is_even (balance_of taken given) ≡ true → (a : AssetId) → quantity_of taken a ≡ quantity_of given a
  all_even e a = even_by a (has_member asset_cmp (keys_of (taken ++ given)) a) refl e

both : (b c : Bool) → b ≡ true → c ≡ true → (b && c) ≡ true
both b c e f = ap (λ x. x && c) e ∙ f

-- none that is uneven
pub even_unless : (es : List (AssetId × (ℕ × ℕ))) → list_any (λ (e : AssetId × (ℕ × ℕ)). not (is_even e)) es ≡ false → list_all is_even es ≡ true
even_unless [] h = refl
even_unless (e ∷ es) h =
    let parts : (not (is_even e) ≡ false) × (list_any (λ (x : AssetId × (ℕ × ℕ)). not (is_even x)) es ≡ false) = or_parts _ _ h in
    both (is_even e) (list_all is_even es) (not-false _ parts.0) (even_unless es parts.1)

-- and none whose check is broken
pub even_unbroken : (place : ℕ → ℕ) (n : ℕ) (es : List (AssetId × (ℕ × ℕ))) → IsUnbroken (map (λ (p : ℕ × (AssetId × (ℕ × ℕ))). at_place (place p.0) (asset_check p.1)) (enumerate_from n es)) → list_all is_even es ≡ true
even_unbroken place n [] h = refl
even_unbroken place n (e ∷ es) h =
    let parts = unbroken-cons _ _ h in
    both (is_even e) (list_all is_even es) (not-false _ parts.0) (even_unbroken place (n + 1) es parts.1)
