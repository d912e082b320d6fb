-- Totals above 0, in order, that are what outputs hold of each asset are the list of what they hold.
use Rattle.std.proofs.Common.{◌≡◌, ℕ, ◌+◌, ◌≤◌, List, [], ◌∷◌, Bool, true, false, cond, ◌||◌, Option, Some, None, unwrap_or, nat_lt, filter, flat_map, map, sum_by, refl, ap, sym, subst, ◌∙◌, arith}
use Rattle.std.specs.Ordering.{eq_by_cmp}
use Rattle.std.specs.List.{AllByRecursion}
use Rattle.std.specs.Map.{keys_of, values_of}
use Rattle.std.proofs.lemmas.Bool.Decides.{nat_tests}
use Rattle.std.proofs.lemmas.Cmp.{eq_by_cmp_equiv}
use Rattle.std.proofs.lemmas.List.Sums.{sum_by-cons}
use Rattle.std.proofs.lemmas.Map.Entries.{option_filter}
use Rattle.book_records.proofs.proofs_of_assets.Quantities.{quantity_of-append}
use Rattle.book_records.specs.of_assets.Quantities.{quantity_of}
use Rattle.book_records.specs.of_assets.Totals.{AreTotals, total_at}
use Rattle.book_records.specs.declared.Output.{Output}
use Rattle.book_records.specs.Outputs.{asset_totals, assets_in, assets_named}
use Rattle.gov_ids.proofs.Exacts.{asset_exact}
use Rattle.gov_ids.proofs.Totals.{asset_total}
use Rattle.gov_ids.specs.declared.assets.AssetId.{AssetId}
use Rattle.gov_ids.specs.declared.OutRef.{OutRef}
use Rattle.gov_ids.specs.Orders.{asset_cmp}
use Rattle.gov_ids.specs.Same.{same_asset}
use Rattle.maps.proofs.Kept.{IsMap-entries_where, keys_of-each}
use Rattle.maps.proofs.Lookups.{value_at-entries_where}
use Rattle.maps.proofs.Same.{map_from_value_at}
use Rattle.maps.proofs.Sets.{IsSet-in_order, has_member-in_order}
use Rattle.maps.proofs.Ties.{same_key}
use Rattle.maps.specs.Maps.{IsMap, IsSet, has_member, value_at}

-- an asset that no entry names has no quantity
unnamed : (es : List (AssetId × ℕ)) (a : AssetId) → has_member asset_cmp (keys_of es) a ≡ false → quantity_of es a ≡ 0
unnamed [] a h = refl
unnamed (e ∷ es) a h =
    let rest : List (AssetId × ℕ) = filter (λ (e : AssetId × ℕ). same_asset e.0 a) es in
    elim (eq_by_cmp asset_cmp a e.0) as (λ b. eq_by_cmp asset_cmp a e.0 ≡ b → (b || has_member asset_cmp (keys_of es) a) ≡ false → quantity_of (e ∷ es) a ≡ 0) [
      | true ↦ λ t h. cc
      | false ↦ λ t h. ap (λ b. sum_by (λ (e : AssetId × ℕ). e.1) (cond b (e ∷ rest) rest)) ((eq_by_cmp_equiv asset_total).symm e.0 a ∙ t) ∙ unnamed es a h
    ] refl h

-- all entries of all outputs
abbrev all_assets : List (OutRef × Output) → List (AssetId × ℕ)
all_assets outputs = flat_map (λ (o : Output). o.assets) (values_of outputs)

assets_in-all : (outputs : List (OutRef × Output)) (a : AssetId) → assets_in outputs a ≡ quantity_of (all_assets outputs) a
assets_in-all [] a = refl
assets_in-all (e ∷ es) a =
    sum_by-cons (λ (o : Output). quantity_of o.assets a) e.1 (values_of es)
    ∙ ap (λ n. quantity_of e.1.assets a + n) (assets_in-all es a)
    ∙ sym (quantity_of-append e.1.assets (all_assets es) a)

-- each of some keys with what a function makes of it
value_at-each : (f : AssetId → ℕ) (ks : List AssetId) (q : AssetId) → value_at asset_cmp (map (λ a. (a, f a)) ks) q ≡ cond (has_member asset_cmp ks q) (Some (f q)) None
value_at-each f [] q = refl
value_at-each f (k ∷ ks) q =
    elim (eq_by_cmp asset_cmp q k) as (λ b. eq_by_cmp asset_cmp q k ≡ b → cond b (Some (f k)) (value_at asset_cmp (map (λ a. (a, f a)) ks) q) ≡ cond (b || has_member asset_cmp ks q) (Some (f q)) None) [
      | true ↦ λ t. ap (λ (a : AssetId). Some (f a)) (sym (same_key asset_exact q k t))
      | false ↦ λ t. value_at-each f ks q
    ] refl

value_at_above : (ts : List (AssetId × ℕ)) (q : AssetId) (v : ℕ) → AllByRecursion (λ (t : AssetId × ℕ). 1 ≤ t.1) ts → value_at asset_cmp ts q ≡ Some v → 1 ≤ v
value_at_above [] q v h p = cc
value_at_above (t ∷ ts) q v h p =
    elim (eq_by_cmp asset_cmp q t.0) as (λ b. cond b (Some t.1) (value_at asset_cmp ts q) ≡ Some v → 1 ≤ v) [
      | true ↦ λ p. let same : t.1 ≡ v = cc in subst (λ n. 1 ≤ n) same h.0
      | false ↦ λ p. value_at_above ts q v h.1 p
    ] p

above_kept : (v : ℕ) → 1 ≤ v → Some v ≡ option_filter (λ n. nat_lt 0 n) (Some v)
above_kept v h =
    let above : nat_lt 0 v ≡ true = grind (arith, nat_tests) in
    ap (λ b. cond b (Some v) None) (sym above)

-- a value above 0, or none, is a sum if it is above 0
filtered : (x : Option ℕ) (named : Bool) (n : ℕ) → ((v : ℕ) → x ≡ Some v → 1 ≤ v) → unwrap_or x 0 ≡ n → (named ≡ false → n ≡ 0) → x ≡ option_filter (λ n. nat_lt 0 n) (cond named (Some n) None)
filtered None true n above is none = subst (λ (k : ℕ). None ≡ option_filter (λ n. nat_lt 0 n) (Some k)) is refl
filtered None false n above is none = refl
filtered (Some v) true n above is none = subst (λ (k : ℕ). Some v ≡ option_filter (λ n. nat_lt 0 n) (Some k)) is (above_kept v (above v refl))
filtered (Some v) false n above is none =
    let low : 1 ≤ v = above v refl in
    let high : n ≡ 0 = none refl in
    absurd (omega arith)

pub totals_are : (outputs : List (OutRef × Output)) (ts : List (AssetId × ℕ)) → AreTotals ts → ((a : AssetId) → total_at ts a ≡ assets_in outputs a) → ts ≡ asset_totals outputs
totals_are outputs ts sound is =
    let named : List AssetId = assets_named outputs in
    let all : List (AssetId × ℕ) = map (λ a. (a, assets_in outputs a)) named in
    let sorted : IsMap asset_cmp all = subst (λ (ks : List AssetId). IsSet asset_cmp ks) (sym (keys_of-each (assets_in outputs) named)) (IsSet-in_order asset_total (keys_of (all_assets outputs))) in
    map_from_value_at asset_total asset_exact ts (asset_totals outputs) sound.0 (IsMap-entries_where asset_cmp (λ a n. nat_lt 0 n) all sorted) (
    λ q.
    filtered (value_at asset_cmp ts q) (has_member asset_cmp named q) (assets_in outputs q) (λ v p. value_at_above ts q v sound.1 p) (is q)
    (λ m. assets_in-all outputs q ∙ unnamed (all_assets outputs) q (sym (has_member-in_order asset_total (keys_of (all_assets outputs)) q) ∙ m))
    ∙ ap (λ (x : Option ℕ). option_filter (λ n. nat_lt 0 n) x) (sym (value_at-each (assets_in outputs) named q))
    ∙ sym (value_at-entries_where asset_total asset_exact (λ a n. nat_lt 0 n) all q sorted)
    )
