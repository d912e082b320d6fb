-- Whether an entry passes after changes are laid over a map.
use Rattle.std.proofs.Common.{◌≡◌, ℕ, ◌+◌, List, [], ◌∷◌, Bool, true, false, not, ◌&&◌, ◌||◌, cond, filter, is_some, length, nat_lt, Option, Some, refl, ap, sym, ◌∙◌, arith}
use Rattle.std.specs.declared.cmp.Ordering.{Ordering}
use Rattle.std.specs.declared.cmp.Ordering.TheVariants.{Less, Equal, Greater}
use Rattle.std.specs.Ordering.{eq_by_cmp, is_eq, match_ordering}
use Rattle.std.specs.Cmp.{IsTotalOrder}
use Rattle.std.specs.FinMap.{IsAntisymmetric}
use Rattle.std.specs.List.{AllByRecursion, list_any}
use Rattle.std.specs.List.Sorted.{IsStrictlySortedBy}
use Rattle.std.specs.Map.{keys_of}
use Rattle.std.proofs.lemmas.Bool.{lt-ltb, ltb-true, ltb_from_iff}
use Rattle.std.proofs.lemmas.Cmp.{eq_by_cmp_equiv}
use Rattle.ledger_books.proofs.proofs_of_committee_book.Seating.{any_where}
use Rattle.maps.proofs.Joined.{or_swap, or_swap_assoc}
use Rattle.maps.proofs.Kept.{IsMap-with_value}
use Rattle.maps.proofs.Lookups.{none_below}
use Rattle.maps.proofs.Ties.{all_above, all_tied}
use Rattle.maps.specs.Maps.{IsMap, entries_where, has_key, value_at, with_value, with_values}
use Rattle.draft_changes.specs.Covered.{covered_entries}

-- an entry passes
abbrev pub any : {K X : Type 0} → (K → X → Bool) → List (K × X) → Bool
any p es = list_any (λ e. p e.0 e.1) es

module _ {K X : Type 0} {cmp : K → K → Ordering} (o : IsTotalOrder cmp) (exact : IsAntisymmetric cmp) where
  -- an entry passes whose key is another
  abbrev any_other : (K → X → Bool) → K → List (K × X) → Bool
  any_other p k es = any (λ q x. not (eq_by_cmp cmp k q) && p q x) es

  other_above : (p : K → X → Bool) (k : K) (es : List (K × X)) → AllByRecursion (λ q. cmp k q ≡ Less) (keys_of es) → any p es ≡ any_other p k es
  other_above p k [] h = refl
  other_above p k (e ∷ es) h = λ i. (not (is_eq (sym h.0 i)) && p e.0 e.1) || other_above p k es h.1 i

  any-with_value : (p : K → X → Bool) (k : K) (v : X) (es : List (K × X)) → IsMap cmp es → any p (with_value cmp k v es) ≡ (p k v || any_other p k es)
  unfolding IsStrictlySortedBy
  any-with_value p k v [] h = refl
  any-with_value p k v (e ∷ es) h =
      elim (cmp k e.0) as (λ r. cmp k e.0 ≡ r → any p (match_ordering r ((k, v) ∷ e ∷ es) ((e.0, v) ∷ es) (e ∷ with_value cmp k v es))
      ≡ (p k v || ((not (is_eq r) && p e.0 e.1) || any_other p k es))) [
        | Less ↦ λ t. ap (λ b. p k v || (p e.0 e.1 || b)) (other_above p k es (all_above o k e.0 (keys_of es) t h.0))
        | Equal ↦ λ t. λ i. p (sym (exact k e.0 t) i) v || other_above p k es (all_tied o k e.0 (keys_of es) t h.0) i
        | Greater ↦ λ t. ap (λ b. p e.0 e.1 || b) (any-with_value p k v es h.1) ∙ or_swap (p e.0 e.1) (p k v) (any_other p k es)
      ] refl

  -- an entry passes that no change replaces
  abbrev pub any_kept : (K → X → Bool) → List (K × X) → List (K × X) → Bool
  any_kept p new es = any (λ q x. not (has_key cmp new q) && p q x) es

  module _ (p : K → X → Bool) (e : K × X) (new : List (K × X)) where
    kept_at : (q : K) (x : X) → (not (eq_by_cmp cmp e.0 q) && (not (has_key cmp new q) && p q x)) ≡ (not (has_key cmp (e ∷ new) q) && p q x)
    kept_at q x =
        elim (eq_by_cmp cmp q e.0) as (λ b. eq_by_cmp cmp q e.0 ≡ b
        → (not (eq_by_cmp cmp e.0 q) && (not (has_key cmp new q) && p q x)) ≡ (not (is_some (cond b (Some e.1) (value_at cmp new q))) && p q x)) [
          | true ↦ λ t. ap (λ c. not c && (not (has_key cmp new q) && p q x)) ((eq_by_cmp_equiv o).symm e.0 q ∙ t)
          | false ↦ λ t. ap (λ c. not c && (not (has_key cmp new q) && p q x)) ((eq_by_cmp_equiv o).symm e.0 q ∙ t)
        ] refl

  pub any-with_values : (p : K → X → Bool) (new es : List (K × X)) → IsMap cmp new → IsMap cmp es
      → any p (with_values cmp new es) ≡ (any p new || any_kept p new es)
  unfolding IsStrictlySortedBy
  any-with_values p [] es g h = refl
  any-with_values p (e ∷ new) es g h =
      let none : has_key cmp new e.0 ≡ false = ap (λ (x : Option X). is_some x) (none_below cmp e.0 new g.0) in
      any-with_values p new (with_value cmp e.0 e.1 es) g.1 (IsMap-with_value o e.0 e.1 es h)
      ∙ ap (λ b. any p new || b) (any-with_value (λ q x. not (has_key cmp new q) && p q x) e.0 e.1 es h)
      ∙ (λ i. any p new || ((not (none i) && p e.0 e.1) || any (λ q x. kept_at p e new q x i) es))
      ∙ or_swap_assoc (any p new) (p e.0 e.1) (any_kept p (e ∷ new) es)

-- ---- how many pass

module _ {K X : Type 0} (p : K → X → Bool) where
  -- how many entries pass
  abbrev pub count : List (K × X) → ℕ
  count es = length (filter (λ e. p e.0 e.1) es)

  by_test : (b : Bool) (e : K × X) (es : List (K × X)) → length (cond b (e ∷ es) es) ≡ cond b 1 0 + length es
  by_test true e es = omega arith
  by_test false e es = omega arith

  count-cons : (e : K × X) (es : List (K × X)) → count (e ∷ es) ≡ cond (p e.0 e.1) 1 0 + count es
  count-cons e es = by_test (p e.0 e.1) e (filter (λ (x : K × X). p x.0 x.1) es)

  -- one passes if and only if the count is above 0
  any_counted : (es : List (K × X)) → any p es ≡ nat_lt 0 (count es)
  any_counted [] = refl
  any_counted (e ∷ es) =
      let rest = filter (λ (x : K × X). p x.0 x.1) es in
      elim (p e.0 e.1) as (λ b. (b || any p es) ≡ nat_lt 0 (length (cond b (e ∷ rest) rest))) [
        | true ↦ sym (lt-ltb 0 _ (omega arith))
        | false ↦ any_counted es
      ]

  module _ (q : K → Bool) where
    -- those whose key passes, and those whose key does not, are all
    count_parted : (es : List (K × X)) → count (entries_where (λ k x. q k) es) + count (entries_where (λ k x. not (q k)) es) ≡ count es
    count_parted [] = refl
    count_parted (e ∷ es) =
        let passed = entries_where (λ k x. q k) es in
        let others = entries_where (λ k x. not (q k)) es in
        elim (q e.0) as (λ b. count (cond b (e ∷ passed) passed) + count (cond (not b) (e ∷ others) others) ≡ count (e ∷ es)) [
          | true ↦ omega (arith, count-cons e passed, count-cons e es, count_parted es)
          | false ↦ omega (arith, count-cons e others, count-cons e es, count_parted es)
        ]

-- what is left is above 0 where the whole is above the part
above : (part rest all : ℕ) → part + rest ≡ all → nat_lt 0 rest ≡ nat_lt part all
above part rest all e =
    ltb_from_iff ((λ t. let l = ltb-true 0 rest t in omega (arith, e, l)), (λ l. lt-ltb 0 rest (omega (arith, e, l))))

-- an entry passes after changes where a changed one does, or more do than are covered
pub passes_after : {K X : Type 0} {cmp : K → K → Ordering} (o : IsTotalOrder cmp) (exact : IsAntisymmetric cmp) (p : K → X → Bool) (changed es : List (K × X))
    → IsMap cmp changed → IsMap cmp es
    → any p (with_values cmp changed es) ≡ (any p changed || nat_lt (count p (covered_entries cmp changed es)) (count p es))
passes_after {K} {X} {cmp} o exact p changed es g h =
    let has = λ (k : K). has_key cmp changed k in
    let others = entries_where (λ k x. not (has_key cmp changed k)) es in
    any-with_values o exact p changed es g h
    ∙ ap (λ b. any p changed || b)
    (sym (any_where (λ (e : K × X). p e.0 e.1) (λ (e : K × X). not (has e.0)) es) ∙ any_counted p others ∙ above (count p (covered_entries cmp changed es)) (count p others) (count p es) (count_parted p has es))
