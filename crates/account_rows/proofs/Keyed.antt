-- Look-ups in entries that are made for keys, or that all pass a test.
use Rattle.std.proofs.Common.{◌≡◌, List, [], ◌∷◌, Bool, true, false, cond, ◌&&◌, ◌||◌, Some, None, filter, map, refl, ap, sym, subst, ◌∙◌}
use Rattle.std.specs.declared.cmp.Ordering.{Ordering}
use Rattle.std.specs.Ordering.{eq_by_cmp}
use Rattle.std.specs.Cmp.{IsTotalOrder}
use Rattle.std.specs.FinMap.{IsAntisymmetric}
use Rattle.std.specs.List.{AllByRecursion, list_all}
use Rattle.std.proofs.lemmas.Bool.{and_from, and_parts}
use Rattle.std.proofs.lemmas.List.Kept.{IsStrictlySortedBy-filter}
use Rattle.std.proofs.lemmas.Option.{same_Some}
use Rattle.maps.proofs.Kept.{keys_of-each}
use Rattle.maps.proofs.Sets.{IsSet-in_order, has_member-in_order}
use Rattle.maps.proofs.Ties.{same_key}
use Rattle.maps.specs.Maps.{IsMap, IsSet, has_member, in_order, value_at}

-- ---- entries that pass a test

pub found_passes : {K X : Type 0} {cmp : K → K → Ordering} → IsAntisymmetric cmp → (p : K × X → Bool) (es : List (K × X)) (q : K) (x : X) → list_all p es ≡ true → value_at cmp es q ≡ Some x → p (q, x) ≡ true
found_passes exact p [] q x all is = cc
found_passes {K} {X} {cmp} exact p (e ∷ es) q x all is =
    let parts = and_parts (p e) (list_all p es) all in
    elim (eq_by_cmp cmp q e.0) as (λ b. eq_by_cmp cmp q e.0 ≡ b → cond b (Some e.1) (value_at cmp es q) ≡ Some x → p (q, x) ≡ true) [
      | true ↦ λ t is. (λ i. p (same_key exact q e.0 t i, sym (same_Some e.1 x is) i)) ∙ parts.0
      | false ↦ λ t is. found_passes exact p es q x parts.1 is
    ] refl is

pub each_passes : {A : Type 0} (P : A → Type 0) (p : A → Bool) (xs : List A) → ((x : A) → P x → p x ≡ true) → AllByRecursion P xs → list_all p xs ≡ true
each_passes P p [] so h = refl
each_passes P p (x ∷ xs) so h = and_from (p x) (list_all p xs) (so x h.0) (each_passes P p xs so h.1)

-- ---- an entry for each of some keys

kept : (e p m : Bool) → (e ≡ true → p ≡ true) → (e || (p && m)) ≡ (p && (e || m))
kept true p m h = sym (ap (λ b. b && true) (h refl))
kept false p m h = refl

left_out : (e p m : Bool) → (e ≡ true → p ≡ false) → (p && m) ≡ (p && (e || m))
left_out true p m h = ap (λ b. b && m) (h refl) ∙ sym (ap (λ b. b && true) (h refl))
left_out false p m h = refl

enough : (p m : Bool) → (p ≡ true → m ≡ true) → (p && m) ≡ p
enough true m h = h refl
enough false m h = refl

module _ {K X : Type 0} {cmp : K → K → Ordering} (o : IsTotalOrder cmp) (exact : IsAntisymmetric cmp) (f : K → X) where
  value_at-each : (ks : List K) (q : K) → value_at cmp (map (λ k. (k, f k)) ks) q ≡ cond (has_member cmp ks q) (Some (f q)) None
  value_at-each [] q = refl
  value_at-each (k ∷ ks) q = elim (eq_by_cmp cmp q k) as (λ b. eq_by_cmp cmp q k ≡ b → cond b (Some (f k)) (value_at cmp (map (λ x. (x, f x)) ks) q) ≡ cond (b || has_member cmp ks q) (Some (f q)) None) [
    | true ↦ λ t. ap (λ (x : K). Some (f x)) (sym (same_key exact q k t))
    | false ↦ λ t. value_at-each ks q
  ] refl

  module _ (p : K → Bool) where
    has_member-filter : (ks : List K) (q : K) → has_member cmp (filter p ks) q ≡ (p q && has_member cmp ks q)
    has_member-filter [] q = elim (p q) as (λ b. false ≡ (b && false)) [ true ↦ refl | false ↦ refl ]
    has_member-filter (k ∷ ks) q = elim (p k) as (λ b. p k ≡ b → has_member cmp (cond b (k ∷ filter p ks) (filter p ks)) q ≡ (p q && (eq_by_cmp cmp q k || has_member cmp ks q))) [
      | true ↦ λ t. ap (λ m. eq_by_cmp cmp q k || m) (has_member-filter ks q) ∙ kept (eq_by_cmp cmp q k) (p q) (has_member cmp ks q) (λ e. ap p (same_key exact q k e) ∙ t)
      | false ↦ λ t. has_member-filter ks q ∙ left_out (eq_by_cmp cmp q k) (p q) (has_member cmp ks q) (λ e. ap p (same_key exact q k e) ∙ t)
    ] refl

    -- entries for those of some keys that pass are a map
    pub IsMap-passing : (ks : List K) → IsMap cmp (map (λ k. (k, f k)) (filter p (in_order cmp ks)))
    IsMap-passing ks =
        subst (λ (l : List K). IsSet cmp l) (sym (keys_of-each f (filter p (in_order cmp ks)))) (IsStrictlySortedBy-filter cmp p (in_order cmp ks) (IsSet-in_order o ks))

    -- with an entry of each key that passes, if all that do are among them
    pub value_at-passing : (ks : List K) (q : K) → (p q ≡ true → has_member cmp ks q ≡ true) → value_at cmp (map (λ k. (k, f k)) (filter p (in_order cmp ks))) q ≡ cond (p q) (Some (f q)) None
    value_at-passing ks q among =
        value_at-each (filter p (in_order cmp ks)) q
        ∙ ap (λ b. cond b (Some (f q)) None) (has_member-filter (in_order cmp ks) q ∙ enough (p q) (has_member cmp (in_order cmp ks) q) (λ t. has_member-in_order o ks q ∙ among t))
