-- What a map has at each key after a change.
use Rattle.std.proofs.Common.{◌≡◌, List, [], ◌∷◌, Bool, true, false, cond, not, is_some, ◌&&◌, ◌||◌, Option, Some, None, option_map, refl, ap, sym, ◌∙◌, if◌then◌else◌}
use Rattle.std.specs.declared.cmp.Ordering.{Ordering}
use Rattle.std.specs.declared.cmp.Ordering.TheVariants.{Less, Equal, Greater}
use Rattle.std.specs.Ordering.{is_eq, eq_by_cmp, match_ordering}
use Rattle.std.specs.Cmp.{IsTotalOrder}
use Rattle.std.specs.FinMap.{IsAntisymmetric}
use Rattle.std.specs.List.{AllByRecursion}
use Rattle.std.specs.List.Sorted.{IsStrictlySortedBy}
use Rattle.std.specs.Map.{keys_of}
use Rattle.std.proofs.lemmas.Cmp.{eq_by_cmp_equiv}
use Rattle.std.proofs.lemmas.Map.{lookup-remove_entry}
use Rattle.std.proofs.lemmas.Map.Entries.{option_filter, lookup-filter-keys}
use Rattle.std.proofs.lemmas.Map.Keys.{IsDistinct-from_sorted}
use Rattle.std.proofs.lemmas.Map.Steps.{list_any_congr}
use Rattle.maps.proofs.Joined.{once, swapped}
use Rattle.maps.proofs.Ties.{is_equal, same_key, tied, apart, all_tied}
use Rattle.maps.specs.Maps.{IsMap, value_at, has_key, with_value, without_key, each_value, changed_where, changed_at, entries_where, without_keys, has_member}

-- a key below all others has no value
pub none_below : {K X : Type 0} (cmp : K → K → Ordering) (q : K) (es : List (K × X)) → AllByRecursion (λ x. cmp q x ≡ Less) (keys_of es) → value_at cmp es q ≡ None
none_below cmp q [] h = refl
none_below {K} {X} cmp q (e ∷ es) h = ap (λ r. cond (is_eq r) (Some e.1) (value_at cmp es q)) h.0 ∙ none_below cmp q es h.1

-- a key with no value leaves nothing behind
pub without_key_absent : {K X : Type 0} (cmp : K → K → Ordering) (k : K) (es : List (K × X)) → value_at cmp es k ≡ None → without_key cmp k es ≡ es
without_key_absent cmp k [] m = refl
without_key_absent {K} {X} cmp k (e ∷ es) m =
    elim (eq_by_cmp cmp k e.0) as (λ b. cond b (Some e.1) (value_at cmp es k) ≡ None → cond b es (e ∷ without_key cmp k es) ≡ e ∷ es) [
      | true ↦ λ m. cc
      | false ↦ λ m. ap (λ (l : List (K × X)). e ∷ l) (without_key_absent cmp k es m)
    ] m

module _ {K X : Type 0} {cmp : K → K → Ordering} (o : IsTotalOrder cmp) where
  pub value_at-with_value : (k : K) (v : X) (es : List (K × X)) (q : K) → value_at cmp (with_value cmp k v es) q ≡ cond (eq_by_cmp cmp k q) (Some v) (value_at cmp es q)
  value_at-with_value k v [] q = ap (λ b. cond b (Some v) None) ((eq_by_cmp_equiv o).symm q k)
  value_at-with_value k v (e ∷ es) q =
      elim (cmp k e.0) as (λ r. cmp k e.0 ≡ r → value_at cmp (match_ordering r ((k, v) ∷ e ∷ es) ((e.0, v) ∷ es) (e ∷ with_value cmp k v es)) q ≡ cond (eq_by_cmp cmp k q) (Some v) (value_at cmp (e ∷ es) q)) [
        | Less ↦ λ p. ap (λ b. cond b (Some v) (value_at cmp (e ∷ es) q)) ((eq_by_cmp_equiv o).symm q k)
        | Equal ↦ λ p. once _ _ _ _ _ (tied o k e.0 q (ap is_eq p))
        | Greater ↦ λ p. ap (λ (r : Option X). cond (eq_by_cmp cmp q e.0) (Some e.1) r) (value_at-with_value k v es q) ∙ swapped _ _ _ _ _ (apart o k e.0 q (ap is_eq p))
      ] refl

  pub value_at-with_value_here : (k : K) (v : X) (es : List (K × X)) → value_at cmp (with_value cmp k v es) k ≡ Some v
  value_at-with_value_here k v es = value_at-with_value k v es k ∙ ap (λ b. cond b (Some v) (value_at cmp es k)) ((eq_by_cmp_equiv o).refl k)

  pub value_at-with_value_other : (k : K) (v : X) (es : List (K × X)) (q : K) → eq_by_cmp cmp k q ≡ false → value_at cmp (with_value cmp k v es) q ≡ value_at cmp es q
  value_at-with_value_other k v es q e = value_at-with_value k v es q ∙ ap (λ b. cond b (Some v) (value_at cmp es q)) e

  pub has_key-with_value : (k : K) (v : X) (es : List (K × X)) (q : K) → has_key cmp (with_value cmp k v es) q ≡ (eq_by_cmp cmp k q || has_key cmp es q)
  has_key-with_value k v es q =
      ap (λ (x : Option X). is_some x) (value_at-with_value k v es q)
      ∙ elim (eq_by_cmp cmp k q) as (λ b. is_some (cond b (Some v) (value_at cmp es q)) ≡ (b || has_key cmp es q)) [ true ↦ refl | false ↦ refl ]

  pub value_at-without_key : (k : K) (es : List (K × X)) (q : K) → IsMap cmp es → value_at cmp (without_key cmp k es) q ≡ cond (eq_by_cmp cmp k q) None (value_at cmp es q)
  value_at-without_key k es q h = lookup-remove_entry (eq_by_cmp_equiv o) (eq_by_cmp cmp k) (λ x y e. (eq_by_cmp_equiv o).congr k x y e) q es (IsDistinct-from_sorted cmp (keys_of es) h)

  pub has_key-without_key : (k : K) (es : List (K × X)) (q : K) → IsMap cmp es → has_key cmp (without_key cmp k es) q ≡ (not (eq_by_cmp cmp k q) && has_key cmp es q)
  has_key-without_key k es q h =
      ap (λ (x : Option X). is_some x) (value_at-without_key k es q h)
      ∙ elim (eq_by_cmp cmp k q) as (λ b. is_some (cond b None (value_at cmp es q)) ≡ (not b && has_key cmp es q)) [ true ↦ refl | false ↦ refl ]

  -- q's entry is changed if and only if q is the key that is changed
  changed_one : (a c b : Bool) (f : X → X) (x : X) (r : Option X) → (b ≡ true → c ≡ a) → cond b (Some (cond c (f x) x)) (cond a (option_map f r) r) ≡ cond a (option_map f (cond b (Some x) r)) (cond b (Some x) r)
  changed_one a c true f x r e = rw (e refl) (elim a as (λ b. Some (cond b (f x) x) ≡ cond b (Some (f x)) (Some x)) [ true ↦ refl | false ↦ refl ])
  changed_one true c false f x r e = refl
  changed_one false c false f x r e = refl

  pub value_at-changed_at : (k : K) (f : X → X) (es : List (K × X)) (q : K) → value_at cmp (changed_at cmp k f es) q ≡ cond (eq_by_cmp cmp k q) (option_map f (value_at cmp es q)) (value_at cmp es q)
  value_at-changed_at k f [] q = elim (eq_by_cmp cmp k q) as (λ b. None ≡ cond b (option_map f None) None) [ true ↦ refl | false ↦ refl ]
  value_at-changed_at k f (e ∷ es) q =
      ap (λ (r : Option X). cond (eq_by_cmp cmp q e.0) (Some (if eq_by_cmp cmp k e.0 then f e.1 else e.1)) r) (value_at-changed_at k f es q)
      ∙ changed_one (eq_by_cmp cmp k q) (eq_by_cmp cmp k e.0) (eq_by_cmp cmp q e.0) f e.1 (value_at cmp es q) (λ t. (eq_by_cmp_equiv o).symm k e.0 ∙ sym ((eq_by_cmp_equiv o).congr q e.0 k t) ∙ (eq_by_cmp_equiv o).symm q k)

  pub value_at-without_keys : (ks : List K) (es : List (K × X)) (q : K) → value_at cmp (without_keys cmp ks es) q ≡ cond (has_member cmp ks q) None (value_at cmp es q)
  value_at-without_keys ks es q =
      lookup-filter-keys (eq_by_cmp cmp q) (λ k. not (has_member cmp ks k)) _ (λ k t. ap not (sym (list_any_congr (eq_by_cmp_equiv o) q k ks t))) es
      ∙ elim (has_member cmp ks q) as (λ b. cond (not b) (value_at cmp es q) None ≡ cond b None (value_at cmp es q)) [ true ↦ refl | false ↦ refl ]

  module _ (exact : IsAntisymmetric cmp) where
    pub value_at-each_value : (f : K → X → X) (es : List (K × X)) (q : K) → value_at cmp (each_value f es) q ≡ option_map (f q) (value_at cmp es q)
    value_at-each_value f [] q = refl
    value_at-each_value f (e ∷ es) q =
        elim (eq_by_cmp cmp q e.0) as (λ b. eq_by_cmp cmp q e.0 ≡ b → cond b (Some (f e.0 e.1)) (value_at cmp (each_value f es) q) ≡ option_map (f q) (cond b (Some e.1) (value_at cmp es q))) [
          | true ↦ λ t. ap (λ k. Some (f k e.1)) (sym (same_key exact q e.0 t))
          | false ↦ λ t. value_at-each_value f es q
        ] refl

    pub value_at-changed_where : (p : K → X → Bool) (f : X → X) (es : List (K × X)) (q : K) → value_at cmp (changed_where p f es) q ≡ option_map (λ x. if p q x then f x else x) (value_at cmp es q)
    value_at-changed_where p f es q = value_at-each_value (λ k x. if p k x then f x else x) es q

    pub value_at-entries_where : (p : K → X → Bool) (es : List (K × X)) (q : K) → IsMap cmp es → value_at cmp (entries_where p es) q ≡ option_filter (p q) (value_at cmp es q)
    unfolding IsStrictlySortedBy
    value_at-entries_where p [] q h = refl
    value_at-entries_where p (e ∷ es) q h =
        let rest : value_at cmp (entries_where p es) q ≡ option_filter (p q) (value_at cmp es q) = value_at-entries_where p es q h.1 in
        elim (eq_by_cmp cmp q e.0) as (λ b. eq_by_cmp cmp q e.0 ≡ b → value_at cmp (cond (p e.0 e.1) (e ∷ entries_where p es) (entries_where p es)) q ≡ option_filter (p q) (cond b (Some e.1) (value_at cmp es q))) [
          | true ↦ λ t.
              let none : value_at cmp es q ≡ None = none_below cmp q es (all_tied o q e.0 (keys_of es) (is_equal _ t) h.0) in
              ap (λ k. value_at cmp (cond (p k e.1) (e ∷ entries_where p es) (entries_where p es)) q) (sym (same_key exact q e.0 t))
              ∙ elim (p q e.1) as (λ c. value_at cmp (cond c (e ∷ entries_where p es) (entries_where p es)) q ≡ cond c (Some e.1) None) [
                | true ↦ ap (λ b. cond b (Some e.1) (value_at cmp (entries_where p es) q)) t
                | false ↦ rest ∙ ap (λ (r : Option X). option_filter (p q) r) none
              ]
          | false ↦ λ t. elim (p e.0 e.1) as (λ c. value_at cmp (cond c (e ∷ entries_where p es) (entries_where p es)) q ≡ option_filter (p q) (value_at cmp es q)) [
            | true ↦ ap (λ b. cond b (Some e.1) (value_at cmp (entries_where p es) q)) t ∙ rest
            | false ↦ rest
          ]
        ] refl
