-- Values and changes laid over a map: what they make of each key, and one more of them.
use Rattle.std.proofs.Common.{◌≡◌, List, [], ◌∷◌, Bool, true, false, cond, fold, Option, Some, None, unwrap_or, refl, ap, sym, ◌∙◌}
use Rattle.std.specs.declared.cmp.Ordering.{Ordering}
use Rattle.std.specs.Ordering.{eq_by_cmp}
use Rattle.std.specs.Cmp.{IsTotalOrder}
use Rattle.std.specs.FinMap.{IsAntisymmetric}
use Rattle.std.specs.List.Sorted.{IsStrictlySortedBy}
use Rattle.std.specs.Map.{keys_of}
use Rattle.std.specs.Option.{option_or}
use Rattle.std.proofs.lemmas.Cmp.{eq_by_cmp_equiv}
use Rattle.std.proofs.lemmas.Map.Keys.{IsDistinct-from_sorted}
use Rattle.maps.proofs.Kept.{IsMap-with_value, IsMap-with_values}
use Rattle.maps.proofs.Lookups.{none_below, value_at-with_value}
use Rattle.maps.proofs.Replaced.{IsMap-with_option, value_at-with_option}
use Rattle.maps.proofs.Same.{map_from_value_at}
use Rattle.maps.proofs.Several.{value_at-with_values_distinct}
use Rattle.maps.proofs.Ties.{all_tied, is_equal}
use Rattle.maps.specs.Maps.{IsMap, value_at, with_value, with_values}
use Rattle.maps.specs.Replaced.{with_option}

-- a change at a key decides there, and elsewhere what was there
decides : {X : Type 0} (b : Bool) (r : Option X) (s : Option (Option X)) (v : Option X) → unwrap_or (cond b (Some r) s) v ≡ cond b r (unwrap_or s v)
decides true r s v = refl
decides false r s v = refl

-- a value that is put in decides at its key, and elsewhere what was there first
put_first : {X : Type 0} (b : Bool) (v : X) (s t : Option X) → option_or (cond b (Some v) s) t ≡ cond b (Some v) (option_or s t)
put_first true v s t = refl
put_first false v s t = refl

module _ {K X : Type 0} {cmp : K → K → Ordering} (o : IsTotalOrder cmp) where
  -- the value at a key among those that are put in, and what was there where there is none
  pub value_at-with_map : (new es : List (K × X)) (q : K) → IsMap cmp new → value_at cmp (with_values cmp new es) q ≡ option_or (value_at cmp new q) (value_at cmp es q)
  value_at-with_map new es q g = value_at-with_values_distinct o new es q (IsDistinct-from_sorted cmp (keys_of new) g)

  -- one more value among those that are put in is put in last
  pub with_values-with_value : IsAntisymmetric cmp → (k : K) (v : X) (new es : List (K × X)) → IsMap cmp new → IsMap cmp es → with_values cmp (with_value cmp k v new) es ≡ with_value cmp k v (with_values cmp new es)
  with_values-with_value exact k v new es g h =
      map_from_value_at o exact (with_values cmp (with_value cmp k v new) es) (with_value cmp k v (with_values cmp new es))
      (IsMap-with_values o (with_value cmp k v new) es h) (IsMap-with_value o k v (with_values cmp new es) (IsMap-with_values o new es h))
      (λ q. value_at-with_map (with_value cmp k v new) es q (IsMap-with_value o k v new g)
      ∙ ap (λ (x : Option X). option_or x (value_at cmp es q)) (value_at-with_value o k v new q)
      ∙ put_first (eq_by_cmp cmp k q) v (value_at cmp new q) (value_at cmp es q)
      ∙ ap (λ (x : Option X). cond (eq_by_cmp cmp k q) (Some v) x) (sym (value_at-with_map new es q g))
      ∙ sym (value_at-with_value o k v (with_values cmp new es) q))

  -- with each of these changes
  abbrev pub with_options : List (K × Option X) → List (K × X) → List (K × X)
  with_options changes es = fold (λ fs p. with_option cmp p.0 p.1 fs) es changes

  pub IsMap-with_options : (changes : List (K × Option X)) (es : List (K × X)) → IsMap cmp es → IsMap cmp (with_options changes es)
  IsMap-with_options [] es h = h
  IsMap-with_options (e ∷ changes) es h = IsMap-with_options changes (with_option cmp e.0 e.1 es) (IsMap-with_option o e.0 e.1 es h)

  -- the change at a key decides, and what was there where there is none
  pub value_at-with_options : (changes : List (K × Option X)) (es : List (K × X)) (q : K) → IsMap cmp changes → IsMap cmp es → value_at cmp (with_options changes es) q ≡ unwrap_or (value_at cmp changes q) (value_at cmp es q)
  unfolding IsStrictlySortedBy
  value_at-with_options [] es q g h = refl
  value_at-with_options (e ∷ changes) es q g h =
      value_at-with_options changes (with_option cmp e.0 e.1 es) q g.1 (IsMap-with_option o e.0 e.1 es h)
      ∙ ap (λ (x : Option X). unwrap_or (value_at cmp changes q) x) (value_at-with_option o e.0 e.1 es q h)
      ∙ elim (eq_by_cmp cmp q e.0) as (λ b. eq_by_cmp cmp q e.0 ≡ b
      → unwrap_or (value_at cmp changes q) (cond (eq_by_cmp cmp e.0 q) e.1 (value_at cmp es q)) ≡ unwrap_or (cond b (Some e.1) (value_at cmp changes q)) (value_at cmp es q)) [
        | true ↦ λ t.
            let none : value_at cmp changes q ≡ None = none_below cmp q changes (all_tied o q e.0 (keys_of changes) (is_equal _ t) g.0) in
            let here : eq_by_cmp cmp e.0 q ≡ true = (eq_by_cmp_equiv o).symm e.0 q ∙ t in
            λ i. unwrap_or (none i) (cond (here i) e.1 (value_at cmp es q))
        | false ↦ λ t. ap (λ b. unwrap_or (value_at cmp changes q) (cond b e.1 (value_at cmp es q))) ((eq_by_cmp_equiv o).symm e.0 q ∙ t)
      ] refl

  -- a change put in is a change laid over
  pub with_options-with_value : IsAntisymmetric cmp → (k : K) (r : Option X) (changes : List (K × Option X)) (es : List (K × X)) → IsMap cmp changes → IsMap cmp es
      → with_options (with_value cmp k r changes) es ≡ with_option cmp k r (with_options changes es)
  with_options-with_value exact k r changes es g h =
      let laid : IsMap cmp (with_options changes es) = IsMap-with_options changes es h in
      map_from_value_at o exact (with_options (with_value cmp k r changes) es) (with_option cmp k r (with_options changes es))
      (IsMap-with_options (with_value cmp k r changes) es h) (IsMap-with_option o k r (with_options changes es) laid)
      (λ q. value_at-with_options (with_value cmp k r changes) es q (IsMap-with_value o k r changes g) h
      ∙ ap (λ (x : Option (Option X)). unwrap_or x (value_at cmp es q)) (value_at-with_value o k r changes q)
      ∙ decides (eq_by_cmp cmp k q) r (value_at cmp changes q) (value_at cmp es q)
      ∙ ap (λ (x : Option X). cond (eq_by_cmp cmp k q) r x) (sym (value_at-with_options changes es q g h))
      ∙ sym (value_at-with_option o k r (with_options changes es) q laid))
