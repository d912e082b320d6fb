-- The entries that have not changed, when one changes or goes.
use Rattle.std.proofs.Common.{◌≡◌, ℕ, ◌+◌, ◌≤◌, List, [], ◌∷◌, Bool, true, false, not, cond, filter, map, length, Option, Some, None, option_map, refl, ap, sym, subst, ◌∙◌, arith}
use Rattle.std.specs.Prelude.{◌==◌}
use Rattle.std.specs.declared.cmp.Ordering.{Ordering}
use Rattle.std.specs.declared.cmp.Ordering.TheVariants.{Less, Equal, Greater}
use Rattle.std.specs.Ordering.{eq_by_cmp, match_ordering}
use Rattle.std.specs.Cmp.{IsTotalOrder}
use Rattle.std.specs.List.Sorted.{IsStrictlySortedBy}
use Rattle.std.specs.Map.{keys_of}
use Rattle.std.specs.Option.{option_and_then}
use Rattle.std.proofs.lemmas.Bool.{eq-eqb, eqb-true, ne_eqb}
use Rattle.std.proofs.lemmas.Cmp.{eq_by_cmp_equiv}
use Rattle.std.proofs.lemmas.Map.Made.{keys_of-map_values}
use Rattle.maps.proofs.Kept.{IsMap-filter, IsMap-with_value, IsMap-without_key}
use Rattle.maps.proofs.Ties.{is_equal, all_tied}
use Rattle.maps.specs.Maps.{IsMap, IsSet, value_at, with_value, without_key}
use Rattle.view_map.specs.Marks.{AllBefore, AllMarked, unchanged_value, values_in, unchanged_in}
use Rattle.view_map.specs.View.{entry_at, key_in}
use Rattle.view_map.proofs.Entries.{none_below, entry_is, key_in-tied, entry_at-with_value, entry_at-without_key, map_from_entry_at}

itself : (n : ℕ) → (n == n) ≡ true
itself n = eq-eqb n n refl

-- what is unchanged of an entry, where there is one
abbrev pub part : {K V : Type 0} → ℕ → Option (K × (V × ℕ)) → Option (K × V)
part mark None = None
part mark (Some e) = option_map (λ v. (e.0, v)) (unchanged_value mark e.1)

part_changed : {K V : Type 0} (mark : ℕ) (b : Bool) (j : K) (v : V) (x : Option (K × (V × ℕ))) → part mark (cond b (Some (j, (v, mark))) x) ≡ cond b None (part mark x)
part_changed mark true j v x = ap (λ c. option_map (λ v. (j, v)) (cond c None (Some v))) (itself mark)
part_changed mark false j v x = refl

part_gone : {K V : Type 0} (mark : ℕ) (b : Bool) (x : Option (K × (V × ℕ))) → part mark (cond b None x) ≡ cond b None (part mark x)
part_gone mark true x = refl
part_gone mark false x = refl

part_at : {K V : Type 0} (mark : ℕ) (j : K) (x : Option (V × ℕ)) → part mark (option_map (λ w. (j, w)) x) ≡ option_map (λ v. (j, v)) (option_and_then (unchanged_value mark) x)
part_at mark j None = refl
part_at mark j (Some w) = refl

module _ {K V : Type 0} (cmp : K → K → Ordering) where
  pub IsMap-unchanged : (mark : ℕ) (es : List (K × (V × ℕ))) → IsMap cmp es → IsMap cmp (unchanged_in mark es)
  IsMap-unchanged mark es h =
      subst (λ (ks : List K). IsSet cmp ks) (sym (keys_of-map_values (λ (m : V × ℕ). m.0) (filter (λ (e : K × (V × ℕ)). not (e.1.1 == mark)) es))) (IsMap-filter cmp (λ (e : K × (V × ℕ)). not (e.1.1 == mark)) es h)

  pub IsMap-values : (es : List (K × (V × ℕ))) → IsMap cmp es → IsMap cmp (values_in es)
  IsMap-values es h = subst (λ (ks : List K). IsSet cmp ks) (sym (keys_of-map_values (λ (m : V × ℕ). m.0) es)) h

  pub values-with_value : (k : K) (m : V × ℕ) (es : List (K × (V × ℕ))) → values_in (with_value cmp k m es) ≡ with_value cmp k m.0 (values_in es)
  values-with_value k m [] = refl
  values-with_value k m (e ∷ es) =
      elim (cmp k e.0) as (λ r. values_in (match_ordering r ((k, m) ∷ e ∷ es) ((e.0, m) ∷ es) (e ∷ with_value cmp k m es)) ≡ match_ordering r ((k, m.0) ∷ values_in (e ∷ es)) ((e.0, m.0) ∷ values_in es) ((e.0, e.1.0) ∷ with_value cmp k m.0 (values_in es))) [
        | Less ↦ refl
        | Equal ↦ refl
        | Greater ↦ ap (λ (l : List (K × V)). (e.0, e.1.0) ∷ l) (values-with_value k m es)
      ]

  pub values-without_key : (k : K) (es : List (K × (V × ℕ))) → values_in (without_key cmp k es) ≡ without_key cmp k (values_in es)
  values-without_key k [] = refl
  values-without_key k (e ∷ es) =
      elim (eq_by_cmp cmp k e.0) as (λ b. values_in (cond b es (e ∷ without_key cmp k es)) ≡ cond b (values_in es) ((e.0, e.1.0) ∷ without_key cmp k (values_in es))) [
        | true ↦ refl
        | false ↦ ap (λ (l : List (K × V)). (e.0, e.1.0) ∷ l) (values-without_key k es)
      ]

  pub marked-with_value : (mark : ℕ) (k : K) (m : V × ℕ) (es : List (K × (V × ℕ))) → m.1 ≤ mark → AllMarked mark es → AllMarked mark (with_value cmp k m es)
  marked-with_value mark k m [] w h = (w, tt)
  marked-with_value mark k m (e ∷ es) w h =
      elim (cmp k e.0) as (λ r. AllMarked mark (match_ordering r ((k, m) ∷ e ∷ es) ((e.0, m) ∷ es) (e ∷ with_value cmp k m es))) [
        | Less ↦ (w, h)
        | Equal ↦ (w, h.1)
        | Greater ↦ (h.0, marked-with_value mark k m es w h.1)
      ]

  pub marked-without_key : (mark : ℕ) (k : K) (es : List (K × (V × ℕ))) → AllMarked mark es → AllMarked mark (without_key cmp k es)
  marked-without_key mark k [] h = tt
  marked-without_key mark k (e ∷ es) h =
      elim (eq_by_cmp cmp k e.0) as (λ b. AllMarked mark (cond b es (e ∷ without_key cmp k es))) [
        | true ↦ h.1
        | false ↦ (h.0, marked-without_key mark k es h.1)
      ]

module _ {K V : Type 0} where
  pub marked-before : (mark : ℕ) (es : List (K × (V × ℕ))) → AllBefore mark es → AllMarked mark es
  marked-before mark [] h = tt
  marked-before mark (e ∷ es) h = (omega (arith, h.0), marked-before mark es h.1)

  pub before-next : (mark n : ℕ) (es : List (K × (V × ℕ))) → n ≡ mark + 1 → AllMarked mark es → AllBefore n es
  before-next mark n [] is h = tt
  before-next mark n (e ∷ es) is h = (omega (arith, is, h.0), before-next mark n es is h.1)

  pub changed_first : (mark : ℕ) (e : K × (V × ℕ)) (es : List (K × (V × ℕ))) → e.1.1 ≡ mark → unchanged_in mark (e ∷ es) ≡ unchanged_in mark es
  changed_first mark e es is =
      let rest : List (K × (V × ℕ)) = filter (λ (e : K × (V × ℕ)). not (e.1.1 == mark)) es in
      ap (λ c. values_in (cond (not c) (e ∷ rest) rest)) (eq-eqb e.1.1 mark is)

  pub unchanged_first : (mark : ℕ) (e : K × (V × ℕ)) (es : List (K × (V × ℕ))) → (e.1.1 ≡ mark → ⊥) → unchanged_in mark (e ∷ es) ≡ (e.0, e.1.0) ∷ unchanged_in mark es
  unchanged_first mark e es is =
      let rest : List (K × (V × ℕ)) = filter (λ (e : K × (V × ℕ)). not (e.1.1 == mark)) es in
      ap (λ c. values_in (cond (not c) (e ∷ rest) rest)) (ne_eqb e.1.1 mark is)

  -- before the next freeze nothing has changed
  pub all_unchanged : (mark : ℕ) (es : List (K × (V × ℕ))) → AllBefore mark es → unchanged_in mark es ≡ values_in es
  all_unchanged mark [] h = refl
  all_unchanged mark (e ∷ es) h =
      let rest : List (K × (V × ℕ)) = filter (λ (e : K × (V × ℕ)). not (e.1.1 == mark)) es in
      let other : (e.1.1 == mark) ≡ false = elim (e.1.1 == mark) as (λ c. (e.1.1 == mark) ≡ c → (e.1.1 == mark) ≡ false) [
        | true ↦ λ t. absurd (omega (arith, h.0, eqb-true e.1.1 mark t))
        | false ↦ λ t. t
      ] refl in
      ap (λ c. values_in (cond (not c) (e ∷ rest) rest)) other ∙ ap (λ (l : List (K × V)). (e.0, e.1.0) ∷ l) (all_unchanged mark es h.1)

  pub no_marks : (es : List (K × (V × ℕ))) → AllBefore 1 (map (λ (e : K × (V × ℕ)). (e.0, (e.1.0, 0))) es)
  no_marks [] = tt
  no_marks (e ∷ es) = (omega arith, no_marks es)

  pub values-no_marks : (es : List (K × (V × ℕ))) → values_in (map (λ (e : K × (V × ℕ)). (e.0, (e.1.0, 0))) es) ≡ values_in es
  values-no_marks [] = refl
  values-no_marks (e ∷ es) = ap (λ (l : List (K × V)). (e.0, e.1.0) ∷ l) (values-no_marks es)

  pub length-values : (es : List (K × (V × ℕ))) → length (values_in es) ≡ length es
  length-values [] = refl
  length-values (e ∷ es) = omega (arith, length-values es)

  pub same_keys : (cmp : K → K → Ordering) (es fs : List (K × (V × ℕ))) → values_in es ≡ values_in fs → IsMap cmp fs → IsMap cmp es
  same_keys cmp es fs is h =
      subst (λ (ks : List K). IsSet cmp ks) (sym (sym (keys_of-map_values (λ (m : V × ℕ). m.0) es) ∙ ap (λ (l : List (K × V)). keys_of l) is ∙ keys_of-map_values (λ (m : V × ℕ). m.0) fs)) h

module _ {K V : Type 0} {cmp : K → K → Ordering} (o : IsTotalOrder cmp) (mark : ℕ) where
  pub entry_at-unchanged : (es : List (K × (V × ℕ))) (q : K) → IsMap cmp es → entry_at cmp (unchanged_in mark es) q ≡ part mark (entry_at cmp es q)
  unfolding IsStrictlySortedBy
  entry_at-unchanged [] q h = refl
  entry_at-unchanged (e ∷ es) q h =
      let rest : List (K × (V × ℕ)) = filter (λ (e : K × (V × ℕ)). not (e.1.1 == mark)) es in
      elim (e.1.1 == mark) as (λ c. (e.1.1 == mark) ≡ c → entry_at cmp (values_in (cond (not c) (e ∷ rest) rest)) q ≡ part mark (cond (eq_by_cmp cmp q e.0) (Some e) (entry_at cmp es q))) [
        | true ↦ λ t.
            elim (eq_by_cmp cmp q e.0) as (λ b. eq_by_cmp cmp q e.0 ≡ b → entry_at cmp (unchanged_in mark es) q ≡ part mark (cond b (Some e) (entry_at cmp es q))) [
              | true ↦ λ u.
                  entry_at-unchanged es q h.1 ∙ ap (λ (x : Option (K × (V × ℕ))). part mark x) (none_below cmp q es (all_tied o q e.0 (keys_of es) (is_equal _ u) h.0))
                  ∙ sym (ap (λ c. option_map (λ v. (e.0, v)) (cond c None (Some e.1.0))) t)
              | false ↦ λ u. entry_at-unchanged es q h.1
            ] refl
        | false ↦ λ t.
            elim (eq_by_cmp cmp q e.0) as (λ b. cond b (Some (e.0, e.1.0)) (entry_at cmp (unchanged_in mark es) q) ≡ part mark (cond b (Some e) (entry_at cmp es q))) [
              | true ↦ sym (ap (λ c. option_map (λ v. (e.0, v)) (cond c None (Some e.1.0))) t)
              | false ↦ entry_at-unchanged es q h.1
            ]
      ] refl

  -- what was unchanged at a key
  pub unchanged_there : (k : K) (es : List (K × (V × ℕ))) → IsMap cmp es → entry_at cmp (unchanged_in mark es) k ≡ option_map (λ v. (key_in cmp es k, v)) (option_and_then (unchanged_value mark) (value_at cmp es k))
  unchanged_there k es h = entry_at-unchanged es k h ∙ ap (λ (x : Option (K × (V × ℕ))). part mark x) (entry_is cmp es k) ∙ part_at mark (key_in cmp es k) (value_at cmp es k)

  pub unchanged-with_value : (k : K) (v : V) (es : List (K × (V × ℕ))) → IsMap cmp es → unchanged_in mark (with_value cmp k (v, mark) es) ≡ without_key cmp k (unchanged_in mark es)
  unchanged-with_value k v es h =
      let new : IsMap cmp (with_value cmp k (v, mark) es) = IsMap-with_value o k (v, mark) es h in
      let left : IsMap cmp (unchanged_in mark es) = IsMap-unchanged cmp mark es h in
      map_from_entry_at o _ _ (IsMap-unchanged cmp mark _ new) (IsMap-without_key cmp k _ left) (λ q.
      entry_at-unchanged _ q new
      ∙ ap (λ (x : Option (K × (V × ℕ))). part mark x) (entry_at-with_value o k (v, mark) es q h)
      ∙ part_changed mark (eq_by_cmp cmp (key_in cmp es k) q) (key_in cmp es k) v (entry_at cmp es q)
      ∙ ap (λ (r : Option (K × V)). cond (eq_by_cmp cmp (key_in cmp es k) q) None r) (sym (entry_at-unchanged es q h))
      ∙ ap (λ b. cond b None (entry_at cmp (unchanged_in mark es) q)) (sym ((eq_by_cmp_equiv o).congr k (key_in cmp es k) q (key_in-tied o es k)))
      ∙ sym (entry_at-without_key o k (unchanged_in mark es) q left))

  pub unchanged-without_key : (k : K) (es : List (K × (V × ℕ))) → IsMap cmp es → unchanged_in mark (without_key cmp k es) ≡ without_key cmp k (unchanged_in mark es)
  unchanged-without_key k es h =
      let new : IsMap cmp (without_key cmp k es) = IsMap-without_key cmp k es h in
      let left : IsMap cmp (unchanged_in mark es) = IsMap-unchanged cmp mark es h in
      map_from_entry_at o _ _ (IsMap-unchanged cmp mark _ new) (IsMap-without_key cmp k _ left) (λ q.
      entry_at-unchanged _ q new
      ∙ ap (λ (x : Option (K × (V × ℕ))). part mark x) (entry_at-without_key o k es q h)
      ∙ part_gone mark (eq_by_cmp cmp k q) (entry_at cmp es q)
      ∙ ap (λ (r : Option (K × V)). cond (eq_by_cmp cmp k q) None r) (sym (entry_at-unchanged es q h))
      ∙ sym (entry_at-without_key o k (unchanged_in mark es) q left))

  -- the entry at a key, by what is marked there
  pub changed_there : (k : K) (v : V) (since : ℕ) (es : List (K × (V × ℕ))) → IsMap cmp es → Some (v, since) ≡ value_at cmp es k → since ≡ mark → None ≡ entry_at cmp (unchanged_in mark es) k
  changed_there k v since es h value is =
      let name : V → K × V = λ v. (key_in cmp es k, v) in
      sym (ap (λ c. option_map name (cond c None (Some v))) (eq-eqb since mark is))
      ∙ ap (λ (x : Option (V × ℕ)). option_map name (option_and_then (unchanged_value mark) x)) value ∙ sym (unchanged_there k es h)

  pub stands_there : (k j : K) (v : V) (since : ℕ) (es : List (K × (V × ℕ))) → IsMap cmp es → j ≡ key_in cmp es k → Some (v, since) ≡ value_at cmp es k → (since ≡ mark → ⊥) → Some (j, v) ≡ entry_at cmp (unchanged_in mark es) k
  stands_there k j v since es h key value is =
      let name : V → K × V = λ v. (key_in cmp es k, v) in
      ap (λ (j : K). Some (j, v)) key
      ∙ sym (ap (λ c. option_map name (cond c None (Some v))) (ne_eqb since mark is))
      ∙ ap (λ (x : Option (V × ℕ)). option_map name (option_and_then (unchanged_value mark) x)) value ∙ sym (unchanged_there k es h)

  pub nothing_there : (k : K) (es : List (K × (V × ℕ))) → IsMap cmp es → value_at cmp es k ≡ None → entry_at cmp (unchanged_in mark es) k ≡ None
  nothing_there k es h none =
      let name : V → K × V = λ v. (key_in cmp es k, v) in
      unchanged_there k es h ∙ ap (λ (x : Option (V × ℕ)). option_map name (option_and_then (unchanged_value mark) x)) none
