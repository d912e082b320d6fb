-- Old values put back after what was at their names left.
use Rattle.std.proofs.Common.{◌≡◌, ℕ, zero, suc, ◌+◌, ◌<◌, ◌≤◌, List, [], ◌∷◌, Bool, true, false, cond, ◌||◌, Option, Some, None, drop, get_or, length, take, refl, ap, sym, ◌∙◌, arith}
use Rattle.std.specs.declared.cmp.Ordering.{Ordering}
use Rattle.std.specs.declared.cmp.Ordering.TheVariants.{Less}
use Rattle.std.specs.Ordering.{eq_by_cmp}
use Rattle.std.specs.Cmp.{IsTotalOrder}
use Rattle.std.specs.FinMap.{IsAntisymmetric}
use Rattle.std.specs.List.{AllByRecursion}
use Rattle.std.specs.List.Sorted.{IsStrictlySortedBy}
use Rattle.std.specs.Map.{keys_of, values_of}
use Rattle.std.proofs.lemmas.Cmp.{eq_by_cmp_equiv}
use Rattle.std.proofs.lemmas.List.{at_drop_all, at_drop_more}
use Rattle.std.proofs.lemmas.List.Sums.{sum_by-cons}
use Rattle.maps.proofs.Kept.{IsMap-with_value, IsMap-without_key}
use Rattle.maps.proofs.Lookups.{none_below, value_at-with_value, value_at-without_key, without_key_absent}
use Rattle.maps.proofs.Placed.{value_at_tied}
use Rattle.maps.proofs.Replaced.{IsMap-with_option, value_at-with_option}
use Rattle.maps.proofs.Same.{map_from_value_at, value_at_first}
use Rattle.maps.proofs.Sums.{sum_values-without_key}
use Rattle.maps.proofs.Ties.{all_tied, is_equal}
use Rattle.maps.specs.Maps.{IsMap, has_member, sum_values, value_at, with_value, without_key}
use Rattle.maps.specs.Replaced.{with_option}
use Rattle.undo_model.specs.Holds.{HoldsOld}
use Rattle.undo_model.specs.Undone.{with_old}
use Rattle.undo_back.specs.Steps.{without_named}

-- each entry of the part is in the whole
abbrev pub IsPartOf : {K X : Type 0} → (K → K → Ordering) → List (K × X) → List (K × X) → Type 0
IsPartOf {K} {X} cmp part whole = (q : K) (x : X) → value_at cmp part q ≡ Some x → value_at cmp whole q ≡ Some x

-- each old value is that of the map before
abbrev pub AreValues : {K X : Type 0} → (K → K → Ordering) → List (K × X) → List (K × Option X) → Type 0
AreValues {K} {X} cmp before olds = AllByRecursion (λ (old : K × Option X). value_at cmp before old.0 ≡ old.1) olds

taken_values : {K X : Type 0} (cmp : K → K → Ordering) (before : List (K × X)) (n : ℕ) (olds : List (K × Option X)) → AreValues cmp before olds → AreValues cmp before (take n olds)
taken_values cmp before zero olds h = tt
taken_values cmp before (suc n) [] h = tt
taken_values cmp before (suc n) (old ∷ olds) h = (h.0, taken_values cmp before n olds h.1)

-- one old value more is put back
pub old_next : {K X : Type 0} (cmp : K → K → Ordering) (olds : List (K × Option X)) (i : ℕ) (d : K × Option X) (es fs : List (K × X)) → i < length olds
    → fs ≡ with_option cmp (get_or olds i d).0 (get_or olds i d).1 es → with_old cmp (drop (i + 1) olds) fs ≡ with_old cmp (drop i olds) es
old_next {K} {X} cmp olds i d es fs l e =
    sym (at_drop_more (λ (left : List (K × Option X)). with_old cmp left es) olds i d l ∙ ap (λ (gs : List (K × X)). with_old cmp (drop (i + 1) olds) gs) (sym e))

-- one name more has lost its entry
pub gone_next : {K X : Type 0} (cmp : K → K → Ordering) (olds : List (K × Option X)) (i : ℕ) (d : K × Option X) (es fs : List (K × X)) → i < length olds
    → fs ≡ without_key cmp (get_or olds i d).0 es → without_named cmp (drop (i + 1) olds) fs ≡ without_named cmp (drop i olds) es
gone_next {K} {X} cmp olds i d es fs l e =
    sym (at_drop_more (λ (left : List (K × Option X)). without_named cmp left es) olds i d l ∙ ap (λ (gs : List (K × X)). without_named cmp (drop (i + 1) olds) gs) (sym e))

-- no name is left to lose its entry
pub gone_done : {K X : Type 0} (cmp : K → K → Ordering) (olds : List (K × Option X)) (i : ℕ) (es : List (K × X)) → length olds ≤ i → without_named cmp (drop i olds) es ≡ es
gone_done {K} {X} cmp olds i es l = at_drop_all (λ (left : List (K × Option X)). without_named cmp left es) olds i l

absent_either : {A : Type 0} (a m : Bool) (v : Option A) → cond m None (cond a None v) ≡ cond (a || m) None v
absent_either true true v = refl
absent_either true false v = refl
absent_either false m v = refl

module _ {K X : Type 0} {cmp : K → K → Ordering} (o : IsTotalOrder cmp) where
  pub kept_old : (olds : List (K × Option X)) (es : List (K × X)) → IsMap cmp es → IsMap cmp (with_old cmp olds es)
  kept_old [] es h = h
  kept_old (old ∷ olds) es h = kept_old olds (with_option cmp old.0 old.1 es) (IsMap-with_option o old.0 old.1 es h)

  pub kept_named : (olds : List (K × Option X)) (es : List (K × X)) → IsMap cmp es → IsMap cmp (without_named cmp olds es)
  kept_named [] es h = h
  kept_named (old ∷ olds) es h = kept_named olds (without_key cmp old.0 es) (IsMap-without_key cmp old.0 es h)

  -- two maps that have the same except at the names have the same once the old values are back
  same_at : (olds : List (K × Option X)) (es fs : List (K × X)) (q : K) → IsMap cmp es → IsMap cmp fs → (has_member cmp (keys_of olds) q ≡ false → value_at cmp es q ≡ value_at cmp fs q)
      → value_at cmp (with_old cmp olds es) q ≡ value_at cmp (with_old cmp olds fs) q
  same_at [] es fs q g h same = same refl
  same_at (old ∷ olds) es fs q g h same =
      same_at olds (with_option cmp old.0 old.1 es) (with_option cmp old.0 old.1 fs) q (IsMap-with_option o old.0 old.1 es g) (IsMap-with_option o old.0 old.1 fs h)
      (λ absent. value_at-with_option o old.0 old.1 es q g
      ∙ elim (eq_by_cmp cmp old.0 q) as (λ b. eq_by_cmp cmp old.0 q ≡ b → cond b old.1 (value_at cmp es q) ≡ cond b old.1 (value_at cmp fs q)) [
        | true ↦ λ t. refl
        | false ↦ λ t. same (ap (λ b. b || has_member cmp (keys_of olds) q) ((eq_by_cmp_equiv o).symm q old.0 ∙ t) ∙ absent)
      ] refl
      ∙ sym (value_at-with_option o old.0 old.1 fs q h))

  -- a name has lost its entry, and each other key has what it had
  gone_at : (olds : List (K × Option X)) (es : List (K × X)) (q : K) → IsMap cmp es → value_at cmp (without_named cmp olds es) q ≡ cond (has_member cmp (keys_of olds) q) None (value_at cmp es q)
  gone_at [] es q h = refl
  gone_at (old ∷ olds) es q h =
      gone_at olds (without_key cmp old.0 es) q (IsMap-without_key cmp old.0 es h)
      ∙ ap (λ (v : Option X). cond (has_member cmp (keys_of olds) q) None v) (value_at-without_key o old.0 es q h)
      ∙ absent_either (eq_by_cmp cmp old.0 q) (has_member cmp (keys_of olds) q) (value_at cmp es q)
      ∙ ap (λ b. cond (b || has_member cmp (keys_of olds) q) None (value_at cmp es q)) ((eq_by_cmp_equiv o).symm old.0 q)

  -- old values that are put back after their names lost their entries give what they give at once
  pub old_after_gone : IsAntisymmetric cmp → (olds : List (K × Option X)) (es : List (K × X)) → IsMap cmp es → with_old cmp olds (without_named cmp olds es) ≡ with_old cmp olds es
  old_after_gone exact olds es h =
      map_from_value_at o exact (with_old cmp olds (without_named cmp olds es)) (with_old cmp olds es) (kept_old olds (without_named cmp olds es) (kept_named olds es h)) (kept_old olds es h)
      (λ q. same_at olds (without_named cmp olds es) es q (kept_named olds es h) h
      (λ absent. gone_at olds es q h ∙ ap (λ b. cond b None (value_at cmp es q)) absent))

  -- a value that is put over the entry that was removed before
  pub put_after_gone : IsAntisymmetric cmp → (k : K) (x : X) (es : List (K × X)) → IsMap cmp es → with_value cmp k x (without_key cmp k es) ≡ with_value cmp k x es
  put_after_gone exact k x es h =
      map_from_value_at o exact (with_value cmp k x (without_key cmp k es)) (with_value cmp k x es)
      (IsMap-with_value o k x (without_key cmp k es) (IsMap-without_key cmp k es h)) (IsMap-with_value o k x es h)
      (λ q. value_at-with_value o k x (without_key cmp k es) q
      ∙ ap (λ (v : Option X). cond (eq_by_cmp cmp k q) (Some x) v) (value_at-without_key o k es q h)
      ∙ elim (eq_by_cmp cmp k q) as (λ b. cond b (Some x) (cond b None (value_at cmp es q)) ≡ cond b (Some x) (value_at cmp es q)) [ true ↦ refl | false ↦ refl ]
      ∙ sym (value_at-with_value o k x es q))

  pub gone_here : (k : K) (es : List (K × X)) → IsMap cmp es → value_at cmp (without_key cmp k es) k ≡ None
  gone_here k es h =
      value_at-without_key o k es k h ∙ ap (λ b. cond b None (value_at cmp es k)) ((eq_by_cmp_equiv o).refl k)

  -- ---- parts

  -- what is left without the names is part of the map before
  pub part_begins : (olds : List (K × Option X)) (before es : List (K × X)) → IsMap cmp es → HoldsOld cmp olds before es → IsPartOf cmp (without_named cmp olds es) before
  part_begins olds before es h held q x at =
      elim (has_member cmp (keys_of olds) q) as (λ b. has_member cmp (keys_of olds) q ≡ b → cond b None (value_at cmp es q) ≡ Some x → value_at cmp before q ≡ Some x) [
        | true ↦ λ t at. cc
        | false ↦ λ t at. sym (held.others q t) ∙ at
      ] refl (sym (gone_at olds es q h) ∙ at)

  part_with : (k : K) (to : Option X) (before es : List (K × X)) → IsMap cmp es → value_at cmp before k ≡ to → IsPartOf cmp es before → IsPartOf cmp (with_option cmp k to es) before
  part_with k to before es h is part q x at =
      elim (eq_by_cmp cmp k q) as (λ b. eq_by_cmp cmp k q ≡ b → cond b to (value_at cmp es q) ≡ Some x → value_at cmp before q ≡ Some x) [
        | true ↦ λ t at. value_at_tied o k q before t ∙ is ∙ at
        | false ↦ λ t at. part q x at
      ] refl (sym (value_at-with_option o k to es q h) ∙ at)

  pub part_old : (olds : List (K × Option X)) (before es : List (K × X)) → IsMap cmp es → AreValues cmp before olds → IsPartOf cmp es before → IsPartOf cmp (with_old cmp olds es) before
  part_old [] before es h values part = part
  part_old (old ∷ olds) before es h values part =
      part_old olds before (with_option cmp old.0 old.1 es) (IsMap-with_option o old.0 old.1 es h) values.1 (part_with old.0 old.1 before es h values.0 part)

  -- a part without its first entry is part of the whole without it
  part_rest : (e : K × X) (es whole : List (K × X)) → AllByRecursion (λ k. cmp e.0 k ≡ Less) (keys_of es) → IsMap cmp whole → IsPartOf cmp (e ∷ es) whole → IsPartOf cmp es (without_key cmp e.0 whole)
  part_rest e es whole above h part q x at =
      value_at-without_key o e.0 whole q h
      ∙ ap (λ b. cond b None (value_at cmp whole q)) ((eq_by_cmp_equiv o).symm e.0 q)
      ∙ elim (eq_by_cmp cmp q e.0) as (λ b. eq_by_cmp cmp q e.0 ≡ b → (cond b (Some e.1) (value_at cmp es q) ≡ Some x → value_at cmp whole q ≡ Some x) → cond b None (value_at cmp whole q) ≡ Some x) [
        | true ↦ λ t part.
            let none : value_at cmp es q ≡ None = none_below cmp q es (all_tied o q e.0 (keys_of es) (is_equal _ t) above) in
            let never : None ≡ Some x = sym none ∙ at in cc
        | false ↦ λ t part. part at
      ] refl (part q x)

  pub sum_part : (f : X → ℕ) (part whole : List (K × X)) → IsMap cmp part → IsMap cmp whole → IsPartOf cmp part whole → sum_values f part ≤ sum_values f whole
  unfolding IsStrictlySortedBy
  sum_part f [] whole g h part = omega arith
  sum_part f (e ∷ es) whole g h part =
      let here : value_at cmp whole e.0 ≡ Some e.1 = part e.0 e.1 (value_at_first o e es) in
      let rest : sum_values f es ≤ sum_values f (without_key cmp e.0 whole) =
      sum_part f es (without_key cmp e.0 whole) g.1 (IsMap-without_key cmp e.0 whole h) (part_rest e es whole g.0 h part) in
      omega (arith, rest, sum_by-cons f e.1 (values_of es), sum_values-without_key f cmp e.0 e.1 whole here)

  -- after each number of old values, the sum is at most that of the map before
  pub sum_on_the_way : (f : X → ℕ) (olds : List (K × Option X)) (before es : List (K × X)) → IsMap cmp before → IsMap cmp es → AreValues cmp before olds → IsPartOf cmp es before → (n : ℕ)
      → sum_values f (with_old cmp (take n olds) es) ≤ sum_values f before
  sum_on_the_way f olds before es g h values part n =
      sum_part f (with_old cmp (take n olds) es) before (kept_old (take n olds) es h) g
      (part_old (take n olds) before es h (taken_values cmp before n olds values) part)

  -- a map without a key adds up to no more
  pub sum_without : (f : X → ℕ) (k : K) (es : List (K × X)) → sum_values f (without_key cmp k es) ≤ sum_values f es
  sum_without f k es =
      elim (value_at cmp es k) as (λ v. value_at cmp es k ≡ v → sum_values f (without_key cmp k es) ≤ sum_values f es) [
        | None ↦ λ e. omega (arith, ap (λ (fs : List (K × X)). sum_values f fs) (without_key_absent cmp k es e))
        | Some x ↦ λ e. omega (arith, sum_values-without_key f cmp k x es e)
      ] refl
