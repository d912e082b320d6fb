-- The entry at a key, with its key in the list.
use Rattle.std.proofs.Common.{◌≡◌, List, [], ◌∷◌, Bool, true, false, cond, is_some, Option, Some, None, option_map, unwrap_or, refl, ap, sym, ◌∙◌}
use Rattle.std.specs.declared.cmp.Ordering.{Ordering}
use Rattle.std.specs.declared.cmp.Ordering.TheVariants.{Less, Equal, Greater}
use Rattle.std.specs.BTreeMap.{is_at}
use Rattle.std.specs.Ordering.{is_eq, eq_by_cmp, match_ordering, ordering_reverse}
use Rattle.std.specs.Cmp.{IsTotalOrder}
use Rattle.std.specs.List.{AllByRecursion}
use Rattle.std.specs.List.Sorted.{IsStrictlySortedBy}
use Rattle.std.specs.Map.{keys_of, lookup_key}
use Rattle.std.proofs.lemmas.Cmp.{eq_by_cmp_equiv, tied_itself}
use Rattle.maps.proofs.Joined.{none_from, swapped}
use Rattle.maps.proofs.Lookups.{without_key_absent}
use Rattle.maps.proofs.Ties.{is_equal, tied, apart, all_above, all_tied}
use Rattle.maps.specs.Maps.{IsMap, value_at, has_key, with_value, without_key}
use Rattle.view_map.specs.View.{entry_at, key_in}

-- a key below all others has no entry
pub none_below : {K X : Type 0} (cmp : K → K → Ordering) (q : K) (es : List (K × X)) → AllByRecursion (λ x. cmp q x ≡ Less) (keys_of es) → entry_at cmp es q ≡ None
none_below cmp q [] h = refl
none_below {K} {X} cmp q (e ∷ es) h = ap (λ r. cond (is_eq r) (Some e) (entry_at cmp es q)) h.0 ∙ none_below cmp q es h.1

-- its value is the value at k
pub value_of-entry : {K X : Type 0} (cmp : K → K → Ordering) (es : List (K × X)) (q : K) → value_at cmp es q ≡ option_map (λ (e : K × X). e.1) (entry_at cmp es q)
value_of-entry cmp [] q = refl
value_of-entry {K} {X} cmp (e ∷ es) q =
    elim (eq_by_cmp cmp q e.0) as (λ b. cond b (Some e.1) (value_at cmp es q) ≡ option_map (λ (e : K × X). e.1) (cond b (Some e) (entry_at cmp es q))) [ true ↦ refl | false ↦ value_of-entry cmp es q ]

-- it is the key in the list with the value there
pub entry_is : {K X : Type 0} (cmp : K → K → Ordering) (es : List (K × X)) (k : K) → entry_at cmp es k ≡ option_map (λ v. (key_in cmp es k, v)) (value_at cmp es k)
entry_is cmp [] k = refl
entry_is {K} {X} cmp (e ∷ es) k =
    elim (eq_by_cmp cmp k e.0) as (λ b. cond b (Some e) (entry_at cmp es k) ≡ option_map (λ v. (unwrap_or (cond b (Some e.0) (lookup_key (is_at (cmp k)) es)) k, v)) (cond b (Some e.1) (value_at cmp es k))) [
      | true ↦ refl
      | false ↦ entry_is cmp es k
    ]

-- its key is the key in the list
pub key_of-entry : {K X : Type 0} (cmp : K → K → Ordering) (es : List (K × X)) (q : K) → key_in cmp es q ≡ unwrap_or (option_map (λ (e : K × X). e.0) (entry_at cmp es q)) q
key_of-entry cmp [] q = refl
key_of-entry {K} {X} cmp (e ∷ es) q =
    elim (eq_by_cmp cmp q e.0) as (λ b. unwrap_or (cond b (Some e.0) (lookup_key (is_at (cmp q)) es)) q ≡ unwrap_or (option_map (λ (e : K × X). e.0) (cond b (Some e) (entry_at cmp es q))) q) [ true ↦ refl | false ↦ key_of-entry cmp es q ]

pub some_entry : {K X : Type 0} (cmp : K → K → Ordering) (es : List (K × X)) (k : K) → has_key cmp es k ≡ is_some (entry_at cmp es k)
some_entry cmp [] k = refl
some_entry {K} {X} cmp (e ∷ es) k = elim (eq_by_cmp cmp k e.0) as (λ b. is_some (cond b (Some e.1) (value_at cmp es k)) ≡ is_some (cond b (Some e) (entry_at cmp es k))) [ true ↦ refl | false ↦ some_entry cmp es k ]

pub no_entry : {K X : Type 0} (cmp : K → K → Ordering) (es : List (K × X)) (k : K) → has_key cmp es k ≡ false → entry_at cmp es k ≡ None
no_entry cmp es k h = none_from (entry_at cmp es k) (sym (some_entry cmp es k) ∙ h)

-- a key that is not in the list leaves nothing behind
pub untouched : {K X : Type 0} (cmp : K → K → Ordering) (k : K) (es : List (K × X)) → has_key cmp es k ≡ false → without_key cmp k es ≡ es
untouched cmp k es h = without_key_absent cmp k es (none_from (value_at cmp es k) h)

-- a key that is not in the list is its own key
key_in-absent : {K X : Type 0} (cmp : K → K → Ordering) (es : List (K × X)) (k : K) → entry_at cmp es k ≡ None → key_in cmp es k ≡ k
key_in-absent cmp [] k m = refl
key_in-absent {K} {X} cmp (e ∷ es) k m =
    elim (eq_by_cmp cmp k e.0) as (λ b. cond b (Some e) (entry_at cmp es k) ≡ None → unwrap_or (cond b (Some e.0) (lookup_key (is_at (cmp k)) es)) k ≡ k) [ true ↦ λ m. cc | false ↦ λ m. key_in-absent cmp es k m ] m

twice : {A : Type 0} (a b : Bool) (x y z : A) → a ≡ b → cond a x z ≡ cond b x (cond a y z)
twice true true x y z e = refl
twice true false x y z e = cc
twice false true x y z e = cc
twice false false x y z e = refl

gone : {A : Type 0} (a b : Bool) (x y z : A) → b ≡ a → (a ≡ true → z ≡ x) → z ≡ cond a x (cond b y z)
gone true true x y z e f = f refl
gone true false x y z e f = cc
gone false true x y z e f = cc
gone false false x y z e f = refl

module _ {K X : Type 0} {cmp : K → K → Ordering} (o : IsTotalOrder cmp) where
  -- keys that tie have the same entry
  pub entry_at-tied : (q k : K) (es : List (K × X)) → eq_by_cmp cmp q k ≡ true → entry_at cmp es q ≡ entry_at cmp es k
  entry_at-tied q k [] t = refl
  entry_at-tied q k (e ∷ es) t =
      ap (λ b. cond b (Some e) (entry_at cmp es q)) ((eq_by_cmp_equiv o).congr q k e.0 t)
      ∙ ap (λ (r : Option (K × X)). cond (eq_by_cmp cmp k e.0) (Some e) r) (entry_at-tied q k es t)

  -- a key ties with its key in a list
  pub key_in-tied : (es : List (K × X)) (k : K) → eq_by_cmp cmp k (key_in cmp es k) ≡ true
  key_in-tied [] k = (eq_by_cmp_equiv o).refl k
  key_in-tied (e ∷ es) k =
      elim (eq_by_cmp cmp k e.0) as (λ b. eq_by_cmp cmp k e.0 ≡ b → eq_by_cmp cmp k (unwrap_or (cond b (Some e.0) (lookup_key (is_at (cmp k)) es)) k) ≡ true) [
        | true ↦ λ t. t
        | false ↦ λ t. key_in-tied es k
      ] refl

  -- a new key
  pub entry_at-with_value_absent : (k : K) (v : X) (es : List (K × X)) (q : K) → entry_at cmp es k ≡ None → entry_at cmp (with_value cmp k v es) q ≡ cond (eq_by_cmp cmp k q) (Some (k, v)) (entry_at cmp es q)
  entry_at-with_value_absent k v [] q m = ap (λ b. cond b (Some (k, v)) None) ((eq_by_cmp_equiv o).symm q k)
  entry_at-with_value_absent k v (e ∷ es) q m =
      elim (cmp k e.0) as (λ r. cmp k e.0 ≡ r → cond (is_eq r) (Some e) (entry_at cmp es k) ≡ None → entry_at cmp (match_ordering r ((k, v) ∷ e ∷ es) ((e.0, v) ∷ es) (e ∷ with_value cmp k v es)) q ≡ cond (eq_by_cmp cmp k q) (Some (k, v)) (entry_at cmp (e ∷ es) q)) [
        | Less ↦ λ p m. ap (λ b. cond b (Some (k, v)) (entry_at cmp (e ∷ es) q)) ((eq_by_cmp_equiv o).symm q k)
        | Equal ↦ λ p m. cc
        | Greater ↦ λ p m. ap (λ (r : Option (K × X)). cond (eq_by_cmp cmp q e.0) (Some e) r) (entry_at-with_value_absent k v es q m) ∙ swapped _ _ _ _ _ (apart o k e.0 q (ap is_eq p))
      ] refl m

  -- what does not tie with the key that is put stays
  pub entry_at-with_value_other : (k : K) (v : X) (es : List (K × X)) (q : K) → eq_by_cmp cmp k q ≡ false → entry_at cmp (with_value cmp k v es) q ≡ entry_at cmp es q
  entry_at-with_value_other k v [] q e = ap (λ b. cond b (Some (k, v)) None) ((eq_by_cmp_equiv o).symm q k ∙ e)
  entry_at-with_value_other k v (f ∷ es) q e =
      elim (cmp k f.0) as (λ r. cmp k f.0 ≡ r → entry_at cmp (match_ordering r ((k, v) ∷ f ∷ es) ((f.0, v) ∷ es) (f ∷ with_value cmp k v es)) q ≡ entry_at cmp (f ∷ es) q) [
        | Less ↦ λ p. ap (λ b. cond b (Some (k, v)) (entry_at cmp (f ∷ es) q)) ((eq_by_cmp_equiv o).symm q k ∙ e)
        | Equal ↦ λ p. ap (λ b. cond b (Some (f.0, v)) (entry_at cmp es q)) (tied o k f.0 q (ap is_eq p) ∙ e) ∙ sym (ap (λ b. cond b (Some f) (entry_at cmp es q)) (tied o k f.0 q (ap is_eq p) ∙ e))
        | Greater ↦ λ p. ap (λ (r : Option (K × X)). cond (eq_by_cmp cmp q f.0) (Some f) r) (entry_at-with_value_other k v es q e)
      ] refl

  -- the key in the list of a key that is put
  pub entry_at-with_value : (k : K) (v : X) (es : List (K × X)) (q : K) → IsMap cmp es
      → entry_at cmp (with_value cmp k v es) q ≡ cond (eq_by_cmp cmp (key_in cmp es k) q) (Some (key_in cmp es k, v)) (entry_at cmp es q)
  unfolding IsStrictlySortedBy
  entry_at-with_value k v [] q h = ap (λ b. cond b (Some (k, v)) None) ((eq_by_cmp_equiv o).symm q k)
  entry_at-with_value k v (e ∷ es) q h =
      let place : Ordering → K = λ r. unwrap_or (cond (is_eq r) (Some e.0) (lookup_key (is_at (cmp k)) es)) k in
      elim (cmp k e.0) as (λ r. cmp k e.0 ≡ r → entry_at cmp (match_ordering r ((k, v) ∷ e ∷ es) ((e.0, v) ∷ es) (e ∷ with_value cmp k v es)) q ≡ cond (eq_by_cmp cmp (place r) q) (Some (place r, v)) (entry_at cmp (e ∷ es) q)) [
        | Less ↦ λ p.
            let none : entry_at cmp es k ≡ None = none_below cmp k es (all_above o k e.0 (keys_of es) p h.0) in
            let here : key_in cmp es k ≡ k = key_in-absent cmp es k none in
            ap (λ b. cond b (Some (k, v)) (entry_at cmp (e ∷ es) q)) ((eq_by_cmp_equiv o).symm q k)
            ∙ sym (ap (λ j. cond (eq_by_cmp cmp j q) (Some (j, v)) (entry_at cmp (e ∷ es) q)) here)
        | Equal ↦ λ p. twice _ _ _ _ _ ((eq_by_cmp_equiv o).symm q e.0)
        | Greater ↦ λ p.
            let j = key_in cmp es k in
            let other : eq_by_cmp cmp j e.0 ≡ false = sym ((eq_by_cmp_equiv o).congr k j e.0 (key_in-tied es k)) ∙ ap is_eq p in
            ap (λ (r : Option (K × X)). cond (eq_by_cmp cmp q e.0) (Some e) r) (entry_at-with_value k v es q h.1) ∙ swapped _ _ _ _ _ (apart o j e.0 q other)
      ] refl

  pub entry_at-without_key : (k : K) (es : List (K × X)) (q : K) → IsMap cmp es → entry_at cmp (without_key cmp k es) q ≡ cond (eq_by_cmp cmp k q) None (entry_at cmp es q)
  unfolding IsStrictlySortedBy
  entry_at-without_key k [] q h = elim (eq_by_cmp cmp k q) as (λ b. ◌≡◌ {A = Option (K × X)} None (cond b None None)) [ true ↦ refl | false ↦ refl ]
  entry_at-without_key k (e ∷ es) q h =
      elim (eq_by_cmp cmp k e.0) as (λ b. eq_by_cmp cmp k e.0 ≡ b → entry_at cmp (cond b es (e ∷ without_key cmp k es)) q ≡ cond (eq_by_cmp cmp k q) None (entry_at cmp (e ∷ es) q)) [
        | true ↦ λ t. gone _ _ _ _ _ (tied o k e.0 q t) (λ u. none_below cmp q es (all_tied o q e.0 (keys_of es) (is_equal _ (tied o k e.0 q t ∙ u)) h.0))
        | false ↦ λ t. ap (λ (r : Option (K × X)). cond (eq_by_cmp cmp q e.0) (Some e) r) (entry_at-without_key k es q h.1) ∙ swapped _ _ _ _ _ (apart o k e.0 q t)
      ] refl

  -- a new key that is taken away again leaves nothing behind
  pub without_key-with_value : (k j : K) (v : X) (es : List (K × X)) → eq_by_cmp cmp k j ≡ true → entry_at cmp es k ≡ None → without_key cmp k (with_value cmp j v es) ≡ es
  without_key-with_value k j v [] t m = ap (λ b. cond b [] ((j, v) ∷ [])) t
  without_key-with_value k j v (e ∷ es) t m =
      elim (eq_by_cmp cmp k e.0) as (λ b. eq_by_cmp cmp k e.0 ≡ b → cond b (Some e) (entry_at cmp es k) ≡ None → without_key cmp k (with_value cmp j v (e ∷ es)) ≡ e ∷ es) [
        | true ↦ λ u m. cc
        | false ↦ λ u m.
            elim (cmp j e.0) as (λ r. cmp j e.0 ≡ r → without_key cmp k (match_ordering r ((j, v) ∷ e ∷ es) ((e.0, v) ∷ es) (e ∷ with_value cmp j v es)) ≡ e ∷ es) [
              | Less ↦ λ p. ap (λ b. cond b (e ∷ es) ((j, v) ∷ without_key cmp k (e ∷ es))) t
              | Equal ↦ λ p. let yes : eq_by_cmp cmp k e.0 ≡ true = (eq_by_cmp_equiv o).congr k j e.0 t ∙ ap is_eq p in cc
              | Greater ↦ λ p. ap (λ b. cond b (with_value cmp j v es) (e ∷ without_key cmp k (with_value cmp j v es))) u ∙ ap (λ (l : List (K × X)). e ∷ l) (without_key-with_value k j v es t m)
            ] refl
      ] refl m

  pub entry_at_first : (e : K × X) (es : List (K × X)) → entry_at cmp (e ∷ es) e.0 ≡ Some e
  entry_at_first e es = ap (λ r. cond (is_eq r) (Some e) (entry_at cmp es e.0)) (tied_itself o e.0)

  -- a map whose first key is above e's has nothing there
  not_both : {A : Type 0} (e f : K × X) (es fs : List (K × X)) → cmp e.0 f.0 ≡ Less → AllByRecursion (λ q. cmp f.0 q ≡ Less) (keys_of fs) → entry_at cmp (e ∷ es) e.0 ≡ entry_at cmp (f ∷ fs) e.0 → A
  not_both e f es fs p h is =
      let here : entry_at cmp (e ∷ es) e.0 ≡ Some e = entry_at_first e es in
      let there : entry_at cmp (f ∷ fs) e.0 ≡ None = none_below cmp e.0 (f ∷ fs) (p, all_above o e.0 f.0 (keys_of fs) p h) in
      cc

  -- behind a first entry, below all others
  behind : (e : K × X) (es fs : List (K × X)) (q : K) → AllByRecursion (λ x. cmp e.0 x ≡ Less) (keys_of es) → AllByRecursion (λ x. cmp e.0 x ≡ Less) (keys_of fs)
      → entry_at cmp (e ∷ es) q ≡ entry_at cmp (e ∷ fs) q → entry_at cmp es q ≡ entry_at cmp fs q
  behind e es fs q g h is =
      elim (eq_by_cmp cmp q e.0) as (λ b. eq_by_cmp cmp q e.0 ≡ b → cond b (Some e) (entry_at cmp es q) ≡ cond b (Some e) (entry_at cmp fs q) → entry_at cmp es q ≡ entry_at cmp fs q) [
        | true ↦ λ t is. none_below cmp q es (all_tied o q e.0 (keys_of es) (is_equal _ t) g) ∙ sym (none_below cmp q fs (all_tied o q e.0 (keys_of fs) (is_equal _ t) h))
        | false ↦ λ t is. is
      ] refl is

  -- maps with the same entry at each key are equal
  pub map_from_entry_at : (es fs : List (K × X)) → IsMap cmp es → IsMap cmp fs → ((q : K) → entry_at cmp es q ≡ entry_at cmp fs q) → es ≡ fs
  unfolding IsStrictlySortedBy
  map_from_entry_at [] [] g h is = refl
  map_from_entry_at [] (f ∷ fs) g h is = let here = entry_at_first f fs in let there = is f.0 in cc
  map_from_entry_at (e ∷ es) [] g h is = let here = entry_at_first e es in let there = is e.0 in cc
  map_from_entry_at (e ∷ es) (f ∷ fs) g h is =
      elim (cmp e.0 f.0) as (λ r. cmp e.0 f.0 ≡ r → e ∷ es ≡ f ∷ fs) [
        | Less ↦ λ p. not_both e f es fs p h.0 (is e.0)
        | Greater ↦ λ p. not_both f e fs es (o.antisymm f.0 e.0 ∙ ap ordering_reverse p) g.0 (sym (is f.0))
        | Equal ↦ λ p.
            let here : entry_at cmp (e ∷ es) e.0 ≡ Some e = entry_at_first e es in
            let there : entry_at cmp (f ∷ fs) e.0 ≡ Some f = ap (λ r. cond (is_eq r) (Some f) (entry_at cmp fs e.0)) p in
            let at : entry_at cmp (e ∷ es) e.0 ≡ entry_at cmp (f ∷ fs) e.0 = is e.0 in
            let first : e ≡ f = cc in
            let rest : es ≡ fs = map_from_entry_at es fs g.1 h.1 (λ q. behind e es fs q g.0 (all_tied o e.0 f.0 (keys_of fs) p h.0) (is q ∙ ap (λ x. entry_at cmp (x ∷ fs) q) (sym first))) in
            λ i. first i ∷ rest i
      ] refl
