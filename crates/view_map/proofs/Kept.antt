-- What is kept beside the live entries, when one changes, goes or is noted.
use Rattle.std.proofs.Common.{◌≡◌, ℕ, ◌+◌, ◌≤◌, List, [], ◌∷◌, Bool, true, false, not, cond, ◌&&◌, ◌||◌, is_some, length, Option, Some, None, option_map, unwrap_or, refl, ap, sym, subst, ◌∙◌, arith}
use Rattle.std.specs.declared.cmp.Ordering.{Ordering}
use Rattle.std.specs.declared.cmp.Ordering.TheVariants.{Less, Equal, Greater}
use Rattle.std.specs.Ordering.{is_eq, eq_by_cmp, match_ordering}
use Rattle.std.specs.List.Sorted.{IsStrictlySortedBy}
use Rattle.std.specs.Map.{keys_of, set_value}
use Rattle.std.specs.BTreeMap.{is_at}
use Rattle.std.proofs.lemmas.Map.Made.{lookup-map_values}
use Rattle.std.specs.Cmp.{IsTotalOrder}
use Rattle.std.specs.Option.{option_and_then, option_or}
use Rattle.std.proofs.lemmas.Cmp.{eq_by_cmp_equiv}
use Rattle.maps.proofs.Joined.{and_false}
use Rattle.maps.proofs.Kept.{IsMap-with_value, IsMap-without_key}
use Rattle.maps.proofs.Lookups.{none_below, has_key-with_value, has_key-without_key}
use Rattle.maps.proofs.Placed.{set_value-with_value}
use Rattle.maps.proofs.Ties.{all_above}
use Rattle.maps.specs.Maps.{IsMap, value_at, has_key, with_value, without_key}
use Rattle.maps.specs.Replaced.{with_option}
use Rattle.view_map.specs.Marks.{Marks, IsMarked, AllBefore, AllMarked, unchanged_value, values_in, unchanged_in, kept_with, view_of}
use Rattle.view_map.specs.View.{IsInOrder, entry_at, key_in}
use Rattle.view_map.specs.Walk.{merged}
use Rattle.view_map.proofs.Entries.{untouched, entry_at-tied, key_in-tied, key_of-entry, some_entry, no_entry, entry_at-with_value, entry_at-with_value_absent, entry_at-without_key, map_from_entry_at}
use Rattle.view_map.proofs.Changed.{same_value}
use Rattle.view_map.proofs.Marks.{nothing_there, IsMap-unchanged, IsMap-values, unchanged_there, unchanged-with_value, unchanged-without_key, values-with_value, values-without_key, marked-with_value, marked-without_key, marked-before, all_unchanged, length-values, same_keys}
use Rattle.view_map.proofs.Merged.{IsMap-merged, entry_at-merged}

module _ {A : Type 0} where
  moved : (a b : Bool) (p : A) (s l : Option A) → a ≡ b → (b ≡ true → s ≡ None) → (b ≡ true → l ≡ Some p) → option_or (cond a (Some p) s) (cond b None l) ≡ option_or s l
  moved true true p s l e f g = sym ((λ i. option_or (f refl i) (g refl i)))
  moved true false p s l e f g = cc
  moved false true p s l e f g = cc
  moved false false p s l e f g = refl

  left : (b : Bool) (s l : Option A) → (b ≡ true → l ≡ None) → option_or s (cond b None l) ≡ option_or s l
  left true s l g = ap (λ (l : Option A). option_or s l) (sym (g refl))
  left false s l g = refl

  both_gone : (a b : Bool) (s l : Option A) → a ≡ b → option_or (cond a None s) (cond b None l) ≡ cond b None (option_or s l)
  both_gone true true s l e = refl
  both_gone true false s l e = cc
  both_gone false true s l e = cc
  both_gone false false s l e = refl

  noted_in : (a b : Bool) (p : A) (s l : Option A) → a ≡ b → option_or (cond a (Some p) s) (cond b None l) ≡ cond a (Some p) (option_or s l)
  noted_in true true p s l e = refl
  noted_in true false p s l e = cc
  noted_in false true p s l e = cc
  noted_in false false p s l e = refl

same_place : {K V : Type 0} (s l : Option (K × V)) (k : K) → unwrap_or (option_map (λ (e : K × V). e.0) s) (unwrap_or (option_map (λ (e : K × V). e.0) (option_or s l)) k) ≡ unwrap_or (option_map (λ (e : K × V). e.0) (option_or s l)) k
same_place None l k = refl
same_place (Some p) l k = refl

second : (a b : Bool) → (a && b) ≡ true → b ≡ true
second true b e = e
second false b e = cc

length-without_key : {K X : Type 0} (cmp : K → K → Ordering) (k : K) (es : List (K × X)) → length (without_key cmp k es) + cond (has_key cmp es k) 1 0 ≡ length es
length-without_key cmp k [] = refl
length-without_key {K} {X} cmp k (e ∷ es) =
    elim (eq_by_cmp cmp k e.0) as (λ b. length (cond b es (e ∷ without_key cmp k es)) + cond (is_some (cond b (Some e.1) (value_at cmp es k))) 1 0 ≡ length (e ∷ es)) [
      | true ↦ omega arith
      | false ↦ omega (arith, length-without_key cmp k es)
    ]

pub some_length : {K X : Type 0} (cmp : K → K → Ordering) (k : K) (es : List (K × X)) → cond (has_key cmp es k) 1 0 ≤ length es
some_length cmp k es = omega (arith, length-without_key cmp k es)

module _ {K V : Type 0} {cmp : K → K → Ordering} (o : IsTotalOrder cmp) where
  -- nothing is kept at a key that has an entry among the others
  none_kept : (k j : K) (v : V) (kept u : List (K × V)) → (has_key cmp kept k ≡ true → has_key cmp u k ≡ false) → entry_at cmp u k ≡ Some (j, v) → entry_at cmp kept k ≡ None
  none_kept k j v kept u apart there =
      elim (has_key cmp kept k) as (λ b. has_key cmp kept k ≡ b → entry_at cmp kept k ≡ None) [
        | true ↦ λ t. let no : is_some (entry_at cmp u k) ≡ false = sym (some_entry cmp u k) ∙ apart t in cc
        | false ↦ λ t. no_entry cmp kept k t
      ] refl

  -- an entry that changes is kept, and the list stays
  pub merged-kept : (k j : K) (x : Option V) (kept u : List (K × V)) → IsMap cmp kept → IsMap cmp u → eq_by_cmp cmp k j ≡ true → entry_at cmp u k ≡ option_map (λ v. (j, v)) x
      → ((q : K) → has_key cmp kept q ≡ true → has_key cmp u q ≡ false) → merged cmp (kept_with cmp j x kept) (without_key cmp k u) ≡ merged cmp kept u
  merged-kept k j None kept u g h t there apart =
      let away : IsMap cmp (without_key cmp k u) = IsMap-without_key cmp k u h in
      map_from_entry_at o _ _ (IsMap-merged o kept _ g away) (IsMap-merged o kept u g h) (λ q.
      entry_at-merged o kept _ q g away
      ∙ ap (λ (l : Option (K × V)). option_or (entry_at cmp kept q) l) (entry_at-without_key o k u q h)
      ∙ left (eq_by_cmp cmp k q) (entry_at cmp kept q) (entry_at cmp u q) (λ e. sym (entry_at-tied o k q u e) ∙ there)
      ∙ sym (entry_at-merged o kept u q g h))
  merged-kept k j (Some v) kept u g h t there apart =
      let away : IsMap cmp (without_key cmp k u) = IsMap-without_key cmp k u h in
      let more : IsMap cmp (with_value cmp j v kept) = IsMap-with_value o j v kept g in
      let none : entry_at cmp kept k ≡ None = none_kept k j v kept u (apart k) there in
      map_from_entry_at o _ _ (IsMap-merged o _ _ more away) (IsMap-merged o kept u g h) (λ q.
      entry_at-merged o _ _ q more away
      ∙ (λ i. option_or (entry_at-with_value_absent o j v kept q (sym (entry_at-tied o k j kept t) ∙ none) i) (entry_at-without_key o k u q h i))
      ∙ moved (eq_by_cmp cmp j q) (eq_by_cmp cmp k q) (j, v) (entry_at cmp kept q) (entry_at cmp u q) (sym ((eq_by_cmp_equiv o).congr k j q t))
      (λ e. sym (entry_at-tied o k q kept e) ∙ none) (λ e. sym (entry_at-tied o k q u e) ∙ there)
      ∙ sym (entry_at-merged o kept u q g h))

  apart-less : (k : K) (kept u : List (K × V)) → IsMap cmp u → ((q : K) → has_key cmp kept q ≡ true → has_key cmp u q ≡ false) → (q : K) → has_key cmp kept q ≡ true → has_key cmp (without_key cmp k u) q ≡ false
  apart-less k kept u h apart q there = has_key-without_key o k u q h ∙ ap (λ b. not (eq_by_cmp cmp k q) && b) (apart q there) ∙ and_false (not (eq_by_cmp cmp k q))

  apart-value : (k j : K) (v : V) (kept u : List (K × V)) → IsMap cmp u → eq_by_cmp cmp k j ≡ true → ((q : K) → has_key cmp kept q ≡ true → has_key cmp u q ≡ false)
      → (q : K) → has_key cmp (with_value cmp j v kept) q ≡ true → has_key cmp (without_key cmp k u) q ≡ false
  apart-value k j v kept u h t apart q there =
      elim (eq_by_cmp cmp k q) as (λ b. eq_by_cmp cmp k q ≡ b → has_key cmp (without_key cmp k u) q ≡ false) [
        | true ↦ λ e. has_key-without_key o k u q h ∙ ap (λ b. not b && has_key cmp u q) e
        | false ↦ λ e.
            let other : eq_by_cmp cmp j q ≡ false = sym ((eq_by_cmp_equiv o).congr k j q t) ∙ e in
            apart-less k kept u h apart q (sym (has_key-with_value o j v kept q ∙ ap (λ b. b || has_key cmp kept q) other) ∙ there)
      ] refl

  pub apart-kept : (k j : K) (x : Option V) (kept u : List (K × V)) → IsMap cmp u → eq_by_cmp cmp k j ≡ true → ((q : K) → has_key cmp kept q ≡ true → has_key cmp u q ≡ false)
      → (q : K) → has_key cmp (kept_with cmp j x kept) q ≡ true → has_key cmp (without_key cmp k u) q ≡ false
  apart-kept k j None kept u h t apart q there = apart-less k kept u h apart q there
  apart-kept k j (Some v) kept u h t apart q there = apart-value k j v kept u h t apart q there

  pub apart-noted : (k j : K) (x : Option V) (kept u : List (K × V)) → IsMap cmp kept → IsMap cmp u → eq_by_cmp cmp k j ≡ true → ((q : K) → has_key cmp kept q ≡ true → has_key cmp u q ≡ false)
      → (q : K) → has_key cmp (with_option cmp j x kept) q ≡ true → has_key cmp (without_key cmp k u) q ≡ false
  apart-noted k j None kept u g h t apart q there = apart-less k kept u h apart q (second (not (eq_by_cmp cmp j q)) (has_key cmp kept q) (sym (has_key-without_key o j kept q g) ∙ there))
  apart-noted k j (Some v) kept u g h t apart q there = apart-value k j v kept u h t apart q there

  length-with_value : (k : K) (v : V) (es : List (K × V)) → IsMap cmp es → length (with_value cmp k v es) + cond (has_key cmp es k) 1 0 ≡ length es + 1
  unfolding IsStrictlySortedBy
  length-with_value k v [] h = refl
  length-with_value k v (e ∷ es) h =
      elim (cmp k e.0) as (λ r. cmp k e.0 ≡ r → length (match_ordering r ((k, v) ∷ e ∷ es) ((e.0, v) ∷ es) (e ∷ with_value cmp k v es)) + cond (is_some (cond (is_eq r) (Some e.1) (value_at cmp es k))) 1 0 ≡ length (e ∷ es) + 1) [
        | Less ↦ λ l. omega (arith, ap {B = ℕ} (λ (x : Option V). cond (is_some x) 1 0) (none_below cmp k es (all_above o k e.0 (keys_of es) l h.0)))
        | Equal ↦ λ l. omega arith
        | Greater ↦ λ l. omega (arith, length-with_value k v es h.1)
      ] refl

  pub IsMap-kept : (j : K) (x : Option V) (kept : List (K × V)) → IsMap cmp kept → IsMap cmp (kept_with cmp j x kept)
  IsMap-kept j None kept g = g
  IsMap-kept j (Some v) kept g = IsMap-with_value o j v kept g

  pub IsMap-option : (j : K) (x : Option V) (es : List (K × V)) → IsMap cmp es → IsMap cmp (with_option cmp j x es)
  IsMap-option j None es g = IsMap-without_key cmp j es g
  IsMap-option j (Some v) es g = IsMap-with_value o j v es g

  -- a note at a key, as it is in the list, is noted in the list
  pub merged-noted : (k : K) (x : Option V) (kept u : List (K × V)) → IsMap cmp kept → IsMap cmp u
      → merged cmp (with_option cmp (key_in cmp (merged cmp kept u) k) x kept) (without_key cmp k u) ≡ with_option cmp k x (merged cmp kept u)
  merged-noted k None kept u g h =
      let all : List (K × V) = merged cmp kept u in
      let j : K = key_in cmp all k in
      let sorted : IsMap cmp all = IsMap-merged o kept u g h in
      let away : IsMap cmp (without_key cmp k u) = IsMap-without_key cmp k u h in
      let less : IsMap cmp (without_key cmp j kept) = IsMap-without_key cmp j kept g in
      map_from_entry_at o _ _ (IsMap-merged o _ _ less away) (IsMap-without_key cmp k all sorted) (λ q.
      entry_at-merged o _ _ q less away
      ∙ (λ i. option_or (entry_at-without_key o j kept q g i) (entry_at-without_key o k u q h i))
      ∙ both_gone (eq_by_cmp cmp j q) (eq_by_cmp cmp k q) (entry_at cmp kept q) (entry_at cmp u q) (sym ((eq_by_cmp_equiv o).congr k j q (key_in-tied o all k)))
      ∙ ap (λ (r : Option (K × V)). cond (eq_by_cmp cmp k q) None r) (sym (entry_at-merged o kept u q g h))
      ∙ sym (entry_at-without_key o k all q sorted))
  merged-noted k (Some v) kept u g h =
      let all : List (K × V) = merged cmp kept u in
      let j : K = key_in cmp all k in
      let sorted : IsMap cmp all = IsMap-merged o kept u g h in
      let ties : eq_by_cmp cmp k j ≡ true = key_in-tied o all k in
      let away : IsMap cmp (without_key cmp k u) = IsMap-without_key cmp k u h in
      let more : IsMap cmp (with_value cmp j v kept) = IsMap-with_value o j v kept g in
      let place : j ≡ unwrap_or (option_map (λ (e : K × V). e.0) (option_or (entry_at cmp kept k) (entry_at cmp u k))) k =
      key_of-entry cmp all k ∙ ap (λ (r : Option (K × V)). unwrap_or (option_map (λ (e : K × V). e.0) r) k) (entry_at-merged o kept u k g h) in
      let here : key_in cmp kept j ≡ j =
      key_of-entry cmp kept j ∙ ap (λ (r : Option (K × V)). unwrap_or (option_map (λ (e : K × V). e.0) r) j) (sym (entry_at-tied o k j kept ties))
      ∙ ap (λ (x : K). unwrap_or (option_map (λ (e : K × V). e.0) (entry_at cmp kept k)) x) place
      ∙ same_place (entry_at cmp kept k) (entry_at cmp u k) k ∙ sym place in
      map_from_entry_at o _ _ (IsMap-merged o _ _ more away) (IsMap-with_value o k v all sorted) (λ q.
      entry_at-merged o _ _ q more away
      ∙ (λ i. option_or (entry_at-with_value o j v kept q g i) (entry_at-without_key o k u q h i))
      ∙ ap (λ (x : K). option_or (cond (eq_by_cmp cmp x q) (Some (x, v)) (entry_at cmp kept q)) (cond (eq_by_cmp cmp k q) None (entry_at cmp u q))) here
      ∙ noted_in (eq_by_cmp cmp j q) (eq_by_cmp cmp k q) (j, v) (entry_at cmp kept q) (entry_at cmp u q) (sym ((eq_by_cmp_equiv o).congr k j q ties))
      ∙ ap (λ (r : Option (K × V)). cond (eq_by_cmp cmp j q) (Some (j, v)) r) (sym (entry_at-merged o kept u q g h))
      ∙ sym (entry_at-with_value o k v all q sorted))

  length-option : (k : K) (x : Option V) (es : List (K × V)) → IsMap cmp es → length (with_option cmp k x es) + cond (has_key cmp es k) 1 0 ≡ length es + cond (is_some x) 1 0
  length-option k None es h = omega (arith, length-without_key cmp k es)
  length-option k (Some v) es h = length-with_value k v es h

  -- the marks once the entry at k has changed or gone, and what was there is kept
  pub changed : (k : K) (m : Marks K V) → IsMarked cmp m → (es : List (K × (V × ℕ))) (kept : List (K × V)) → IsMap cmp es → AllMarked m.mark es
      → unchanged_in m.mark es ≡ without_key cmp k (unchanged_in m.mark m.live)
      → kept ≡ kept_with cmp (key_in cmp m.live k) (option_and_then (unchanged_value m.mark) (value_at cmp m.live k)) m.kept
      → (merged cmp kept (unchanged_in m.mark es) ≡ merged cmp m.kept (unchanged_in m.mark m.live)) × IsMarked cmp (record { live = es; kept = kept; mark = m.mark; frozen_len = m.frozen_len })
  changed k m h es kept sorted marks u is =
      let j : K = key_in cmp m.live k in
      let x : Option V = option_and_then (unchanged_value m.mark) (value_at cmp m.live k) in
      let left : IsMap cmp (unchanged_in m.mark m.live) = IsMap-unchanged cmp m.mark m.live h.live in
      let ties : eq_by_cmp cmp k j ≡ true = key_in-tied o m.live k in
      let stays : merged cmp kept (unchanged_in m.mark es) ≡ merged cmp m.kept (unchanged_in m.mark m.live) =
      (λ i. merged cmp (is i) (u i)) ∙ merged-kept k j x m.kept (unchanged_in m.mark m.live) h.kept left ties (unchanged_there o m.mark k m.live h.live) h.apart in (
        stays,
        record {
          live = sorted;
          kept = subst (λ (es : List (K × V)). IsMap cmp es) (sym is) (IsMap-kept j x m.kept h.kept);
          apart = subst (λ (es : List (K × V)). (q : K) → has_key cmp kept q ≡ true → has_key cmp es q ≡ false) (sym u)
              (subst (λ (kept : List (K × V)). (q : K) → has_key cmp kept q ≡ true → has_key cmp (without_key cmp k (unchanged_in m.mark m.live)) q ≡ false) (sym is)
              (apart-kept k j x m.kept (unchanged_in m.mark m.live) left ties h.apart));
          marks = marks;
          counted = h.counted ∙ ap (λ (l : List (K × V)). length l) (sym stays);
        },
      )

  -- a value that is put
  pub put-changed : (k j : K) (v : V) (before : Option (V × ℕ)) (m : Marks K V) → IsMarked cmp m → (es : List (K × (V × ℕ))) (kept : List (K × V)) → es ≡ with_value cmp k (v, m.mark) m.live
      → j ≡ key_in cmp m.live k → before ≡ value_at cmp m.live k → kept ≡ kept_with cmp j (option_and_then (unchanged_value m.mark) before) m.kept
      → (view_of cmp (record { live = es; kept = kept; mark = m.mark; frozen_len = m.frozen_len }) ≡ record (view_of cmp m) { live = with_value cmp k v (values_in m.live) })
      × IsMarked cmp (record { live = es; kept = kept; mark = m.mark; frozen_len = m.frozen_len })
  put-changed k j v before m h es kept e key value is =
      let sorted : IsMap cmp es = subst (λ (es : List (K × (V × ℕ))). IsMap cmp es) (sym e) (IsMap-with_value o k (v, m.mark) m.live h.live) in
      let marks : AllMarked m.mark es = subst (λ (es : List (K × (V × ℕ))). AllMarked m.mark es) (sym e) (marked-with_value cmp m.mark k (v, m.mark) m.live (omega arith) h.marks) in
      let both = changed k m h es kept sorted marks (ap (λ (es : List (K × (V × ℕ))). unchanged_in m.mark es) e ∙ unchanged-with_value o m.mark k v m.live h.live)
      (is ∙ (λ i. kept_with cmp (key i) (option_and_then (unchanged_value m.mark) (value i)) m.kept)) in
      let live : values_in es ≡ with_value cmp k v (values_in m.live) = ap (λ (es : List (K × (V × ℕ))). values_in es) e ∙ values-with_value cmp k (v, m.mark) m.live in
      ((λ i. record { live = live i; frozen = both.0 i }), both.1)

  -- an entry that goes
  pub gone-changed : (k j : K) (before : Option (V × ℕ)) (m : Marks K V) → IsMarked cmp m → (es : List (K × (V × ℕ))) (kept : List (K × V)) → es ≡ without_key cmp k m.live
      → j ≡ key_in cmp m.live k → before ≡ value_at cmp m.live k → kept ≡ kept_with cmp j (option_and_then (unchanged_value m.mark) before) m.kept
      → (view_of cmp (record { live = es; kept = kept; mark = m.mark; frozen_len = m.frozen_len }) ≡ record (view_of cmp m) { live = without_key cmp k (values_in m.live) })
      × IsMarked cmp (record { live = es; kept = kept; mark = m.mark; frozen_len = m.frozen_len })
  gone-changed k j before m h es kept e key value is =
      let sorted : IsMap cmp es = subst (λ (es : List (K × (V × ℕ))). IsMap cmp es) (sym e) (IsMap-without_key cmp k m.live h.live) in
      let marks : AllMarked m.mark es = subst (λ (es : List (K × (V × ℕ))). AllMarked m.mark es) (sym e) (marked-without_key cmp m.mark k m.live h.marks) in
      let both = changed k m h es kept sorted marks (ap (λ (es : List (K × (V × ℕ))). unchanged_in m.mark es) e ∙ unchanged-without_key o m.mark k m.live h.live)
      (is ∙ (λ i. kept_with cmp (key i) (option_and_then (unchanged_value m.mark) (value i)) m.kept)) in
      let live : values_in es ≡ without_key cmp k (values_in m.live) = ap (λ (es : List (K × (V × ℕ))). values_in es) e ∙ values-without_key cmp k m.live in
      ((λ i. record { live = live i; frozen = both.0 i }), both.1)

  -- any change of one entry
  pub all-changed : (k : K) (after : Option V) (m : Marks K V) → IsMarked cmp m → (es : List (K × (V × ℕ))) (kept : List (K × V)) → es ≡ with_option cmp k (option_map (λ v. (v, m.mark)) after) m.live
      → kept ≡ kept_with cmp (key_in cmp m.live k) (option_and_then (unchanged_value m.mark) (value_at cmp m.live k)) m.kept
      → (view_of cmp (record { live = es; kept = kept; mark = m.mark; frozen_len = m.frozen_len }) ≡ record (view_of cmp m) { live = with_option cmp k after (values_in m.live) })
      × IsMarked cmp (record { live = es; kept = kept; mark = m.mark; frozen_len = m.frozen_len })
  all-changed k None m h es kept e is = gone-changed k (key_in cmp m.live k) (value_at cmp m.live k) m h es kept e refl refl is
  all-changed k (Some v) m h es kept e is = put-changed k (key_in cmp m.live k) v (value_at cmp m.live k) m h es kept e refl refl is

  -- a freeze
  pub frozen-changed : (m : Marks K V) → IsMarked cmp m → (es : List (K × (V × ℕ))) (kept : List (K × V)) (mark len : ℕ) → values_in es ≡ values_in m.live → AllBefore mark es → kept ≡ [] → len ≡ length es
      → (view_of cmp (record { live = es; kept = kept; mark = mark; frozen_len = len }) ≡ record (view_of cmp m) { frozen = values_in m.live })
      × IsMarked cmp (record { live = es; kept = kept; mark = mark; frozen_len = len })
  unfolding IsStrictlySortedBy
  frozen-changed m h es kept mark len live before none count =
      let all : merged cmp kept (unchanged_in mark es) ≡ values_in es = ap (λ (kept : List (K × V)). merged cmp kept (unchanged_in mark es)) none ∙ all_unchanged mark es before in (
        (λ i. record { live = live i; frozen = (all ∙ live) i }),
        record {
          live = same_keys cmp es m.live live h.live;
          kept = subst (λ (es : List (K × V)). IsMap cmp es) (sym none) tt;
          apart = subst (λ (kept : List (K × V)). (q : K) → has_key cmp kept q ≡ true → has_key cmp (unchanged_in mark es) q ≡ false) (sym none) (λ q h. cc);
          marks = marked-before mark es before;
          counted = count ∙ sym (length-values es) ∙ ap (λ (l : List (K × V)). length l) (sym all);
        },
      )

  -- a note
  pub noted-changed : (k : K) (x : Option V) (m : Marks K V) → IsMarked cmp m → (es : List (K × (V × ℕ))) (kept : List (K × V)) (j : K) (len : ℕ) → IsMap cmp es → AllMarked m.mark es → values_in es ≡ values_in m.live
      → unchanged_in m.mark es ≡ without_key cmp k (unchanged_in m.mark m.live) → j ≡ key_in cmp (merged cmp m.kept (unchanged_in m.mark m.live)) k → kept ≡ with_option cmp j x m.kept
      → len + cond (has_key cmp (merged cmp m.kept (unchanged_in m.mark m.live)) k) 1 0 ≡ m.frozen_len + cond (is_some x) 1 0
      → (view_of cmp (record { live = es; kept = kept; mark = m.mark; frozen_len = len }) ≡ record (view_of cmp m) { frozen = with_option cmp k x (merged cmp m.kept (unchanged_in m.mark m.live)) })
      × IsMarked cmp (record { live = es; kept = kept; mark = m.mark; frozen_len = len })
  noted-changed k x m h es kept j len sorted marks live u key is count =
      let left : IsMap cmp (unchanged_in m.mark m.live) = IsMap-unchanged cmp m.mark m.live h.live in
      let all : List (K × V) = merged cmp m.kept (unchanged_in m.mark m.live) in
      let at : kept ≡ with_option cmp (key_in cmp all k) x m.kept = is ∙ ap (λ (j : K). with_option cmp j x m.kept) key in
      let stays : merged cmp kept (unchanged_in m.mark es) ≡ with_option cmp k x all = (λ i. merged cmp (at i) (u i)) ∙ merged-noted k x m.kept (unchanged_in m.mark m.live) h.kept left in (
        (λ i. record { live = live i; frozen = stays i }),
        record {
          live = sorted;
          kept = subst (λ (es : List (K × V)). IsMap cmp es) (sym at) (IsMap-option (key_in cmp all k) x m.kept h.kept);
          apart = subst (λ (es : List (K × V)). (q : K) → has_key cmp kept q ≡ true → has_key cmp es q ≡ false) (sym u)
              (subst (λ (kept : List (K × V)). (q : K) → has_key cmp kept q ≡ true → has_key cmp (without_key cmp k (unchanged_in m.mark m.live)) q ≡ false) (sym at)
              (apart-noted k (key_in cmp all k) x m.kept (unchanged_in m.mark m.live) h.kept left (key_in-tied o all k) h.apart));
          marks = marks;
          counted = omega (arith, count, h.counted, length-option k x all (IsMap-merged o m.kept (unchanged_in m.mark m.live) h.kept left), ap (λ (l : List (K × V)). length l) stays);
        },
      )

  pub in_order : (m : Marks K V) → IsMarked cmp m → IsInOrder cmp (view_of cmp m)
  in_order m h = record { live = IsMap-values cmp m.live h.live; frozen = IsMap-merged o m.kept (unchanged_in m.mark m.live) h.kept (IsMap-unchanged cmp m.mark m.live h.live) }

  pub frozen_at : (m : Marks K V) → IsMarked cmp m → (k : K) → entry_at cmp (merged cmp m.kept (unchanged_in m.mark m.live)) k ≡ option_or (entry_at cmp m.kept k) (entry_at cmp (unchanged_in m.mark m.live) k)
  frozen_at m h k = entry_at-merged o m.kept (unchanged_in m.mark m.live) k h.kept (IsMap-unchanged cmp m.mark m.live h.live)

  -- a key that is not live leaves nothing unchanged behind
  pub not_there : (k : K) (mark : ℕ) (es : List (K × (V × ℕ))) → IsMap cmp es → value_at cmp es k ≡ None → unchanged_in mark es ≡ without_key cmp k (unchanged_in mark es)
  not_there k mark es h none =
      sym (untouched cmp k (unchanged_in mark es) (some_entry cmp (unchanged_in mark es) k ∙ ap (λ (r : Option (K × V)). is_some r) (nothing_there o mark k es h none)))

  -- the same value, marked as changed
  pub marked_at : (k : K) (mark : ℕ) (v : V) (since : ℕ) (es new : List (K × (V × ℕ))) → IsMap cmp es → AllMarked mark es → Some (v, since) ≡ value_at cmp es k → new ≡ set_value (is_at (cmp k)) es (v, mark)
      → IsMap cmp new × AllMarked mark new × (values_in new ≡ values_in es) × (unchanged_in mark new ≡ without_key cmp k (unchanged_in mark es))
  marked_at k mark v since es new h marks value is =
      let put : new ≡ with_value cmp k (v, mark) es = is ∙ set_value-with_value o k (v, mark) (v, since) es h (sym value) in
      let there : value_at cmp (values_in es) k ≡ Some v = lookup-map_values (λ (w : V × ℕ). w.0) (is_at (cmp k)) es ∙ ap (λ (x : Option (V × ℕ)). option_map (λ (w : V × ℕ). w.0) x) (sym value) in (
        subst (λ (es : List (K × (V × ℕ))). IsMap cmp es) (sym put) (IsMap-with_value o k (v, mark) es h),
        subst (λ (es : List (K × (V × ℕ))). AllMarked mark es) (sym put) (marked-with_value cmp mark k (v, mark) es (omega arith) marks),
        ap (λ (es : List (K × (V × ℕ))). values_in es) put ∙ values-with_value cmp k (v, mark) es ∙ same_value o k v (values_in es) (IsMap-values cmp es h) there,
        ap (λ (es : List (K × (V × ℕ))). unchanged_in mark es) put ∙ unchanged-with_value o mark k v es h,
      )
