-- The names of a transaction's fields have places of their own, and one walk finds the last member of each.
use Rattle.std.proofs.Common.{◌≡◌, ◌≢◌, ℕ, zero, suc, ◌<◌, ◌≤◌, ◌+◌, ◌-◌, ◌==◌, List, [], ◌∷◌, ◌++◌, length, Option, Some, None, Bool, true, false, bytes_eq, refl, sym, ap, subst, ◌∙◌, arith, ne_eqb, replicate, true≢false}
use Rattle.std.specs.Prelude.{option_map, slice_get, slice_index, slice_set, if◌then◌else◌}
use Rattle.std.specs.Cmp.{unsigned_Decides}
use Rattle.std.proofs.lemmas.List.{get_or-set_same, get_or-set_other}
use Rattle.std.proofs.lemmas.Option.{same_Some}
use Rattle.std.proofs.lemmas.Slice.Eq.{bytes_eq-Decides}
use Rattle.serde_json.specs.Data.{Data, null, boolean, number, string, array, object, Members}
use Rattle.serde_json.specs.Find.{as_object, get, get_member}
use Rattle.json_tree.specs.View.{view, members_view}
use Rattle.json_tree.proofs.Views.{Entry, get_member-last, get_member-other}
use Rattle.record_members.specs.Members.{at, kept_value, names, place_in, place_of, value_at, FindsAmong}

within_by : (b : Bool) (k p n : ℕ) (rest : Option ℕ) → (rest ≡ Some p → (suc k ≤ p) × (p < suc k + n)) → (if b then Some k else rest) ≡ Some p → (k ≤ p) × (p < k + suc n)
within_by true k p n rest h e = let same : k ≡ p = same_Some k p e in (omega (arith, same), omega (arith, same))
within_by false k p n rest h e = let w = h e in (omega (arith, w.0), omega (arith, w.1))

-- a place is within the list
pub place_in-within : (xs : List (List ℕ)) (k p : ℕ) (name : List ℕ) → place_in xs k name ≡ Some p → (k ≤ p) × (p < k + length xs)
place_in-within [] k p name e = cc
place_in-within (x ∷ xs) k p name e = within_by (bytes_eq name x) k p (length xs) (place_in xs (suc k) name) (place_in-within xs (suc k) p name) e

one_by : (b c : Bool) (m n x : List ℕ) (k p : ℕ) (r s : Option ℕ) → bytes_eq m x ≡ b → bytes_eq n x ≡ c → (r ≡ Some p → suc k ≤ p) → (s ≡ Some p → suc k ≤ p) → (r ≡ Some p → s ≡ Some p → m ≡ n)
    → (if b then Some k else r) ≡ Some p → (if c then Some k else s) ≡ Some p → m ≡ n
one_by true true m n x k p r s is also hr hs both e f = (bytes_eq-Decides m x).0 is ∙ sym ((bytes_eq-Decides n x).0 also)
one_by true false m n x k p r s is also hr hs both e f = let same : k ≡ p = same_Some k p e in let more : suc k ≤ p = hs f in absurd (omega (arith, same, more))
one_by false true m n x k p r s is also hr hs both e f = let same : k ≡ p = same_Some k p f in let more : suc k ≤ p = hr e in absurd (omega (arith, same, more))
one_by false false m n x k p r s is also hr hs both e f = both e f

-- names of one place are one name
one_name : (xs : List (List ℕ)) (k p : ℕ) (m n : List ℕ) → place_in xs k m ≡ Some p → place_in xs k n ≡ Some p → m ≡ n
one_name [] k p m n e f = cc
one_name (x ∷ xs) k p m n e f =
    one_by (bytes_eq m x) (bytes_eq n x) m n x k p (place_in xs (suc k) m) (place_in xs (suc k) n) refl refl
    (λ g. (place_in-within xs (suc k) p m g).0) (λ g. (place_in-within xs (suc k) p n g).0) (one_name xs (suc k) p m n) e f

not_none : (p : ℕ) → Some p ≡ None → ⊥
not_none p e = cc

-- a member whose name has no place
passed : (es : List Entry) (found : List ℕ) (done : List Entry) (e : Entry) → place_of e.0.now ≡ None → FindsAmong es done found → FindsAmong es (done ++ e ∷ []) found
passed es found done e none h = λ name place is. h name place is ∙ sym (get_member-other name done e (λ same. not_none place (sym is ∙ ap place_of same ∙ none)))

other_name : (name key : List ℕ) (place q : ℕ) → place_of name ≡ Some place → place_of key ≡ Some q → (place == q) ≡ false → name ≡ key → ⊥
other_name name key place q is there differs same = true≢false (sym ((unsigned_Decides place q).1 (same_Some place q (sym is ∙ ap place_of same ∙ there))) ∙ differs)

-- one more than an index keeps the member there
kept_next : (es : List Entry) (i : ℕ) → kept_value es (i + 1) ≡ value_at es i
kept_next es i =
    let some : (i + 1 == 0) ≡ false = ne_eqb (i + 1) 0 (λ (e : i + 1 ≡ 0). omega (arith, e)) in
    let back : i + 1 - 1 ≡ i = omega arith in
    rw (some, back) refl

placed_by : (b : Bool) (es : List Entry) (found : List ℕ) (done : List Entry) (e : Entry) (q i : ℕ) (name : List ℕ) (place : ℕ)
    → (place == q) ≡ b → place_of name ≡ Some place → place_of e.0.now ≡ Some q → q < length found → slice_get es i ≡ Some e → at es found place ≡ get_member name (members_view done)
    → at es (slice_set found q (i + 1)) place ≡ get_member name (members_view (done ++ e ∷ []))
placed_by true es found done e q i name place same is there within stands h =
    let at_q : place ≡ q = (unsigned_Decides place q).0 same in
    let named : name ≡ e.0.now = one_name names 0 place name e.0.now is (there ∙ ap (λ (p : ℕ). Some p) (sym at_q)) in
    ap (at es (slice_set found q (i + 1))) at_q
    ∙ ap (kept_value es) (get_or-set_same found q (i + 1) 0 within) ∙ kept_next es i
    ∙ ap (option_map (λ (m : Entry). view m.1)) stands ∙ sym (get_member-last name done e named)
placed_by false es found done e q i name place differs is there within stands h =
    let apart : place ≢ q = λ same. true≢false (sym ((unsigned_Decides place q).1 same) ∙ differs) in
    ap (kept_value es) (get_or-set_other found q place (i + 1) 0 apart)
    ∙ h ∙ sym (get_member-other name done e (other_name name e.0.now place q is there differs))

placed : (es : List Entry) (found : List ℕ) (done : List Entry) (e : Entry) (q i : ℕ) → place_of e.0.now ≡ Some q → q < length found → slice_get es i ≡ Some e
    → FindsAmong es done found → FindsAmong es (done ++ e ∷ []) (slice_set found q (i + 1))
placed es found done e q i there within stands h = λ name place is. placed_by (place == q) es found done e q i name place refl is there within stands (h name place is)

-- one whose name has a place stands there from now on
pub placed_all : (es : List Entry) (found after : List ℕ) (done all : List Entry) (e : Entry) (q i : ℕ) → after ≡ slice_set found q (i + 1) → all ≡ done ++ e ∷ [] → place_of e.0.now ≡ Some q
    → q < length found → slice_get es i ≡ Some e → FindsAmong es done found → FindsAmong es all after
placed_all es found after done all e q i is front there within stands h =
    subst (λ (a : List ℕ). FindsAmong es all a) (sym is)
    (subst (λ (ms : List Entry). FindsAmong es ms (slice_set found q (i + 1))) (sym front) (placed es found done e q i there within stands h))

-- any other changes nothing
pub passed_all : (es : List Entry) (found after : List ℕ) (done all : List Entry) (e : Entry) → after ≡ found → all ≡ done ++ e ∷ [] → place_of e.0.now ≡ None
    → FindsAmong es done found → FindsAmong es all after
passed_all es found after done all e is front none h =
    subst (λ (a : List ℕ). FindsAmong es all a) (sym is)
    (subst (λ (ms : List Entry). FindsAmong es ms found) (sym front) (passed es found done e none h))

-- the members of an object are its own
pub of_object : (d : Data) (ms : Members) (name : List ℕ) → as_object d ≡ Some ms → get_member name ms ≡ get name d
of_object null ms name e = cc
of_object (boolean b) ms name e = cc
of_object (number n) ms name e = cc
of_object (string s) ms name e = cc
of_object (array ds) ms name e = cc
of_object (object os) ms name e = ap (get_member name) (sym (same_Some os ms e))

-- at first no place keeps a member
pub none_kept : (es : List Entry) (n : ℕ) (found : List ℕ) → found ≡ replicate n 0 → FindsAmong es [] found
none_kept es n found is = λ name place there. ap (kept_value es) (ap (λ (f : List ℕ). slice_index f place) is ∙ zero_at n place)
  where
    zero_at : (n place : ℕ) → slice_index (replicate n 0) place ≡ 0
    zero_at zero place = refl
    zero_at (suc n) zero = refl
    zero_at (suc n) (suc place) = zero_at n place
