-- Members of an object with different names take no more than the object.
use Rattle.std.proofs.Common.{◌≡◌, ℕ, ◌+◌, ◌≤◌, Bool, true, false, cond, List, [], ◌∷◌, Option, Some, None, length, refl, ap, sym, subst, ◌∙◌, arith}
use Rattle.std.specs.declared.cmp.Ordering.{Ordering}
use Rattle.std.specs.declared.cmp.Ordering.TheVariants.{Less, Equal, Greater}
use Rattle.std.specs.Cmp.Lexicographic.{slice_cmp}
use Rattle.std.specs.List.{list_any}
use Rattle.std.specs.Ordering.{eq_by_cmp, is_eq, match_ordering, nat_cmp}
use Rattle.std.proofs.lemmas.Bool.{false≢true, or_parts}
use Rattle.std.specs.FinMap.{nat_cmp-IsAntisymmetric, slice_cmp-IsAntisymmetric}
use Rattle.maps.specs.Words.{repeats}
use Rattle.maps.proofs.Ties.{same_key}
use Rattle.serde_json.specs.Data.{Data, Members, array, boolean, member, no_members, null, number, object, string}
use Rattle.serde_json.specs.Find.{get, get_member}
use Rattle.json_lengths.specs.Sizes.{data_size, members_size}
use Rattle.action_lengths.proofs.Texts.{closed_least}

-- the member of a name
abbrev pub member_size : List ℕ → Option Data → ℕ
member_size name None = 0
member_size name (Some d) = length name + 4 + data_size d

abbrev pub size_at : List ℕ → Data → ℕ
size_at name d = member_size name (get name d)

abbrev pub sizes_at : List (List ℕ) → Data → ℕ
sizes_at [] d = 0
sizes_at (n ∷ ns) d = size_at n d + sizes_at ns d

abbrev is_same : List ℕ → List ℕ → Bool
is_same n l = eq_by_cmp (slice_cmp nat_cmp) n l

abbrev AreApart : List (List ℕ) → Type 0
AreApart ns = repeats (slice_cmp nat_cmp) ns ≡ false

same_name : (n l : List ℕ) → is_same n l ≡ true → n ≡ l
same_name n l e = same_key (slice_cmp-IsAntisymmetric nat_cmp-IsAntisymmetric) n l e

-- what the member l adds for the name n
abbrev added : List ℕ → List ℕ → Data → ℕ
added n l e = cond (is_same n l) (length l + 4 + data_size e) 0

one_name : (n l : List ℕ) (e : Data) (ms : Members) → member_size n (get_member n (member l e ms)) ≤ added n l e + member_size n (get_member n ms)
one_name n l e ms = by_order (slice_cmp nat_cmp n l) refl
  where
    by_order : (r : Ordering) → slice_cmp nat_cmp n l ≡ r
        → member_size n (match_ordering r (get_member n ms) (Some e) (get_member n ms)) ≤ cond (is_eq r) (length l + 4 + data_size e) 0 + member_size n (get_member n ms)
    by_order Less q = omega arith
    by_order Equal q = let same : n ≡ l = same_name n l (ap (λ (r : Ordering). is_eq r) q) in omega (arith, ap (λ (k : List ℕ). length k) same)
    by_order Greater q = omega arith

abbrev all_added : List (List ℕ) → List ℕ → Data → ℕ
all_added [] l e = 0
all_added (n ∷ ns) l e = added n l e + all_added ns l e

none_added : (n l : List ℕ) (ns : List (List ℕ)) (e : Data) → n ≡ l → list_any (eq_by_cmp (slice_cmp nat_cmp) n) ns ≡ false → all_added ns l e ≡ 0
none_added n l [] e s h = refl
none_added n l (m ∷ ns) e s h =
    let parts = or_parts (is_same n m) (list_any (eq_by_cmp (slice_cmp nat_cmp) n) ns) h in
    omega (arith, nothing (is_same m l) refl parts.0, none_added n l ns e s parts.1)
  where
    nothing : (b : Bool) → is_same m l ≡ b → is_same n m ≡ false → cond b (length l + 4 + data_size e) 0 ≡ 0
    nothing false q k = refl
    nothing true q k =
        let one : n ≡ m = s ∙ sym (same_name m l q) in
        absurd (false≢true (sym k ∙ subst (λ (x : List ℕ). is_same x m ≡ true) (sym one) (subst (λ (x : List ℕ). is_same x x ≡ true) (sym (same_name m l q)) (subst (λ (x : List ℕ). is_same x l ≡ true) (same_name m l q) q))))

one_added : (ns : List (List ℕ)) (l : List ℕ) (e : Data) → AreApart ns → all_added ns l e ≤ length l + 4 + data_size e
one_added [] l e h = omega arith
one_added (n ∷ ns) l e h =
    let parts = or_parts (list_any (eq_by_cmp (slice_cmp nat_cmp) n) ns) (repeats (slice_cmp nat_cmp) ns) h in
    by_same (is_same n l) refl parts.0 (one_added ns l e parts.1)
  where
    by_same : (b : Bool) → is_same n l ≡ b → list_any (eq_by_cmp (slice_cmp nat_cmp) n) ns ≡ false → all_added ns l e ≤ length l + 4 + data_size e → cond b (length l + 4 + data_size e) 0 + all_added ns l e ≤ length l + 4 + data_size e
    by_same false q k i = omega (arith, i)
    by_same true q k i = omega (arith, none_added n l ns e (same_name n l q) k)

more_names : (ns : List (List ℕ)) (l : List ℕ) (e : Data) (ms : Members) → sizes_at ns (object (member l e ms)) ≤ all_added ns l e + sizes_at ns (object ms)
more_names [] l e ms = omega arith
more_names (n ∷ ns) l e ms = omega (arith, one_name n l e ms, more_names ns l e ms)

no_names : (ns : List (List ℕ)) → sizes_at ns (object no_members) ≡ 0
no_names [] = refl
no_names (n ∷ ns) = omega (arith, no_names ns)

pub names_fit : (ns : List (List ℕ)) (ms : Members) → AreApart ns → sizes_at ns (object ms) ≤ members_size ms
names_fit ns no_members h = omega (arith, no_names ns)
names_fit ns (member l e ms) h = omega (arith, more_names ns l e ms, one_added ns l e h, names_fit ns ms h)

none_at : (ns : List (List ℕ)) (d : Data) → ((n : List ℕ) → get n d ≡ None) → sizes_at ns d ≡ 0
none_at [] d h = refl
none_at (n ∷ ns) d h = omega (arith, ap (λ (o : Option Data). member_size n o) (h n), none_at ns d h)

-- the brackets count, if there is a member
pub within_object : (ns : List (List ℕ)) (d : Data) → AreApart ns → 1 ≤ sizes_at ns d → sizes_at ns d + 1 ≤ data_size d
within_object ns null a h = absurd (omega (arith, h, none_at ns null (λ n. refl)))
within_object ns (boolean b) a h = absurd (omega (arith, h, none_at ns (boolean b) (λ n. refl)))
within_object ns (number n) a h = absurd (omega (arith, h, none_at ns (number n) (λ n. refl)))
within_object ns (string s) a h = absurd (omega (arith, h, none_at ns (string s) (λ n. refl)))
within_object ns (array ds) a h = absurd (omega (arith, h, none_at ns (array ds) (λ n. refl)))
within_object ns (object ms) a h = omega (arith, names_fit ns ms a, closed_least (members_size ms))
