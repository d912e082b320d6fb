-- Values of each kind, as they are printed in an action and read again.
use Rattle.std.proofs.Common.{◌≡◌, ℕ, suc, ◌<◌, ◌≤◌, ◌^◌, ◌==◌, ◌&&◌, Bool, true, false, not, nat_le, nat_lt, List, [], ◌∷◌, ◌++◌, Option, Some, Result, Ok, codes, decimal, flat_map, length, map, refl, ap, sym, ◌∙◌, subst, arith, append-nil, append_assoc, eqb-true}
use Rattle.std.specs.declared.cmp.Ordering.{Ordering}
use Rattle.std.proofs.lemmas.Bool.{and_parts, le-leb, leb-true, lt-leb, lt-ltb, ltb-true, not-true, or_parts}
use Rattle.std.proofs.lemmas.Cmp.{eq_by_cmp_equiv}
use Rattle.std.proofs.lemmas.List.{length-append}
use Rattle.std.specs.Cmp.{IsTotalOrder}
use Rattle.std.specs.List.{join_by, list_all, list_any}
use Rattle.std.specs.Ordering.{eq_by_cmp}
use Rattle.serde_json.specs.Data.{Data, Items, array, item, no_items, number, string, unsigned}
use Rattle.maps.specs.Maps.{has_member}
use Rattle.maps.specs.Words.{repeats}
use Rattle.coin_frac.specs.Fraction.{Fraction}
use Rattle.tx_records.specs.Limits.{is_at_most, is_share, is_u64}
use Rattle.text_forms.specs.ActionText.{array as bracketed, fraction_json, quoted}
use Rattle.text_forms.specs.Ids.{are_units, is_ratio, is_unit}
use Rattle.json_fields.specs.declared.fault.FieldFault.{FieldFault}
use Rattle.json_fields.specs.Entries.{both_in, without_place}
use Rattle.json_fields.specs.Kinds.{number_below, ratio_in, text_by, unit_in}
use Rattle.json_fields.specs.Lists.{distinct_list_in, entries_after, is_full, is_known_or_full}
use Rattle.action_read.specs.Params.{five_units_in, is_five, is_ten, ten_units_in, units_in}
use Rattle.action_kinds.proofs.Members.{Prints}
use Rattle.action_kinds.proofs.Trees.{SpellItems, Spells, deeper, is_quiet, no_more_items, one_more_item, spelled_array, spelled_number, spelled_text}

-- ---- numbers and texts

-- a number below a bound of at most 64 bits
pub number_prints : (bound : ℕ) → bound ≤ 2 ^ 64 → Prints 0 (λ n. nat_lt n bound) decimal (number_below bound)
number_prints bound most n p =
    let below : n < bound = ltb-true n bound p in
    record {
      datum = number (unsigned n);
      spells = spelled_number n (omega (arith, below, most));
      there = refl;
      reads = rw p refl;
    }

-- a text of quiet bytes that reads back
pub text_prints : {A : Type 0} {form : A → Bool} (text : A → List ℕ) (read : List ℕ → Option A) → ((x : A) → form x ≡ true → list_all is_quiet (text x) ≡ true) → ((x : A) → form x ≡ true → read (text x) ≡ Some x)
    → Prints 0 form (λ x. quoted (text x)) (text_by read)
text_prints text read quiet back x p = record {
  datum = string (text x);
  spells = spelled_text (text x) (quiet x p);
  there = refl;
  reads = rw (back x p) refl;
}

-- ---- pairs and fractions

two_spelled : (deep : ℕ) (s t : List ℕ) (d e : Data) → Spells deep s d → Spells deep t e → Spells (suc deep) (bracketed (s ∷ t ∷ [])) (array (item d (item e no_items)))
two_spelled deep s t d e first second =
    spelled_array deep (s ∷ t ∷ []) (item d (item e no_items)) (one_more_item deep s d (t ∷ []) (item e no_items) first (one_more_item deep t e [] no_items second (no_more_items deep)))

-- two values
pub both_print : {deep : ℕ} {A B : Type 0} {f : A → Bool} {g : B → Bool} {s : A → List ℕ} {t : B → List ℕ} {first : Data → Result A FieldFault} {second : Data → Result B FieldFault}
    → Prints deep f s first → Prints deep g t second → Prints (suc deep) (λ (p : A × B). f p.0 && g p.1) (λ (p : A × B). bracketed (s p.0 ∷ t p.1 ∷ [])) (both_in first second)
unfolding both_in
both_print {deep} {f = f} {g = g} {s = s} {t = t} a b x p =
    let both = and_parts (f x.0) (g x.1) p in
    let u = a x.0 both.0 in
    let v = b x.1 both.1 in
    record {
      datum = array (item u.datum (item v.datum no_items));
      spells = two_spelled deep (s x.0) (t x.1) u.datum v.datum u.spells v.spells;
      there = refl;
      reads = rw (u.reads, v.reads) refl;
    }

fraction_spelled : (s : Fraction) → is_u64 s.num ≡ true → is_u64 s.den ≡ true → Spells 1 (fraction_json s) (array (item (number (unsigned s.num)) (item (number (unsigned s.den)) no_items)))
fraction_spelled s p q =
    two_spelled 0 (decimal s.num) (decimal s.den) (number (unsigned s.num)) (number (unsigned s.den)) (spelled_number s.num (ltb-true s.num (2 ^ 64) p)) (spelled_number s.den (ltb-true s.den (2 ^ 64) q))

positive : (n : ℕ) → nat_lt 0 n ≡ true → nat_le 1 n ≡ true
positive n p = let some : 0 < n = ltb-true 0 n p in le-leb 1 n (omega (arith, some))

-- a fraction from 0 to 1
pub unit_prints : Prints 1 is_unit fraction_json unit_in
unfolding unit_in
unit_prints s p =
    let two = and_parts (is_share s) (is_u64 s.den) p in
    let share = and_parts (nat_lt 0 s.den) (nat_le s.num s.den) two.0 in
    let below : s.num ≤ s.den = leb-true s.num s.den share.1 in
    let small : s.den < 2 ^ 64 = ltb-true s.den (2 ^ 64) two.1 in
    let few : s.num < 2 ^ 64 = omega (arith, below, small) in
    let top : is_u64 s.num ≡ true = lt-ltb s.num (2 ^ 64) few in
    record {
      datum = array (item (number (unsigned s.num)) (item (number (unsigned s.den)) no_items));
      spells = fraction_spelled s top two.1;
      there = refl;
      reads = rw (top, two.1, positive s.den share.0, share.1) refl;
    }

-- any fraction
pub ratio_prints : Prints 1 is_ratio fraction_json ratio_in
unfolding ratio_in
ratio_prints s p =
    let two = and_parts (nat_lt 0 s.den && is_u64 s.num) (is_u64 s.den) p in
    let one = and_parts (nat_lt 0 s.den) (is_u64 s.num) two.0 in
    record {
      datum = array (item (number (unsigned s.num)) (item (number (unsigned s.den)) no_items));
      spells = fraction_spelled s one.1 two.1;
      there = refl;
      reads = rw (one.1, two.1, positive s.den one.0) refl;
    }

-- ---- lists

-- each item reads as its value
pub ReadsEach : {A : Type 0} → (Data → Result A FieldFault) → Items → List A → Type 0
ReadsEach reading no_items [] = Unit {0}
ReadsEach reading no_items (x ∷ xs) = ⊥
ReadsEach reading (item d ds) [] = ⊥
ReadsEach reading (item d ds) (x ∷ xs) = (reading d ≡ Ok x) × ReadsEach reading ds xs

record PrintedList (deep : ℕ) {A : Type 0} (text : A → List ℕ) (reading : Data → Result A FieldFault) (xs : List A) : Type 0 where
  items : Items
  spells : SpellItems deep (map text xs) items
  each : ReadsEach reading items xs

list_printed : {deep : ℕ} {A : Type 0} {form : A → Bool} {text : A → List ℕ} {reading : Data → Result A FieldFault} → Prints deep form text reading → (xs : List A) → list_all form xs ≡ true → PrintedList deep text reading xs
unfolding ReadsEach
list_printed {deep} prints [] h = record { items = no_items; spells = no_more_items deep; each = tt }
list_printed {deep} {form = form} {text = text} {reading = reading} prints (x ∷ xs) h =
    let both = and_parts (form x) (list_all form xs) h in
    let here = prints x both.0 in
    let later : PrintedList deep text reading xs = list_printed {form = form} prints xs both.1 in
    record {
      items = item here.datum later.items;
      spells = one_more_item deep (text x) here.datum (map text xs) later.items here.spells later.spells;
      each = (here.reads, later.each);
    }

flat_map-map : {A : Type 0} (text : A → List ℕ) (xs : List A) → flat_map (λ t. codes "," ++ t) (map text xs) ≡ flat_map (λ x. codes "," ++ text x) xs
flat_map-map text [] = refl
flat_map-map text (x ∷ xs) = ap (λ (t : List ℕ). (codes "," ++ text x) ++ t) (flat_map-map text xs)

join_by-map : {A : Type 0} (text : A → List ℕ) (xs : List A) → join_by (λ t. t) (codes ",") (map text xs) ≡ join_by text (codes ",") xs
join_by-map text [] = refl
join_by-map text (x ∷ xs) = ap (λ (t : List ℕ). text x ++ t) (flat_map-map text xs)

list_spelled : {deep : ℕ} {A : Type 0} (text : A → List ℕ) (xs : List A) (ds : Items) → SpellItems deep (map text xs) ds → Spells (suc deep) (codes "[" ++ join_by text (codes ",") xs ++ codes "]") (array ds)
list_spelled {deep} text xs ds s = subst (λ (t : List ℕ). Spells (suc deep) (codes "[" ++ t ++ codes "]") (array ds)) (join_by-map text xs) (spelled_array deep (map text xs) ds s)

-- ---- lists in which each name is once

none_at : {A K : Type 0} (p : K → Bool) (name : A → K) (before rest : List A) (x : A) → list_any p (map name (before ++ x ∷ rest)) ≡ false → p (name x) ≡ false
none_at p name [] rest x h = (or_parts (p (name x)) (list_any p (map name rest)) h).0
none_at p name (b ∷ bs) rest x h = none_at p name bs rest x (or_parts (p (name b)) (list_any p (map name (bs ++ x ∷ rest))) h).1

-- an entry has no name of those before it
new_name : {A K : Type 0} {cmp : K → K → Ordering} → IsTotalOrder cmp → (name : A → K) (before rest : List A) (x : A) → repeats cmp (map name (before ++ x ∷ rest)) ≡ false → has_member cmp (map name before) (name x) ≡ false
new_name o name [] rest x h = refl
new_name {cmp = cmp} o name (b ∷ bs) rest x h =
    let both = or_parts (list_any (eq_by_cmp cmp (name b)) (map name (bs ++ x ∷ rest))) (repeats cmp (map name (bs ++ x ∷ rest))) h in
    let other : eq_by_cmp cmp (name b) (name x) ≡ false = none_at (eq_by_cmp cmp (name b)) name bs rest x both.0 in
    let flipped : eq_by_cmp cmp (name x) (name b) ≡ false = (eq_by_cmp_equiv o).symm (name x) (name b) ∙ other in
    let later : list_any (eq_by_cmp cmp (name x)) (map name bs) ≡ false = new_name o name bs rest x both.1 in
    rw (flipped, later) refl

not_full : {A : Type 0} (limit : ℕ) (before rest : List A) (x : A) → is_at_most limit (before ++ x ∷ rest) ≡ true → is_full limit before ≡ false
not_full limit before rest x h =
    let most : length (before ++ x ∷ rest) ≤ limit = leb-true (length (before ++ x ∷ rest)) limit h in
    lt-leb limit (length before) (omega (arith, most, length-append before (x ∷ rest)))

-- entries after others read as their values
entries_read : {A K : Type 0} {cmp : K → K → Ordering} → IsTotalOrder cmp → (name : A → K) (limit : ℕ) (reading : Data → Result A FieldFault) (before : List A) (ds : Items) (xs : List A) → ReadsEach reading ds xs
    → repeats cmp (map name (before ++ xs)) ≡ false → is_at_most limit (before ++ xs) ≡ true → entries_after reading (is_known_or_full cmp name limit) before ds ≡ Ok (before ++ xs)
unfolding ReadsEach
entries_read o name limit reading before no_items [] each once few = ap Ok (sym (append-nil before))
entries_read o name limit reading before no_items (x ∷ xs) each once few = absurd each
entries_read o name limit reading before (item d ds) [] each once few = absurd each
entries_read {cmp = cmp} o name limit reading before (item d ds) (x ∷ xs) each once few =
    let whole = append_assoc before (x ∷ []) xs in
    let new : has_member cmp (map name before) (name x) ≡ false = new_name o name before xs x once in
    let room : is_full limit before ≡ false = not_full limit before xs x few in
    let later = entries_read {cmp = cmp} o name limit reading (before ++ x ∷ []) ds xs each.1 (ap (λ (l : List _). repeats cmp (map name l)) whole ∙ once) (ap (is_at_most limit) whole ∙ few) in
    rw (each.0, new, room) (later ∙ ap Ok whole)

-- a list of entries with a name each
pub distinct_print : {deep : ℕ} {A K : Type 0} {form : A → Bool} {text : A → List ℕ} {reading : Data → Result A FieldFault} {cmp : K → K → Ordering} → Prints deep form text reading → IsTotalOrder cmp → (name : A → K) (limit : ℕ)
    → Prints (suc deep) (λ xs. is_at_most limit xs && list_all form xs && not (repeats cmp (map name xs))) (λ xs. codes "[" ++ join_by text (codes ",") xs ++ codes "]") (λ d. without_place (distinct_list_in cmp name limit reading d))
distinct_print {deep} {form = form} {text = text} {reading = reading} {cmp = cmp} prints o name limit xs p =
    let two = and_parts (is_at_most limit xs && list_all form xs) (not (repeats cmp (map name xs))) p in
    let one = and_parts (is_at_most limit xs) (list_all form xs) two.0 in
    let list : PrintedList deep text reading xs = list_printed {form = form} prints xs one.1 in
    let once : repeats cmp (map name xs) ≡ false = not-true (repeats cmp (map name xs)) two.1 in
    record {
      datum = array list.items;
      spells = list_spelled text xs list.items list.spells;
      there = refl;
      reads = ap without_place (entries_read {cmp = cmp} o name limit reading [] list.items xs list.each once one.0);
    }

-- ---- thresholds

units_read : (ds : Items) (xs : List Fraction) → ReadsEach unit_in ds xs → units_in ds ≡ Ok xs
unfolding ReadsEach
units_read no_items [] each = refl
units_read no_items (x ∷ xs) each = absurd each
units_read (item d ds) [] each = absurd each
units_read (item d ds) (x ∷ xs) each = rw (each.0, units_read ds xs each.1) refl

-- how many items there are
count : Items → ℕ
count no_items = 0
count (item d ds) = suc (count ds)

count_each : (ds : Items) (xs : List Fraction) → ReadsEach unit_in ds xs → count ds ≡ length xs
unfolding ReadsEach count
count_each no_items [] each = refl
count_each no_items (x ∷ xs) each = absurd each
count_each (item d ds) [] each = absurd each
count_each (item d ds) (x ∷ xs) each = ap suc (count_each ds xs each.1)

five_are : (ds : Items) → count ds ≡ 5 → is_five ds ≡ true
unfolding count
five_are no_items e = absurd (omega (arith, e))
five_are (item a no_items) e = absurd (omega (arith, e))
five_are (item a (item b no_items)) e = absurd (omega (arith, e))
five_are (item a (item b (item c no_items))) e = absurd (omega (arith, e))
five_are (item a (item b (item c (item d no_items)))) e = absurd (omega (arith, e))
five_are (item a (item b (item c (item d (item f no_items))))) e = refl
five_are (item a (item b (item c (item d (item f (item g ds)))))) e = absurd (omega (arith, e))

ten_are : (ds : Items) → count ds ≡ 10 → is_ten ds ≡ true
unfolding count
ten_are no_items e = absurd (omega (arith, e))
ten_are (item a no_items) e = absurd (omega (arith, e))
ten_are (item a (item b no_items)) e = absurd (omega (arith, e))
ten_are (item a (item b (item c no_items))) e = absurd (omega (arith, e))
ten_are (item a (item b (item c (item d no_items)))) e = absurd (omega (arith, e))
ten_are (item a (item b (item c (item d (item f no_items))))) e = absurd (omega (arith, e))
ten_are (item a (item b (item c (item d (item f (item g no_items)))))) e = absurd (omega (arith, e))
ten_are (item a (item b (item c (item d (item f (item g (item h no_items))))))) e = absurd (omega (arith, e))
ten_are (item a (item b (item c (item d (item f (item g (item h (item i no_items)))))))) e = absurd (omega (arith, e))
ten_are (item a (item b (item c (item d (item f (item g (item h (item i (item j no_items))))))))) e = absurd (omega (arith, e))
ten_are (item a (item b (item c (item d (item f (item g (item h (item i (item j (item k no_items)))))))))) e = refl
ten_are (item a (item b (item c (item d (item f (item g (item h (item i (item j (item k (item l ds))))))))))) e = absurd (omega (arith, e))

pub five_print : Prints 2 (are_units 5) (λ xs. codes "[" ++ join_by fraction_json (codes ",") xs ++ codes "]") five_units_in
five_print xs p =
    let both = and_parts (length xs == 5) (list_all is_unit xs) p in
    let list : PrintedList 1 fraction_json unit_in xs = list_printed {form = is_unit} unit_prints xs both.1 in
    let many : is_five list.items ≡ true = five_are list.items (count_each list.items xs list.each ∙ eqb-true (length xs) 5 both.0) in
    record {
      datum = array list.items;
      spells = list_spelled fraction_json xs list.items list.spells;
      there = refl;
      reads = rw many (units_read list.items xs list.each);
    }

pub ten_print : Prints 2 (are_units 10) (λ xs. codes "[" ++ join_by fraction_json (codes ",") xs ++ codes "]") ten_units_in
ten_print xs p =
    let both = and_parts (length xs == 10) (list_all is_unit xs) p in
    let list : PrintedList 1 fraction_json unit_in xs = list_printed {form = is_unit} unit_prints xs both.1 in
    let many : is_ten list.items ≡ true = ten_are list.items (count_each list.items xs list.each ∙ eqb-true (length xs) 10 both.0) in
    record {
      datum = array list.items;
      spells = list_spelled fraction_json xs list.items list.spells;
      there = refl;
      reads = rw many (units_read list.items xs list.each);
    }

-- a value that nests deeper
pub deeper_print : {deep : ℕ} (more : ℕ) → deep ≤ more → {A : Type 0} {form : A → Bool} {text : A → List ℕ} {reading : Data → Result A FieldFault} → Prints deep form text reading → Prints more form text reading
deeper_print {deep} more few {text = text} prints x p = let it = prints x p in record { datum = it.datum; spells = deeper deep more (text x) it.datum few it.spells; there = it.there; reads = it.reads }
