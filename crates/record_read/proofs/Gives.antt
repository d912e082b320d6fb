-- What a reading gives has a property: how a property of the parts becomes one of the whole, of a list and of a field.
use Rattle.std.proofs.Common.{◌≡◌, ℕ, Bool, true, false, cond, ◌&&◌, List, Option, Some, None, Result, Ok, Err, refl, ◌||◌, [], ◌∷◌, ◌++◌, length, map, ap, ◌∙◌, arith, length-append}
use Rattle.std.specs.Prelude.{IfOk, nat_le, unwrap_or}
use Rattle.serde_json.specs.Data.{Data, Items, no_items, item}
use Rattle.maps.specs.Words.{none_or, repeats}
use Rattle.json_fields.specs.declared.fault.FieldFault.{FieldFault}
use Rattle.json_fields.specs.Entries.{needed_in, maybe_by, maybe_in, both_in, without_place}
use Rattle.json_fields.specs.Kinds.{field_in, optional_in, pair_in, items_in}
use Rattle.json_fields.specs.Steps.{◌>>=◌, or_fault}
use Rattle.std.specs.Cmp.{IsTotalOrder}
use Rattle.std.specs.List.{list_all, list_any}
use Rattle.std.specs.Ordering.{eq_by_cmp}
use Rattle.std.specs.declared.cmp.Ordering.{Ordering}
use Rattle.std.proofs.lemmas.Bool.{le-leb, or_parts}
use Rattle.std.proofs.lemmas.Bool.Decides.{nat_tests}
use Rattle.std.proofs.lemmas.Cmp.{eq_by_cmp_equiv}
use Rattle.std.proofs.lemmas.List.{map-append}
use Rattle.std.proofs.lemmas.List.Folds.{list_all-append, list_any-append}
use Rattle.maps.specs.Maps.{has_member}
use Rattle.json_fields.specs.declared.fault.FieldFault.TheVariants.{OutOfRange}
use Rattle.json_fields.specs.declared.lists.ListFault.{ListFault}
use Rattle.json_fields.specs.Lists.{entry_at, fault_at, entries_after, entries_of, is_full, list_in, is_known_or_full, distinct_list_in}
use Rattle.tx_records.specs.declared.field.FieldName.{FieldName}
use Rattle.tx_records.specs.FieldTexts.{text_of_field}
use Rattle.record_read.specs.Fields.{named, needed, optional, defaulted, listed, list_by, optional_list_by}

-- the value, where there is one, has the property
pub record Gives {A E : Type 0} (P : A → Type 0) (r : Result A E) : Type 0 where
  pub holds : IfOk r P

-- so has whatever is read
abbrev pub Within : {A E : Type 0} → (A → Type 0) → (Data → Result A E) → Type 0
Within P reading = (d : Data) → Gives P (reading d)

-- the value
pub given : {A E : Type 0} {P : A → Type 0} {x : A} → P x → Gives {E = E} P (Ok x)
given h = record { holds = h }

-- the next step, from what the first one gives
pub next : {A B E : Type 0} {P : A → Type 0} {Q : B → Type 0} {r : Result A E} {f : A → Result B E} → Gives P r → ((x : A) → P x → Gives Q (f x)) → Gives Q (r >>= f)
next {r = Ok x} g k = k x g.holds
next {r = Err e} g k = record { holds = tt }

-- the same, whatever it is
pub skip : {A B E : Type 0} {Q : B → Type 0} (r : Result A E) {f : A → Result B E} → ((x : A) → Gives Q (f x)) → Gives Q (r >>= f)
skip (Ok x) k = k x
skip (Err e) k = record { holds = tt }

-- both tests hold
pub both : {a b : Bool} → a ≡ true → b ≡ true → (a && b) ≡ true
both p q = λ i. p i && q i

always : {A E : Type 0} (r : Result A E) → Gives (λ _. true ≡ true) r
always (Ok x) = record { holds = refl }
always (Err e) = record { holds = tt }

-- a reading of which nothing is asked
pub anything : {A E : Type 0} (reading : Data → Result A E) → Within (λ _. true ≡ true) reading
anything reading d = always (reading d)

-- what is there, where it has the property
pub if_some : {A E : Type 0} {P : A → Type 0} (e : E) (o : Option A) → ((x : A) → o ≡ Some x → P x) → Gives P (or_fault e o)
if_some e None h = record { holds = tt }
if_some e (Some x) h = record { holds = h x refl }

-- what is given only where a test holds
pub if_test : {A E : Type 0} {P : A → Type 0} (b : Bool) (x : A) (e : E) → (b ≡ true → P x) → Gives P (cond b (Ok x) (Err e))
if_test true x e h = record { holds = h refl }
if_test false x e h = record { holds = tt }

-- one reading or another
pub or_else : {A E : Type 0} {P : A → Type 0} (b : Bool) {r s : Result A E} → Gives P r → Gives P s → Gives P (cond b r s)
or_else true g h = g
or_else false g h = h

-- a field that has to be there
pub needed_in-within : {A : Type 0} {P : A → Type 0} {reading : Data → Result A FieldFault} → Within P reading → (name : List ℕ) → Within P (needed_in name reading)
needed_in-within h name d = skip (field_in name d) h

-- one that may be absent or null
module _ {A : Type 0} {p : A → Bool} {reading : Data → Result A FieldFault} (h : Within (λ x. p x ≡ true) reading) where
  by_option : (o : Option Data) → Gives (λ x. none_or p x ≡ true) (maybe_by reading o)
  by_option None = given refl
  by_option (Some d) = next (h d) (λ x e. given e)

  pub maybe_in-within : (name : List ℕ) → Within (λ x. none_or p x ≡ true) (maybe_in name reading)
  maybe_in-within name d = skip (optional_in name d) by_option

-- an array of two entries
pub both_in-within : {A B : Type 0} {P : A → Type 0} {Q : B → Type 0} {R : A × B → Type 0} {first : Data → Result A FieldFault} {second : Data → Result B FieldFault}
    → Within P first → Within Q second → ((a : A) (b : B) → P a → Q b → R (a, b)) → Within R (both_in first second)
unfolding both_in
both_in-within g h both d = skip (pair_in d) (λ parts. next (g parts.0) (λ a u. next (h parts.1) (λ b v. given (both a b u v))))

-- ---- entries

if_in_place : {A : Type 0} {P : A → Type 0} (out : A → Bool) (x : A) (e : ListFault) (b : Bool) → out x ≡ b → P x → Gives (λ y. P y × (out y ≡ false)) (cond b (Err e) (Ok x))
if_in_place out x e true is h = record { holds = tt }
if_in_place out x e false is h = record { holds = (h, is) }

in_place : {A : Type 0} {P : A → Type 0} (i : ℕ) (out : A → Bool) {r : Result A FieldFault} → Gives P r → Gives (λ y. P y × (out y ≡ false)) (entry_at i out r)
in_place i out {r = Ok x} g = if_in_place out x (fault_at i OutOfRange) (out x) refl g.holds
in_place i out {r = Err e} g = record { holds = tt }

-- what holds of none, and of one more that passes and is in place, holds of the list
module _ {A : Type 0} {P : A → Type 0} {reading : Data → Result A FieldFault} (h : Within P reading) (out : List A → A → Bool) (I : List A → Type 0) (more : (xs : List A) (x : A) → I xs → P x → out xs x ≡ false → I (xs ++ x ∷ [])) where
  after : (before : List A) (ds : Items) → I before → Gives I (entries_after reading out before ds)
  after before no_items k = given k
  after before (item d ds) k = next (in_place (length before) (out before) (h d)) (λ x t. after (before ++ x ∷ []) ds (more before x k t.0 t.1))

  of_items : (r : Result Items FieldFault) → I [] → Gives I (entries_of reading out r)
  of_items (Ok ds) k = after [] ds k
  of_items (Err e) k = record { holds = tt }

-- ---- lists

-- at most so many entries, and each passes
pub record IsListOf {A : Type 0} (limit : ℕ) (p : A → Bool) (xs : List A) : Type 0 where
  pub few : nat_le (length xs) limit ≡ true
  pub each : list_all p xs ≡ true

pub none_fit : {A : Type 0} {p : A → Bool} (limit : ℕ) → IsListOf limit p []
none_fit limit = record { few = le-leb 0 limit (omega arith); each = refl }

one_more : {A : Type 0} {limit : ℕ} {p : A → Bool} (xs : List A) (x : A) → IsListOf limit p xs → p x ≡ true → is_full limit xs ≡ false → IsListOf limit p (xs ++ x ∷ [])
one_more {limit = limit} {p = p} xs x l q r = record {
  few = let e = length-append xs (x ∷ []) in grind (arith, nat_tests, e);
  each = list_all-append p xs (x ∷ []) ∙ rw (l.each, q) refl;
}

pub list_in-within : {A : Type 0} {p : A → Bool} {reading : Data → Result A FieldFault} → Within (λ x. p x ≡ true) reading → (limit : ℕ) → Within (IsListOf limit p) (list_in limit reading)
list_in-within {p = p} h limit d = of_items h (λ before x. is_full limit before) (IsListOf limit p) one_more (items_in d) (none_fit limit)

-- ---- names

neither : {a b : Bool} → a ≡ false → b ≡ false → (a || b) ≡ false
neither p q = λ i. p i || q i

-- a new name behind names that do not repeat
repeats-push : {K : Type 0} {cmp : K → K → Ordering} → IsTotalOrder cmp → (ks : List K) (k : K) → repeats cmp ks ≡ false → has_member cmp ks k ≡ false → repeats cmp (ks ++ k ∷ []) ≡ false
repeats-push o [] k h new = refl
repeats-push {K} {cmp} o (q ∷ qs) k h new =
    let apart : eq_by_cmp cmp q k ≡ false = (eq_by_cmp_equiv o).symm q k ∙ (or_parts _ _ new).0 in
    neither
    (list_any-append (eq_by_cmp cmp q) qs (k ∷ []) ∙ neither (or_parts _ _ h).0 (neither apart refl))
    (repeats-push o qs k (or_parts (list_any (eq_by_cmp cmp q) qs) _ h).1 (or_parts (eq_by_cmp cmp k q) _ new).1)

-- such a list, in which no name stands twice
pub record IsDistinctListOf {A K : Type 0} (cmp : K → K → Ordering) (name : A → K) (limit : ℕ) (p : A → Bool) (xs : List A) : Type 0 where
  pub few : nat_le (length xs) limit ≡ true
  pub each : list_all p xs ≡ true
  pub once : repeats cmp (map name xs) ≡ false

pub none_twice : {A K : Type 0} {cmp : K → K → Ordering} {name : A → K} {p : A → Bool} (limit : ℕ) → IsDistinctListOf cmp name limit p []
none_twice limit = record { few = le-leb 0 limit (omega arith); each = refl; once = refl }

one_more_name : {A K : Type 0} {cmp : K → K → Ordering} {name : A → K} {limit : ℕ} {p : A → Bool} → IsTotalOrder cmp → (xs : List A) (x : A) → IsDistinctListOf cmp name limit p xs → p x ≡ true
    → is_known_or_full cmp name limit xs x ≡ false → IsDistinctListOf cmp name limit p (xs ++ x ∷ [])
one_more_name {cmp = cmp} {name = name} {limit = limit} {p = p} o xs x l q r =
    let more : IsListOf limit p (xs ++ x ∷ []) = one_more xs x (record { few = l.few; each = l.each }) q (or_parts (has_member cmp (map name xs) (name x)) _ r).1 in
    record { few = more.few; each = more.each; once = ap (repeats cmp) (map-append name xs (x ∷ [])) ∙ repeats-push o (map name xs) (name x) l.once (or_parts _ _ r).0 }

pub distinct_list_in-within : {A K : Type 0} {cmp : K → K → Ordering} {p : A → Bool} {reading : Data → Result A FieldFault} → Within (λ x. p x ≡ true) reading → IsTotalOrder cmp → (name : A → K) (limit : ℕ)
    → Within (IsDistinctListOf cmp name limit p) (distinct_list_in cmp name limit reading)
distinct_list_in-within {cmp = cmp} {p = p} h o name limit d =
    of_items h (is_known_or_full cmp name limit) (IsDistinctListOf cmp name limit p) (one_more_name o) (items_in d) (none_twice limit)

-- ---- a list in an entry

inside : {A : Type 0} {P : List A → Type 0} {r : Result (List A) ListFault} → Gives P r → Gives P (without_place r)
inside {r = Ok xs} g = record { holds = g.holds }
inside {r = Err e} g = record { holds = tt }

pub without_place-within : {A : Type 0} {P : List A → Type 0} {reading : Data → Result (List A) ListFault} → Within P reading → Within P (λ d. without_place (reading d))
without_place-within h d = inside (h d)

by_name : {A : Type 0} {P : A → Type 0} (name : FieldName) {r : Result A FieldFault} → Gives P r → Gives P (named name r)
by_name name {r = Ok x} g = record { holds = g.holds }
by_name name {r = Err e} g = record { holds = tt }

by_place : {A : Type 0} {P : List A → Type 0} (name : FieldName) {r : Result (List A) ListFault} → Gives P r → Gives P (listed name r)
by_place name {r = Ok x} g = record { holds = g.holds }
by_place name {r = Err e} g = record { holds = tt }

in_default : {A : Type 0} (p : A → Bool) (x : A) (o : Option A) → p x ≡ true → none_or p o ≡ true → p (unwrap_or o x) ≡ true
in_default p x None h k = h
in_default p x (Some y) h k = k

module _ {A : Type 0} {p : A → Bool} {reading : Data → Result A FieldFault} (h : Within (λ x. p x ≡ true) reading) (name : FieldName) where
  pub needed-within : Within (λ x. p x ≡ true) (needed name reading)
  needed-within d = by_name name (needed_in-within h (text_of_field name) d)

  pub optional-within : Within (λ x. none_or p x ≡ true) (optional name reading)
  optional-within d = by_name name (maybe_in-within h (text_of_field name) d)

  pub defaulted-within : (x : A) → p x ≡ true → Within (λ y. p y ≡ true) (defaulted x name reading)
  defaulted-within x k d = next (optional-within d) (λ o e. given (in_default p x o k e))

-- lists, with names or without
module _ {A : Type 0} {P : List A → Type 0} {reading : Data → Result (List A) ListFault} (h : Within P reading) where
  in_needed : (r : Result Data FieldFault) → Gives P (list_by reading r)
  in_needed (Ok d) = h d
  in_needed (Err e) = record { holds = tt }

  in_optional : P [] → (r : Result (Option Data) FieldFault) → Gives P (optional_list_by reading r)
  in_optional none (Ok None) = given none
  in_optional none (Ok (Some d)) = h d
  in_optional none (Err e) = record { holds = tt }

  pub needed_list-within : (name : FieldName) → Within P (λ d. listed name (list_by reading (field_in (text_of_field name) d)))
  needed_list-within name d = by_place name (in_needed (field_in (text_of_field name) d))

  pub optional_list-within : P [] → (name : FieldName) → Within P (λ d. listed name (optional_list_by reading (optional_in (text_of_field name) d)))
  optional_list-within none name d = by_place name (in_optional none (optional_in (text_of_field name) d))
