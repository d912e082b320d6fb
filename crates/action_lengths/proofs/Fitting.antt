-- What each kind of value gives is no longer than the value.
use Rattle.std.proofs.Common.{◌≡◌, ℕ, ◌+◌, ◌≤◌, ◌&&◌, Bool, true, false, cond, List, [], ◌∷◌, ◌++◌, Option, Some, None, Result, Ok, Err, codes, decimal, length, nat_le, nat_lt, refl, ap, sym, ◌∙◌, arith}
use Rattle.std.specs.declared.cmp.Ordering.{Ordering}
use Rattle.std.specs.List.{join_by}
use Rattle.std.specs.Result.{result_ok}
use Rattle.std.proofs.lemmas.List.{length-map}
use Rattle.std.proofs.lemmas.Option.{none-some}
use Rattle.serde_json.specs.Data.{Data, Items, array, boolean, float, item, negative, no_items, null, number, object, string, unsigned}
use Rattle.serde_json.specs.Find.{get}
use Rattle.coin_frac.specs.Fraction.{fraction}
use Rattle.gov_ids.specs.Laws.{digit_lowered, lowered}
use Rattle.gov_ids.specs.Spelling.{account_of, account_text, action_id_of, action_id_text, credential_of, credential_text, hash_of, hash_text}
use Rattle.gov_ids.proofs.Spelled.{account_spelled, action_id_spelled, credential_spelled, hash_spelled}
use Rattle.json_fields.specs.declared.fault.FieldFault.{FieldFault}
use Rattle.json_fields.specs.declared.fault.FieldFault.TheVariants.{Missing, NoMemory, OutOfRange, WrongKind}
use Rattle.json_fields.specs.declared.lists.ListFault.{ListFault}
use Rattle.json_fields.specs.Entries.{both_in, maybe_by, maybe_in, needed_in, without_place}
use Rattle.json_fields.specs.Kinds.{account_in, action_id_in, credential_in, field_in, hash_in, items_in, number_below, or_none, pair_in, present, ratio_in, text_by, text_in, unit_in}
use Rattle.json_fields.specs.Lists.{distinct_list_in, entries_after, entries_of, entry_at, fault_at, is_known_or_full}
use Rattle.json_fields.specs.Steps.{◌>>=◌}
use Rattle.text_forms.specs.ActionText.{array as array_text, field, fraction_json, hash_json, maybe, quoted}
use Rattle.text_model.specs.Words.{Text}
use Rattle.json_lengths.specs.Sizes.{closed, data_size, items_size}
use Rattle.record_read.proofs.Gives.{Gives, given, if_some, if_test, next}
use Rattle.action_lengths.proofs.Members.{member_size, size_at}
use Rattle.action_lengths.proofs.Texts.{closed_grows, closed_least, cost, field_length, list_length, quoted_length, total, total-push, two_length}

-- what is read, as text, is no longer than the value
abbrev pub Fits : {A : Type 0} → (A → Text) → (Data → Result A FieldFault) → Type 0
Fits f reading = (d : Data) → Gives (λ x. length (f x) ≤ data_size d) (reading d)

-- what follows from the property
pub weaken : {A E : Type 0} {P Q : A → Type 0} {r : Result A E} → Gives P r → ((x : A) → P x → Q x) → Gives Q r
weaken {r = Ok x} g k = record { holds = k x g.holds }
weaken {r = Err e} g k = record { holds = tt }

-- ---- numbers and texts

pub number_fits : (bound : ℕ) → Fits decimal (number_below bound)
number_fits bound null = record { holds = tt }
number_fits bound (boolean b) = record { holds = tt }
number_fits bound (number (unsigned n)) = if_test (nat_lt n bound) n OutOfRange (λ e. omega arith)
number_fits bound (number (negative z)) = record { holds = tt }
number_fits bound (number (float x)) = record { holds = tt }
number_fits bound (string s) = record { holds = tt }
number_fits bound (array ds) = record { holds = tt }
number_fits bound (object ms) = record { holds = tt }

pub text_size : (d : Data) → Gives (λ s. length s + 2 ≡ data_size d) (text_in d)
text_size null = record { holds = tt }
text_size (boolean b) = record { holds = tt }
text_size (number n) = record { holds = tt }
text_size (string s) = given refl
text_size (array ds) = record { holds = tt }
text_size (object ms) = record { holds = tt }

text_fits : {A : Type 0} (read : List ℕ → Option A) (text : A → Text) → ((s : List ℕ) (x : A) → read s ≡ Some x → lowered s ≡ text x) → Fits (λ x. quoted (text x)) (text_by read)
text_fits read text h d =
    next (text_size d) (λ s e. if_some OutOfRange (read s) (λ x f.
    let same : length (text x) ≡ length s = ap (λ (t : Text). length t) (sym (h s x f)) ∙ length-map s digit_lowered in omega (arith, e, same, quoted_length (text x))))

result_some : {E : Type 0} (r : Result (List ℕ) E) (h : List ℕ) → result_ok r ≡ Some h → r ≡ Ok h
result_some (Ok x) h e = cc
result_some (Err x) h e = absurd (none-some h e)

pub hash_fits : (n : ℕ) → Fits hash_json (hash_in n)
hash_fits n = text_fits (λ text. result_ok (hash_of n text)) hash_text (λ s h e. ((hash_spelled n s h).0 (result_some (hash_of n s) h e)).1)

pub credential_fits : Fits (λ c. quoted (credential_text c)) credential_in
credential_fits = text_fits credential_of credential_text (λ s c e. ((credential_spelled s c).0 e).1)

pub account_fits : Fits (λ a. quoted (account_text a)) account_in
account_fits = text_fits account_of account_text (λ s a e. ((account_spelled s a).0 e).1)

pub action_id_fits : Fits (λ a. quoted (action_id_text a)) action_id_in
action_id_fits = text_fits action_id_of action_id_text (λ s a e. ((action_id_spelled s a).0 e).1)

-- ---- pairs

pair_size : (d : Data) → Gives (λ p. data_size p.0 + data_size p.1 + 3 ≤ data_size d) (pair_in d)
pair_size null = record { holds = tt }
pair_size (boolean b) = record { holds = tt }
pair_size (number n) = record { holds = tt }
pair_size (string s) = record { holds = tt }
pair_size (array no_items) = record { holds = tt }
pair_size (array (item a no_items)) = record { holds = tt }
pair_size (array (item a (item b no_items))) = given (omega (arith, closed_least (items_size (item a (item b no_items)))))
pair_size (array (item a (item b (item c ds)))) = record { holds = tt }
pair_size (object ms) = record { holds = tt }

pub both_fit : {A B : Type 0} (f : A → Text) (g : B → Text) {first : Data → Result A FieldFault} {second : Data → Result B FieldFault} → Fits f first → Fits g second → Fits (λ p. array_text (f p.0 ∷ g p.1 ∷ [])) (both_in first second)
unfolding both_in
both_fit f g h k d = next (pair_size d) (λ p e. next (h p.0) (λ a u. next (k p.1) (λ b v. given (omega (arith, e, u, v, two_length (f a) (g b))))))

pub unit_fits : Fits fraction_json unit_in
unfolding unit_in
unit_fits d =
    next (pair_size d) (λ p e. next (number_fits _ p.0) (λ num u. next (number_fits _ p.1) (λ den v.
    if_test (nat_le 1 den && nat_le num den) (fraction num den) OutOfRange (λ t. omega (arith, e, u, v, two_length (decimal num) (decimal den))))))

pub ratio_fits : Fits fraction_json ratio_in
unfolding ratio_in
ratio_fits d =
    next (pair_size d) (λ p e. next (number_fits _ p.0) (λ num u. next (number_fits _ p.1) (λ den v.
    if_test (nat_le 1 den) (fraction num den) OutOfRange (λ t. omega (arith, e, u, v, two_length (decimal num) (decimal den))))))

-- ---- lists

entry_fits : {A : Type 0} {P : A → Type 0} (i : ℕ) (out : A → Bool) (r : Result A FieldFault) → Gives P r → Gives P (entry_at i out r)
entry_fits i out (Err e) g = record { holds = tt }
entry_fits {A} {P} i out (Ok x) g = elim (out x) as (λ b. Gives P (cond b (Err (fault_at i OutOfRange)) (Ok x))) [
  | true ↦ record { holds = tt }
  | false ↦ given g.holds
]

module _ {A : Type 0} (f : A → Text) {reading : Data → Result A FieldFault} (h : Fits f reading) (out : List A → A → Bool) where
  after_fits : (before : List A) (ds : Items) → Gives (λ xs. total f xs ≤ total f before + items_size ds) (entries_after reading out before ds)
  after_fits before no_items = given (omega arith)
  after_fits before (item d ds) =
      next (entry_fits (length before) (out before) (reading d) (h d))
      (λ x u. weaken (after_fits (before ++ x ∷ []) ds) (λ xs v. omega (arith, u, v, total-push f before x)))

  items_fit : (d : Data) → Gives (λ xs. 1 + closed (total f xs) ≤ data_size d) (entries_of reading out (items_in d))
  items_fit null = record { holds = tt }
  items_fit (boolean b) = record { holds = tt }
  items_fit (number n) = record { holds = tt }
  items_fit (string s) = record { holds = tt }
  items_fit (array ds) = weaken (after_fits [] ds) (λ xs v. omega (arith, closed_grows (total f xs) (items_size ds) (omega (arith, v))))
  items_fit (object ms) = record { holds = tt }

inside : {A : Type 0} {P : List A → Type 0} (r : Result (List A) ListFault) → Gives P r → Gives P (without_place r)
inside (Ok xs) g = record { holds = g.holds }
inside (Err e) g = record { holds = tt }

pub list_fits : {A K : Type 0} (f : A → Text) {reading : Data → Result A FieldFault} → Fits f reading → (cmp : K → K → Ordering) (name : A → K) (limit : ℕ)
    → Fits (λ xs. codes "[" ++ join_by f (codes ",") xs ++ codes "]") (λ d. without_place (distinct_list_in cmp name limit reading d))
list_fits f h cmp name limit d =
    inside (distinct_list_in cmp name limit _ d) (weaken (items_fit f h (is_known_or_full cmp name limit) d) (λ xs v. omega (arith, v, list_length f xs)))

-- ---- fields

found_size : (name : List ℕ) (o : Option Data) → Gives (λ e. length name + 4 + data_size e ≤ member_size name o) (present o)
found_size name None = record { holds = tt }
found_size name (Some null) = record { holds = tt }
found_size name (Some (boolean b)) = given (omega arith)
found_size name (Some (number n)) = given (omega arith)
found_size name (Some (string s)) = given (omega arith)
found_size name (Some (array ds)) = given (omega arith)
found_size name (Some (object ms)) = given (omega arith)

pub field_size : (name : List ℕ) (d : Data) → Gives (λ e. length name + 4 + data_size e ≤ size_at name d) (field_in name d)
field_size name null = record { holds = tt }
field_size name (boolean b) = record { holds = tt }
field_size name (number n) = record { holds = tt }
field_size name (string s) = record { holds = tt }
field_size name (array ds) = record { holds = tt }
field_size name (object ms) = found_size name (get name (object ms))

-- a field with its value
pub needed_fits : {A : Type 0} (f : A → Text) {reading : Data → Result A FieldFault} → Fits f reading → (name : List ℕ) (d : Data) → Gives (λ x. length (field name (f x)) + 1 ≤ size_at name d) (needed_in name reading d)
needed_fits f h name d = next (field_size name d) (λ e u. weaken (h e) (λ x v. omega (arith, u, v, field_length name (f x))))

optional_size : (name : List ℕ) (d : Data) (n : ℕ) (r : Result Data FieldFault) → Gives (λ e. length name + 4 + data_size e ≤ n) r → {A : Type 0} (f : A → Text) {reading : Data → Result A FieldFault} → Fits f reading
    → Gives (λ o. cost (maybe name f o) ≤ n) (or_none r >>= maybe_by reading)
optional_size name d n (Ok e) g f h = next (h e) (λ x v. given (let u = g.holds in omega (arith, u, v, field_length name (f x))))
optional_size name d n (Err Missing) g f h = given (omega arith)
optional_size name d n (Err WrongKind) g f h = record { holds = tt }
optional_size name d n (Err OutOfRange) g f h = record { holds = tt }
optional_size name d n (Err NoMemory) g f h = record { holds = tt }

pub maybe_fits : {A : Type 0} (f : A → Text) {reading : Data → Result A FieldFault} → Fits f reading → (name : List ℕ) (d : Data) → Gives (λ o. cost (maybe name f o) ≤ size_at name d) (maybe_in name reading d)
maybe_fits f h name d = optional_size name d (size_at name d) (field_in name d) (field_size name d) f h
