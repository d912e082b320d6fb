-- A value is no longer than the JSON that it is made of, so no longer than its text.
use Rattle.std.proofs.Common.{◌≡◌, ℕ, zero, suc, ◌+◌, ◌-◌, ◌^◌, ◌<◌, ◌≤◌, ◌==◌, Bool, true, false, cond, ◌&&◌, List, [], ◌∷◌, ◌++◌, decimal, drop, length, nat_le, nat_lt, Option, Some, None, option_and_then, option_map, refl, ap, subst, sym, ◌∙◌, arith, append-nil}
use Rattle.std.specs.declared.cmp.Ordering.TheVariants.{Less, Equal, Greater}
use Rattle.std.specs.Cmp.Lexicographic.{slice_cmp}
use Rattle.std.specs.Float.{binary64, float_is_finite}
use Rattle.std.specs.List.{slice_index}
use Rattle.std.specs.Ordering.{match_ordering, nat_cmp}
use Rattle.std.specs.Str.Parse.{digits_value}
use Rattle.std.proofs.lemmas.Bool.{and_parts, ltb-true, not-true}
use Rattle.std.proofs.lemmas.Int.Digits.{digits_value-lt}
use Rattle.std.proofs.lemmas.Fmt.{length-decimal-le}
use Rattle.std.proofs.lemmas.List.{length-drop, length-take}
use Rattle.std.proofs.lemmas.Option.{none-some}
use Rattle.fast_float.specs.Text.{Parts, digits_end, digits_of, dot, minus, nearest, scan}
use Rattle.fast_float.proofs.Reading.{scan_numeral-AllDigits}
use Rattle.json.specs.Json as json
use Rattle.json.specs.Lex.{tokens}
use Rattle.json.specs.Token.{Token}
use Rattle.serde_json.specs.Data.{Data, Members, array, float, item, member, negative, no_members, number, object, put, unsigned}
use Rattle.serde_json.specs.Read.{float_of, is_integer, max_depth, number_from, number_of, of_items, of_json, of_members}
use Rattle.json_lengths.specs.Laws.{TextsHoldTheirValues}
use Rattle.json_lengths.specs.Sizes.{closed, data_size, items_size, members_size, number_size}
use Rattle.json_lengths.proofs.Grammar.{entries_size, fields_size, json_size, value_within}
use Rattle.json_lengths.proofs.Tokens.{tokens_within}

-- what is there is at most so long
abbrev AtMost : {A : Type 0} → (A → ℕ) → ℕ → Option A → Type 0
AtMost size n None = Unit {0}
AtMost size n (Some x) = size x ≤ n

by_test : {A : Type 0} (size : A → ℕ) (n : ℕ) (b : Bool) (x y : Option A) → (b ≡ true → AtMost size n x) → AtMost size n y → AtMost size n (cond b x y)
by_test size n true x y h k = h refl
by_test size n false x y h k = k

into : {A B : Type 0} (size : A → ℕ) (n : ℕ) (larger : B → ℕ) (m : ℕ) (f : A → B) (o : Option A) → AtMost size n o → ((x : A) → size x ≤ n → larger (f x) ≤ m) → AtMost larger m (option_map f o)
into size n larger m f None h k = tt
into size n larger m f (Some x) h k = k x h

next : {A B : Type 0} (size : A → ℕ) (n : ℕ) (larger : B → ℕ) (m : ℕ) (o : Option A) (f : A → Option B) → AtMost size n o → ((x : A) → size x ≤ n → AtMost larger m (f x)) → AtMost larger m (option_and_then f o)
next size n larger m None f h k = tt
next size n larger m (Some x) f h k = k x h

-- ---- numbers

no_point : (b : Bool) (ds : List ℕ) → b ≡ false → cond b ds [] ≡ []
no_point b ds e = ap (λ (c : Bool). cond c ds []) e

whole_fits : (s : List ℕ) → is_integer (scan s) ≡ true → ((scan s).fraction ≡ []) × (length (scan s).whole ≤ length s)
unfolding scan
whole_fits s h =
    let a : ℕ = digits_end s 0 in
    let point : (slice_index s a == dot) ≡ false = not-true _ (and_parts _ _ (and_parts _ _ h).0).1 in
    (no_point (slice_index s a == dot) _ point, omega (arith, length-take (a - 0) (drop 0 s), length-drop 0 s))

number_short : (s : List ℕ) → is_integer (scan s) ≡ true → digits_of (scan s) < 2 ^ 64 → length (decimal (digits_of (scan s))) ≤ length s
number_short s h small =
    let p : Parts = scan s in
    let fits = whole_fits s h in
    let some : 0 < length p.whole = ltb-true 0 (length p.whole) (and_parts _ _ (and_parts _ _ h).0).0 in
    let same : p.whole ++ p.fraction ≡ p.whole = ap (λ (ds : List ℕ). p.whole ++ ds) fits.0 ∙ append-nil p.whole in
    let below : digits_value 10 p.whole < 10 ^ length p.whole = digits_value-lt 10 p.whole (scan_numeral-AllDigits s).0 in
    let wide : digits_of p < 10 ^ length p.whole = subst (λ (ds : List ℕ). digits_value 10 ds < 10 ^ length p.whole) (sym same) below in
    omega (arith, length-decimal-le (length p.whole) (digits_of p) (omega (arith, some)) wide small, fits.1)

float_short : (n : ℕ) (sign : Bool) (p : Parts) → AtMost number_size n (float_of sign p)
float_short n sign p = by_test number_size n (float_is_finite (nearest binary64 sign p)) (Some (float (nearest binary64 sign p))) None (λ e. omega arith) tt

positive_short : (s : List ℕ) → AtMost number_size (length s) (number_from false (scan s))
positive_short s =
    by_test number_size (length s) (is_integer (scan s) && nat_lt (digits_of (scan s)) (2 ^ 64)) (Some (unsigned (digits_of (scan s)))) (float_of false (scan s))
    (λ e. let parts = and_parts (is_integer (scan s)) (nat_lt (digits_of (scan s)) (2 ^ 64)) e in number_short s parts.0 (ltb-true (digits_of (scan s)) (2 ^ 64) parts.1)) (float_short (length s) false (scan s))

negative_short : (n : ℕ) (p : Parts) → AtMost number_size n (number_from true p)
negative_short n p = by_test number_size n (is_integer p && nat_lt 0 (digits_of p) && nat_le (digits_of p) (2 ^ 63)) (Some (negative _)) (float_of true p) (λ e. omega arith) (float_short n true p)

numbers_short : (s : List ℕ) → AtMost number_size (length s) (number_of s)
unfolding number_of
numbers_short s = by_test number_size (length s) (slice_index s 0 == minus) (number_from true (scan (drop 1 s))) (number_from false (scan s)) (λ e. negative_short (length s) (scan (drop 1 s))) (positive_short s)

-- ---- members

put_short : (k : List ℕ) (d : Data) (ms : Members) → members_size (put k d ms) ≤ length k + 4 + data_size d + members_size ms
put_short k d no_members = omega arith
put_short k d (member l e ms) =
    let later : members_size (put k d ms) ≤ length k + 4 + data_size d + members_size ms = put_short k d ms in
    elim (slice_cmp nat_cmp k l) as (λ r. members_size (match_ordering r (member k d (member l e ms)) (member l d ms) (member l e (put k d ms))) ≤ length k + 4 + data_size d + members_size (member l e ms)) [
      | Less ↦ omega arith
      | Equal ↦ omega arith
      | Greater ↦ omega (arith, later)
    ]

closed_grows : (n m : ℕ) → n ≤ m → closed n ≤ closed m
closed_grows zero zero h = omega arith
closed_grows zero (suc m) h = omega arith
closed_grows (suc n) zero h = absurd (omega (arith, h))
closed_grows (suc n) (suc m) h = omega (arith, h)

-- ---- values

mutual
  of_json_short : (j : json.Json) → AtMost data_size (json_size j) (of_json j)
  of_json_short json.null = omega arith
  of_json_short (json.boolean b) = omega arith
  of_json_short (json.number s) = into number_size (length s) data_size (length s) number (number_of s) (numbers_short s) (λ n h. h)
  of_json_short (json.string s) = omega arith
  of_json_short (json.array js) = into items_size (entries_size js) data_size (1 + closed (entries_size js)) array (of_items js) (of_items_short js) (λ ds h. omega (arith, closed_grows (items_size ds) (entries_size js) h))
  of_json_short (json.object ms) =
      into members_size (fields_size ms) data_size (1 + closed (fields_size ms)) object (of_members ms no_members) (of_members_short ms no_members (fields_size ms) (omega arith)) (λ ds h. omega (arith, closed_grows (members_size ds) (fields_size ms) h))

  of_items_short : (js : json.Items) → AtMost items_size (entries_size js) (of_items js)
  of_items_short json.no_items = omega arith
  of_items_short (json.item j js) =
      next data_size (json_size j) items_size (entries_size (json.item j js)) (of_json j) _ (of_json_short j)
      (λ d h. into items_size (entries_size js) items_size (entries_size (json.item j js)) (item d) (of_items js) (of_items_short js) (λ ds k. omega (arith, h, k)))

  of_members_short : (ms : json.Members) (found : Members) (n : ℕ) → fields_size ms + members_size found ≤ n → AtMost members_size n (of_members ms found)
  of_members_short json.no_members found n h = omega (arith, h)
  of_members_short (json.member k j ms) found n h =
      next data_size (json_size j) members_size n (of_json j) _ (of_json_short j) (λ d g. of_members_short ms (put k d found) n (omega (arith, h, g, put_short k d found)))

-- ---- a text

last_short : (o : Option (json.Json × List Token)) (n : ℕ) (d : Data) → ((j : json.Json) (rest : List Token) → o ≡ Some (j, rest) → json_size j ≤ n) → option_and_then of_json (option_and_then (λ p. json.if_last p.0 p.1) o) ≡ Some d → data_size d ≤ n
last_short None n d h e = absurd (none-some d e)
last_short (Some (j, [])) n d h e = subst (λ (o : Option Data). AtMost data_size (json_size j) o → data_size d ≤ n) (sym e) (λ k. omega (arith, k, h j [] refl)) (of_json_short j)
last_short (Some (j, t ∷ ts)) n d h e = absurd (none-some d e)

pub texts_hold_their_values : TextsHoldTheirValues
texts_hold_their_values text d e =
    last_short (json.value max_depth (tokens text)) (length text) d (λ j rest f. omega (arith, value_within max_depth (tokens text) j rest f, tokens_within text)) e
