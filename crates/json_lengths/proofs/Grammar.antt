-- A value that tokens spell takes no more than they do.
use Rattle.std.proofs.Common.{◌≡◌, ℕ, zero, suc, ◌+◌, ◌≤◌, true, false, List, [], ◌∷◌, length, Option, Some, None, option_and_then, refl, ap, arith}
use Rattle.std.proofs.lemmas.Option.{none-some, same_Some}
use Rattle.json.specs.Json.{Items, Json, Members, Parse, after_end_array, array, boolean, item, items, items_step, member, members, members_step, no_items, no_members, null, number, object, parse_map, read_key, string, value, value_with}
use Rattle.json.specs.Token.{Token}
use Rattle.json.specs.Token as tokens
use Rattle.json.proofs.Grammar.{closed_array, read_key_is}
use Rattle.json_lengths.specs.Sizes.{closed}
use Rattle.json_lengths.proofs.Tokens.{cost}

abbrev mutual
  pub json_size : Json → ℕ
  json_size null = 0
  json_size (boolean b) = 0
  json_size (number s) = length s
  json_size (string s) = length s + 2
  json_size (array js) = 1 + closed (entries_size js)
  json_size (object ms) = 1 + closed (fields_size ms)

  pub entries_size : Items → ℕ
  entries_size no_items = 0
  entries_size (item j js) = json_size j + 1 + entries_size js

  pub fields_size : Members → ℕ
  fields_size no_members = 0
  fields_size (member k j ms) = length k + 4 + json_size j + fields_size ms

closed_same : (n : ℕ) → 1 ≤ n → closed n ≡ n
closed_same zero h = absurd (omega (arith, h))
closed_same (suc n) h = refl

-- what was read takes so much, with the rest
abbrev Costs : {A : Type 0} → (A → ℕ) → ℕ → Option (A × List Token) → Type 0
Costs size n None = Unit {0}
Costs size n (Some p) = size p.0 + cost true p.1 ≤ n

-- the next step
then : {A B : Type 0} (size : A → ℕ) (n : ℕ) (larger : B → ℕ) (m : ℕ) (o : Option (A × List Token)) (f : A × List Token → Option (B × List Token)) → Costs size n o
    → ((x : A) (ts : List Token) → size x + cost true ts ≤ n → Costs larger m (f (x, ts))) → Costs larger m (option_and_then f o)
then size n larger m None f h k = tt
then size n larger m (Some p) f h k = k p.0 p.1 h

-- the same value in another
mapped : {A B : Type 0} (size : A → ℕ) (n : ℕ) (larger : B → ℕ) (m : ℕ) (f : A → B) (o : Option (A × List Token)) → Costs size n o
    → ((x : A) (k : ℕ) → size x + k ≤ n → larger (f x) + k ≤ m) → Costs larger m (parse_map f o)
mapped size n larger m f None h k = tt
mapped size n larger m f (Some p) h k = k p.0 (cost true p.1) h

-- a reader of values
record Reads (P : Parse Json) : Type 0 where
  first : (ts : List Token) → Costs json_size (cost false ts) (P ts)
  later : (ts : List Token) → Costs (λ j. 1 + json_size j) (cost true ts) (P ts)

module _ (P : Parse Json) (reads : Reads P) where
  abbrev more_items : Items → ℕ
  more_items js = entries_size js + 1

  later_items : (n : ℕ) (ts : List Token) → Costs more_items (cost true ts) (items P n ts)
  unfolding items
  later_items zero ts = tt
  later_items (suc n) ts = by_end (λ us. later_items n us) (after_end_array ts) refl
    where
      by_end : ((us : List Token) → Costs more_items (cost true us) (items P n us)) → (o : Option (List Token)) → after_end_array ts ≡ o → Costs more_items (cost true ts) (items_step P (items P n) ts o)
      by_end ih (Some rest) e = omega (arith, ap (λ (us : List Token). cost true us) (closed_array ts rest e))
      by_end ih None e =
          then (λ j. 1 + json_size j) (cost true ts) more_items (cost true ts) (P ts) _ (reads.later ts)
          (λ j us h. mapped more_items (cost true us) more_items (cost true ts) (item j) (items P n us) (ih us) (λ js k g. omega (arith, h, g)))

  first_items : (n : ℕ) (ts : List Token) → Costs (λ js. closed (entries_size js)) (cost false ts) (items P n ts)
  unfolding items
  first_items zero ts = tt
  first_items (suc n) ts = by_end (after_end_array ts) refl
    where
      by_end : (o : Option (List Token)) → after_end_array ts ≡ o → Costs (λ js. closed (entries_size js)) (cost false ts) (items_step P (items P n) ts o)
      by_end (Some rest) e = omega (arith, ap (λ (us : List Token). cost false us) (closed_array ts rest e))
      by_end None e =
          then json_size (cost false ts) (λ js. closed (entries_size js)) (cost false ts) (P ts) _ (reads.first ts)
          (λ j us h. mapped more_items (cost true us) (λ js. closed (entries_size js)) (cost false ts) (item j) (items P n us) (later_items n us)
          (λ js k g. omega (arith, h, g, closed_same (entries_size (item j js)) (omega arith))))

  abbrev more_members : Members → ℕ
  more_members ms = fields_size ms + 1

  later_members : (n : ℕ) (ts : List Token) → Costs more_members (cost true ts) (members P n ts)
  unfolding members
  later_members zero ts = tt
  later_members (suc n) ts = by_key (λ us. later_members n us) (read_key ts) refl
    where
      by_key : ((us : List Token) → Costs more_members (cost true us) (members P n us)) → (o : Option (Option (List ℕ) × List Token)) → read_key ts ≡ o → Costs more_members (cost true ts) (option_and_then (λ p. members_step P (members P n) p.0 p.1) o)
      by_key ih None e = tt
      by_key ih (Some (None, us)) e = omega (arith, ap (λ (vs : List Token). cost true vs) (read_key_is ts None us e))
      by_key ih (Some (Some k, us)) e =
          let here : cost true ts ≡ 1 + (length k + 3) + cost false us = ap (λ (vs : List Token). cost true vs) (read_key_is ts (Some k) us e) in
          then json_size (cost false us) more_members (cost true ts) (P us) _ (reads.first us)
          (λ j vs h. mapped more_members (cost true vs) more_members (cost true ts) (member k j) (members P n vs) (ih vs) (λ ms i g. omega (arith, h, g, here)))

  first_members : (n : ℕ) (ts : List Token) → Costs (λ ms. closed (fields_size ms)) (cost false ts) (members P n ts)
  unfolding members
  first_members zero ts = tt
  first_members (suc n) ts = by_key (read_key ts) refl
    where
      by_key : (o : Option (Option (List ℕ) × List Token)) → read_key ts ≡ o → Costs (λ ms. closed (fields_size ms)) (cost false ts) (option_and_then (λ p. members_step P (members P n) p.0 p.1) o)
      by_key None e = tt
      by_key (Some (None, us)) e = omega (arith, ap (λ (vs : List Token). cost false vs) (read_key_is ts None us e))
      by_key (Some (Some k, us)) e =
          let here : cost false ts ≡ 0 + (length k + 3) + cost false us = ap (λ (vs : List Token). cost false vs) (read_key_is ts (Some k) us e) in
          then json_size (cost false us) (λ ms. closed (fields_size ms)) (cost false ts) (P us) _ (reads.first us)
          (λ j vs h. mapped more_members (cost true vs) (λ ms. closed (fields_size ms)) (cost false ts) (member k j) (members P n vs) (later_members n vs)
          (λ ms i g. omega (arith, h, g, here, closed_same (fields_size (member k j ms)) (omega arith))))

-- a value over readers of what is in brackets
module _ (a : Parse Items) (o : Parse Members) (entries : (ts : List Token) → Costs (λ js. closed (entries_size js)) (cost false ts) (a ts)) (fields : (ts : List Token) → Costs (λ ms. closed (fields_size ms)) (cost false ts) (o ts)) where
  first_value : (ts : List Token) → Costs json_size (cost false ts) (value_with a o ts)
  first_value [] = tt
  first_value (tokens.begin_object ∷ ts) = mapped (λ ms. closed (fields_size ms)) (cost false ts) json_size (1 + cost false ts) object (o ts) (fields ts) (λ ms k h. omega (arith, h))
  first_value (tokens.end_object ∷ ts) = tt
  first_value (tokens.begin_array ∷ ts) = mapped (λ js. closed (entries_size js)) (cost false ts) json_size (1 + cost false ts) array (a ts) (entries ts) (λ js k h. omega (arith, h))
  first_value (tokens.end_array ∷ ts) = tt
  first_value (tokens.key s ∷ ts) = tt
  first_value (tokens.string s ∷ ts) = omega arith
  first_value (tokens.number s ∷ ts) = omega arith
  first_value (tokens.boolean b ∷ ts) = omega arith
  first_value (tokens.null ∷ ts) = omega arith
  first_value (tokens.bad ∷ ts) = tt

  later_value : (ts : List Token) → Costs (λ j. 1 + json_size j) (cost true ts) (value_with a o ts)
  later_value [] = tt
  later_value (tokens.begin_object ∷ ts) = mapped (λ ms. closed (fields_size ms)) (cost false ts) (λ j. 1 + json_size j) (1 + 1 + cost false ts) object (o ts) (fields ts) (λ ms k h. omega (arith, h))
  later_value (tokens.end_object ∷ ts) = tt
  later_value (tokens.begin_array ∷ ts) = mapped (λ js. closed (entries_size js)) (cost false ts) (λ j. 1 + json_size j) (1 + 1 + cost false ts) array (a ts) (entries ts) (λ js k h. omega (arith, h))
  later_value (tokens.end_array ∷ ts) = tt
  later_value (tokens.key s ∷ ts) = tt
  later_value (tokens.string s ∷ ts) = omega arith
  later_value (tokens.number s ∷ ts) = omega arith
  later_value (tokens.boolean b ∷ ts) = omega arith
  later_value (tokens.null ∷ ts) = omega arith
  later_value (tokens.bad ∷ ts) = tt

reads_value : (depth : ℕ) → Reads (value depth)
unfolding value
reads_value zero = record { first = first_value (λ ts. None) (λ ts. None) (λ ts. tt) (λ ts. tt); later = later_value (λ ts. None) (λ ts. None) (λ ts. tt) (λ ts. tt) }
reads_value (suc depth) =
    let entries : (ts : List Token) → Costs (λ js. closed (entries_size js)) (cost false ts) (items (value depth) (length ts) ts) = λ ts. first_items (value depth) (reads_value depth) (length ts) ts in
    let fields : (ts : List Token) → Costs (λ ms. closed (fields_size ms)) (cost false ts) (members (value depth) (length ts) ts) = λ ts. first_members (value depth) (reads_value depth) (length ts) ts in
    record {
      first = first_value (λ ts. items (value depth) (length ts) ts) (λ ts. members (value depth) (length ts) ts) entries fields;
      later = later_value (λ ts. items (value depth) (length ts) ts) (λ ts. members (value depth) (length ts) ts) entries fields;
    }

-- the value at the front of tokens
pub value_within : (depth : ℕ) (ts : List Token) (j : Json) (rest : List Token) → value depth ts ≡ Some (j, rest) → json_size j ≤ cost false ts
value_within depth ts j rest e = by_found (value depth ts) e ((reads_value depth).first ts)
  where
    by_found : (o : Option (Json × List Token)) → o ≡ Some (j, rest) → Costs json_size (cost false ts) o → json_size j ≤ cost false ts
    by_found None e h = absurd (none-some (j, rest) e)
    by_found (Some p) e h =
        let same : p.0 ≡ j = ap (λ (q : Json × List Token). q.0) (same_Some p (j, rest) e) in
        omega (arith, h, ap json_size same)
