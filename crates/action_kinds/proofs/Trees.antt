-- A text that is printed from a JSON tree reads as the data of the tree.
use Rattle.std.proofs.Common.{◌≡◌, ℕ, suc, ◌<◌, ◌≤◌, ◌^◌, ◌==◌, ◌&&◌, not, nat_lt, nat_le, Bool, true, false, List, [], ◌∷◌, ◌++◌, Option, Some, option_map, option_and_then, codes, decimal, flat_map, fold, refl, ap, sym, ◌∙◌, arith, append-nil, append_assoc, rules}
use Rattle.std.proofs.lemmas.Bool.{and_from, and_parts, leb-true, lt-ltb, ltb-true, ne_eqb, not-true}
use Rattle.std.proofs.lemmas.Fmt.{digits_decimal}
use Rattle.std.proofs.lemmas.Grind.{fold-append}
use Rattle.std.proofs.lemmas.Str.Parse.{IsNumeralModel, numerals_by_value}
use Rattle.std.specs.Char.{is_ascii_digit}
use Rattle.std.specs.Str.Parse.{digits_value}
use Rattle.std.specs.List.{join_by, list_all}
use Rattle.json.specs.Token.{Token}
use Rattle.json.specs.Json as json
use Rattle.json.specs.Json.{if_last, value}
use Rattle.json.specs.Lex.{tokens}
use Rattle.json.specs.Print.{ends, escape, escape_byte, print, print_from, quoted}
use Rattle.json.specs.Tree.{HasNumbers, ItemsHaveNumbers, MembersHaveNumbers, depth, items_depth, items_tokens, json_tokens, members_depth, members_tokens}
use Rattle.json.proofs.Printed.Decimals.{IsNumber-decimal}
use Rattle.json.proofs.Printed.Tokens.{print_from-append, tokens-print}
use Rattle.json.proofs.Printed.Trees.{ArePrintable-json_tokens, value-json_tokens}
use Rattle.serde_json.specs.Data.{Data, Items, Members, array, item, no_items, no_members, number, object, put, string, unsigned}
use Rattle.serde_json.specs.Read.{max_depth, of_items, of_json, of_members, read}
use Rattle.serde_json.proofs.Numbers.{number_of-decimal}

-- a byte of ASCII
abbrev pub is_low : ℕ → Bool
is_low b = nat_lt b 128

-- this text, of such bytes, is the print of a tree of this data
pub record Spells (deep : ℕ) (text : List ℕ) (d : Data) : Type 0 where
  pub tree : json.Json
  pub prints : print (json_tokens tree) ≡ text
  pub numbers : HasNumbers tree
  pub shallow : depth tree ≤ deep
  pub means : of_json tree ≡ Some d
  pub low : list_all is_low text ≡ true

-- it reads as the data
pub spelled_read : (deep : ℕ) (text : List ℕ) (d : Data) → Spells deep text d → deep ≤ max_depth → read text ≡ Some d
spelled_read deep text d s few =
    let same : tokens text ≡ json_tokens s.tree ++ [] = ap tokens (sym s.prints) ∙ tokens-print (json_tokens s.tree) (ArePrintable-json_tokens s.tree s.numbers) ∙ sym (append-nil (json_tokens s.tree)) in
    let found : value max_depth (tokens text) ≡ Some (s.tree, []) = ap (value max_depth) same ∙ value-json_tokens s.tree max_depth [] (omega (arith, few, s.shallow)) in
    ap (λ (o : Option (json.Json × List Token)). option_and_then of_json (option_and_then (λ p. if_last p.0 p.1) o)) found ∙ s.means

-- ---- bytes that need no escape

-- a printed byte that is no quote and no backslash
abbrev pub is_quiet : ℕ → Bool
is_quiet b = nat_lt 34 b && nat_lt b 127 && not (b == 92)

quiet_byte : (b : ℕ) → is_quiet b ≡ true → escape_byte b ≡ b ∷ []
unfolding escape_byte
quiet_byte b p =
    let two = and_parts (nat_lt 34 b && nat_lt b 127) (not (b == 92)) p in
    let one = and_parts (nat_lt 34 b) (nat_lt b 127) two.0 in
    let low : 34 < b = ltb-true 34 b one.0 in
    let e34 : (b == 34) ≡ false = ne_eqb b 34 (λ e. omega (arith, low, e)) in
    let e92 : (b == 92) ≡ false = not-true (b == 92) two.1 in
    let e8 : (b == 8) ≡ false = ne_eqb b 8 (λ e. omega (arith, low, e)) in
    let e12 : (b == 12) ≡ false = ne_eqb b 12 (λ e. omega (arith, low, e)) in
    let e10 : (b == 10) ≡ false = ne_eqb b 10 (λ e. omega (arith, low, e)) in
    let e13 : (b == 13) ≡ false = ne_eqb b 13 (λ e. omega (arith, low, e)) in
    let e9 : (b == 9) ≡ false = ne_eqb b 9 (λ e. omega (arith, low, e)) in
    let e32 : nat_lt b 32 ≡ false = not_below b low in
    rw (e34, e92, e8, e12, e10, e13, e9, e32) refl
  where
    not_below : (b : ℕ) → 34 < b → nat_lt b 32 ≡ false
    not_below b low = elim (nat_lt b 32) as (λ r. nat_lt b 32 ≡ r → r ≡ false) [
      | true ↦ λ e. absurd (omega (arith, low, ltb-true b 32 e))
      | false ↦ λ e. refl
    ] refl

pub quiet_text : (t : List ℕ) → list_all is_quiet t ≡ true → escape t ≡ t
quiet_text [] p = refl
quiet_text (b ∷ bs) p =
    let both = and_parts (is_quiet b) (list_all is_quiet bs) p in
    rw (quiet_byte b both.0, quiet_text bs both.1) refl

-- ---- how a tree is printed

-- a tree ends a value
mutual
  ends_tree : (c : Bool) (j : json.Json) → fold (λ _ t. ends t) c (json_tokens j) ≡ true
  ends_tree c json.null = refl
  ends_tree c (json.boolean b) = refl
  ends_tree c (json.number s) = refl
  ends_tree c (json.string s) = refl
  ends_tree c (json.array js) = ends_items false js
  ends_tree c (json.object ms) = ends_members false ms

  ends_items : (c : Bool) (js : json.Items) → fold (λ _ t. ends t) c (items_tokens js) ≡ true
  ends_items c json.no_items = refl
  ends_items c (json.item j js) = fold-append (λ _ t. ends t) c (json_tokens j) (items_tokens js) ∙ ends_items _ js

  ends_members : (c : Bool) (ms : json.Members) → fold (λ _ t. ends t) c (members_tokens ms) ≡ true
  ends_members c json.no_members = refl
  ends_members c (json.member k j ms) = fold-append (λ _ t. ends t) false (json_tokens j) (members_tokens ms) ∙ ends_members _ ms

-- a tree after a value has a comma before it
after_value : (j : json.Json) → print_from true (json_tokens j) ≡ 44 ∷ print (json_tokens j)
unfolding print_from
after_value json.null = refl
after_value (json.boolean b) = refl
after_value (json.number s) = refl
after_value (json.string s) = refl
after_value (json.array js) = refl
after_value (json.object ms) = refl

-- a tree before other tokens
pub first_tree : (j : json.Json) (ts : List Token) → print_from false (json_tokens j ++ ts) ≡ print (json_tokens j) ++ print_from true ts
first_tree j ts = print_from-append false (json_tokens j) ts ∙ ap (λ (c : Bool). print (json_tokens j) ++ print_from c ts) (ends_tree false j)

pub later_tree : (j : json.Json) (ts : List Token) → print_from true (json_tokens j ++ ts) ≡ 44 ∷ (print (json_tokens j) ++ print_from true ts)
later_tree j ts =
    print_from-append true (json_tokens j) ts
    ∙ ap (λ (c : Bool). print_from true (json_tokens j) ++ print_from c ts) (ends_tree true j)
    ∙ ap (λ (t : List ℕ). t ++ print_from true ts) (after_value j)

-- ---- texts of ASCII

pub low_both : (xs ys : List ℕ) → list_all is_low xs ≡ true → list_all is_low ys ≡ true → list_all is_low (xs ++ ys) ≡ true
low_both [] ys p q = q
low_both (x ∷ xs) ys p q =
    let both = and_parts (is_low x) (list_all is_low xs) p in
    and_from (is_low x) (list_all is_low (xs ++ ys)) both.0 (low_both xs ys both.1 q)

low_others : (ts : List (List ℕ)) → list_all (list_all is_low) ts ≡ true → list_all is_low (flat_map (λ t. 44 ∷ t) ts) ≡ true
low_others [] p = refl
low_others (t ∷ ts) p = let both = and_parts (list_all is_low t) (list_all (list_all is_low) ts) p in low_both (44 ∷ t) (flat_map (λ t. 44 ∷ t) ts) both.0 (low_others ts both.1)

low_joined : (ts : List (List ℕ)) → list_all (list_all is_low) ts ≡ true → list_all is_low (join_by (λ t. t) (44 ∷ []) ts) ≡ true
low_joined [] p = refl
low_joined (t ∷ ts) p = let both = and_parts (list_all is_low t) (list_all (list_all is_low) ts) p in low_both t (flat_map (λ t. 44 ∷ t) ts) both.0 (low_others ts both.1)

pub quiet_low : (t : List ℕ) → list_all is_quiet t ≡ true → list_all is_low t ≡ true
quiet_low [] p = refl
quiet_low (b ∷ bs) p =
    let both = and_parts (is_quiet b) (list_all is_quiet bs) p in
    let below : b < 127 = ltb-true b 127 (and_parts (nat_lt 34 b) (nat_lt b 127) (and_parts (nat_lt 34 b && nat_lt b 127) (not (b == 92)) both.0).0).1 in
    and_from (is_low b) (list_all is_low bs) (lt-ltb b 128 (omega (arith, below))) (quiet_low bs both.1)

-- decimal digits
digits_low : (t : List ℕ) → list_all is_ascii_digit t ≡ true → list_all is_low t ≡ true
digits_low [] p = refl
digits_low (b ∷ bs) p =
    let both = and_parts (is_ascii_digit b) (list_all is_ascii_digit bs) p in
    let below : b ≤ 57 = leb-true b 57 (and_parts (nat_le 48 b) (nat_le b 57) both.0).1 in
    and_from (is_low b) (list_all is_low bs) (lt-ltb b 128 (omega (arith, below))) (digits_low bs both.1)

own : IsNumeralModel (λ ds. list_all is_ascii_digit ds ≡ true) (digits_value 10)
own = numerals_by_value _ (search rules)

pub digits_of : (n : ℕ) → n < 2 ^ 64 → list_all is_ascii_digit (decimal n) ≡ true
digits_of n small = digits_decimal own n small

-- ---- numbers and texts

pub spelled_number : (n : ℕ) → n < 2 ^ 64 → Spells 0 (decimal n) (number (unsigned n))
unfolding print_from
spelled_number n small = record {
  tree = json.number (decimal n);
  prints = append-nil (decimal n);
  numbers = IsNumber-decimal n small;
  shallow = omega arith;
  means = ap (option_map number) (number_of-decimal n small);
  low = digits_low (decimal n) (digits_of n small);
}

pub spelled_text : (t : List ℕ) → list_all is_quiet t ≡ true → Spells 0 (codes "\"" ++ t ++ codes "\"") (string t)
unfolding print_from
spelled_text t quiet = record {
  tree = json.string t;
  prints = append-nil (quoted t) ∙ ap (λ (s : List ℕ). 34 ∷ (s ++ 34 ∷ [])) (quiet_text t quiet);
  numbers = tt;
  shallow = omega arith;
  means = refl;
  low = low_both (34 ∷ t) (34 ∷ []) (quiet_low t quiet) refl;
}

-- ---- arrays

-- items that are printed one after another
pub record SpellItems (deep : ℕ) (texts : List (List ℕ)) (ds : Items) : Type 0 where
  pub trees : json.Items
  pub later : print_from true (items_tokens trees) ≡ flat_map (λ t. 44 ∷ t) texts ++ 93 ∷ []
  pub first : print_from false (items_tokens trees) ≡ join_by (λ t. t) (44 ∷ []) texts ++ 93 ∷ []
  pub numbers : ItemsHaveNumbers trees
  pub shallow : items_depth trees ≤ deep
  pub means : of_items trees ≡ Some ds
  pub low : list_all (list_all is_low) texts ≡ true

pub no_more_items : (deep : ℕ) → SpellItems deep [] no_items
unfolding print_from
no_more_items deep = record { trees = json.no_items; later = refl; first = refl; numbers = tt; shallow = omega arith; means = refl; low = refl }

pub one_more_item : (deep : ℕ) (t : List ℕ) (d : Data) (ts : List (List ℕ)) (ds : Items) → Spells deep t d → SpellItems deep ts ds → SpellItems deep (t ∷ ts) (item d ds)
one_more_item deep t d ts ds s more =
    let rest : List Token = items_tokens more.trees in
    let others : List ℕ = flat_map (λ u. 44 ∷ u) ts in
    let body : print (json_tokens s.tree) ++ print_from true rest ≡ (t ++ others) ++ 93 ∷ [] =
    ap (λ (u : List ℕ). u ++ print_from true rest) s.prints ∙ ap (λ (u : List ℕ). t ++ u) more.later ∙ sym (append_assoc t others (93 ∷ [])) in
    record {
      trees = json.item s.tree more.trees;
      later = later_tree s.tree rest ∙ ap (λ (u : List ℕ). 44 ∷ u) body;
      first = first_tree s.tree rest ∙ body;
      numbers = (s.numbers, more.numbers);
      shallow = omega (arith, s.shallow, more.shallow);
      means = rw (s.means, more.means) refl;
      low = and_from (list_all is_low t) (list_all (list_all is_low) ts) s.low more.low;
    }

pub spelled_array : (deep : ℕ) (ts : List (List ℕ)) (ds : Items) → SpellItems deep ts ds → Spells (suc deep) (codes "[" ++ join_by (λ t. t) (codes ",") ts ++ codes "]") (array ds)
unfolding print_from
spelled_array deep ts ds s = record {
  tree = json.array s.trees;
  prints = ap (λ (u : List ℕ). 91 ∷ u) s.first;
  numbers = s.numbers;
  shallow = omega (arith, s.shallow);
  means = ap (option_map array) s.means;
  low = low_both (91 ∷ join_by (λ t. t) (44 ∷ []) ts) (93 ∷ []) (low_joined ts s.low) refl;
}

-- ---- objects

-- members that are printed one after another; they are put into those that were found
pub record SpellMembers (deep : ℕ) (texts : List (List ℕ)) (puts : Members → Members) : Type 0 where
  pub trees : json.Members
  pub later : print_from true (members_tokens trees) ≡ flat_map (λ t. 44 ∷ t) texts ++ 125 ∷ []
  pub first : print_from false (members_tokens trees) ≡ join_by (λ t. t) (44 ∷ []) texts ++ 125 ∷ []
  pub numbers : MembersHaveNumbers trees
  pub shallow : members_depth trees ≤ deep
  pub means : (found : Members) → of_members trees found ≡ Some (puts found)
  pub low : list_all (list_all is_low) texts ≡ true

pub no_more_members : (deep : ℕ) → SpellMembers deep [] (λ ms. ms)
unfolding print_from
no_more_members deep = record { trees = json.no_members; later = refl; first = refl; numbers = tt; shallow = omega arith; means = λ found. refl; low = refl }

-- a name in quotes, a colon, and a value
abbrev named : List ℕ → List ℕ → List ℕ
named name t = (codes "\"" ++ name ++ codes "\"") ++ codes ":" ++ t

regroup : (name t others : List ℕ) → ((34 ∷ (name ++ 34 ∷ [])) ++ 58 ∷ []) ++ ((t ++ others) ++ 125 ∷ []) ≡ (named name t ++ others) ++ 125 ∷ []
regroup name t others = simp append_assoc refl

pub one_more_member : (deep : ℕ) (name t : List ℕ) (d : Data) (ts : List (List ℕ)) (puts : Members → Members) → list_all is_quiet name ≡ true → Spells deep t d → SpellMembers deep ts puts
    → SpellMembers deep (named name t ∷ ts) (λ ms. puts (put name d ms))
unfolding print_from
one_more_member deep name t d ts puts quiet s more =
    let rest : List Token = members_tokens more.trees in
    let others : List ℕ = flat_map (λ u. 44 ∷ u) ts in
    let body : print_from false (json_tokens s.tree ++ rest) ≡ (t ++ others) ++ 125 ∷ [] =
    first_tree s.tree rest ∙ ap (λ (u : List ℕ). u ++ print_from true rest) s.prints ∙ ap (λ (u : List ℕ). t ++ u) more.later ∙ sym (append_assoc t others (125 ∷ [])) in
    let key : quoted name ++ 58 ∷ [] ≡ (34 ∷ (name ++ 34 ∷ [])) ++ 58 ∷ [] = ap (λ (u : List ℕ). (34 ∷ (u ++ 34 ∷ [])) ++ 58 ∷ []) (quiet_text name quiet) in
    let whole : (quoted name ++ 58 ∷ []) ++ print_from false (json_tokens s.tree ++ rest) ≡ (named name t ++ others) ++ 125 ∷ [] =
    ap (λ (u : List ℕ). u ++ print_from false (json_tokens s.tree ++ rest)) key ∙ ap (λ (u : List ℕ). ((34 ∷ (name ++ 34 ∷ [])) ++ 58 ∷ []) ++ u) body ∙ regroup name t others in
    record {
      trees = json.member name s.tree more.trees;
      later = ap (λ (u : List ℕ). 44 ∷ u) whole;
      first = whole;
      numbers = (s.numbers, more.numbers);
      shallow = omega (arith, s.shallow, more.shallow);
      means = λ found. rw s.means (more.means (put name d found));
      low = and_from (list_all is_low (named name t)) (list_all (list_all is_low) ts) (low_both (((34 ∷ name) ++ 34 ∷ []) ++ 58 ∷ []) t (low_both ((34 ∷ name) ++ 34 ∷ []) (58 ∷ []) (low_both (34 ∷ name) (34 ∷ []) (quiet_low name quiet) refl) refl) s.low) more.low;
    }

pub spelled_object : (deep : ℕ) (ts : List (List ℕ)) (puts : Members → Members) → SpellMembers deep ts puts → Spells (suc deep) (codes "{" ++ join_by (λ t. t) (codes ",") ts ++ codes "}") (object (puts no_members))
unfolding print_from
spelled_object deep ts puts s = record {
  tree = json.object s.trees;
  prints = ap (λ (u : List ℕ). 123 ∷ u) s.first;
  numbers = s.numbers;
  shallow = omega (arith, s.shallow);
  means = ap (option_map object) (s.means no_members);
  low = low_both (123 ∷ join_by (λ t. t) (44 ∷ []) ts) (125 ∷ []) (low_joined ts s.low) refl;
}

-- a tree may nest deeper
pub deeper : (deep more : ℕ) (t : List ℕ) (d : Data) → deep ≤ more → Spells deep t d → Spells more t d
deeper deep more t d few s = record { tree = s.tree; prints = s.prints; numbers = s.numbers; shallow = omega (arith, few, s.shallow); means = s.means; low = s.low }
