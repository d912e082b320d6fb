-- The lengths of compact JSON: arrays, objects and fields.
use Rattle.std.proofs.Common.{◌≡◌, ℕ, zero, suc, ◌+◌, ◌≤◌, List, [], ◌∷◌, ◌++◌, codes, flat_map, length, refl, ◌∙◌, arith}
use Rattle.std.specs.List.{join_by}
use Rattle.std.proofs.lemmas.List.{length-append}
use Rattle.text_forms.specs.ActionText.{array, field, listed, object, quoted}
use Rattle.text_model.specs.Words.{Text}
use Rattle.json_lengths.specs.Sizes.{closed}

pub closed_least : (n : ℕ) → n ≤ closed n
closed_least zero = omega arith
closed_least (suc n) = omega arith

pub closed_some : (n : ℕ) → 1 ≤ closed n
closed_some zero = omega arith
closed_some (suc n) = omega arith

pub closed_grows : (n m : ℕ) → n ≤ m → closed n ≤ closed m
closed_grows zero zero h = omega arith
closed_grows zero (suc m) h = omega arith
closed_grows (suc n) zero h = absurd (omega (arith, h))
closed_grows (suc n) (suc m) h = omega (arith, h)

-- the texts of items, each with what follows it
abbrev pub total : {A : Type 0} → (A → Text) → List A → ℕ
total f [] = 0
total f (x ∷ xs) = length (f x) + 1 + total f xs

pub total-push : {A : Type 0} (f : A → Text) (xs : List A) (x : A) → total f (xs ++ x ∷ []) ≡ total f xs + (length (f x) + 1)
total-push f [] x = omega arith
total-push f (y ∷ xs) x = omega (arith, total-push f xs x)

rest_length : {A : Type 0} (f : A → Text) (xs : List A) → length (flat_map (λ (y : A). codes "," ++ f y) xs) ≡ total f xs
rest_length f [] = refl
rest_length {A} f (x ∷ xs) = omega (arith, length-append (codes "," ++ f x) (flat_map (λ (y : A). codes "," ++ f y) xs), length-append (codes ",") (f x), rest_length f xs)

-- between brackets of one byte each
bracketed : (a b body : Text) → length a ≡ 1 → length b ≡ 1 → length (a ++ body ++ b) ≡ length body + 2
bracketed a b body e f = omega (arith, length-append (a ++ body) b, length-append a body, length-append a (body ++ b), length-append body b, e, f)

joined_by : {A : Type 0} (f : A → Text) (xs : List A) → length (join_by f (codes ",") xs) + 2 ≡ 1 + closed (total f xs)
joined_by f [] = refl
joined_by {A} f (x ∷ xs) =
    omega (arith, length-append (f x) (flat_map (λ (y : A). codes "," ++ f y) xs), rest_length f xs, closed_same (total f (x ∷ xs)) (omega arith))
  where
    closed_same : (n : ℕ) → 1 ≤ n → closed n ≡ n
    closed_same zero h = absurd (omega (arith, h))
    closed_same (suc n) h = refl

pub list_length : {A : Type 0} (f : A → Text) (xs : List A) → length (codes "[" ++ join_by f (codes ",") xs ++ codes "]") ≡ 1 + closed (total f xs)
list_length f xs = bracketed (codes "[") (codes "]") (join_by f (codes ",") xs) refl refl ∙ joined_by f xs

pub two_length : (s t : Text) → length (array (s ∷ t ∷ [])) ≡ length s + length t + 3
two_length s t =
    let whole : length (array (s ∷ t ∷ [])) ≡ 1 + closed (total (λ (x : Text). x) (s ∷ t ∷ [])) = list_length (λ (x : Text). x) (s ∷ t ∷ []) in
    omega (arith, whole, same (total (λ (x : Text). x) (s ∷ t ∷ [])) (omega arith))
  where
    same : (n : ℕ) → 1 ≤ n → closed n ≡ n
    same zero h = absurd (omega (arith, h))
    same (suc n) h = refl

pub quoted_length : (t : Text) → length (quoted t) ≡ length t + 2
quoted_length t = bracketed (codes "\"") (codes "\"") t refl refl

pub field_length : (name value : Text) → length (field name value) ≡ length name + 3 + length value
field_length name value =
    omega (arith, length-append (quoted name ++ codes ":") value, length-append (quoted name) (codes ":"), length-append (quoted name) (codes ":" ++ value), length-append (codes ":") value, quoted_length name)

-- the fields of an object, each with what follows it
abbrev pub cost : List Text → ℕ
cost fields = total (λ (x : Text). x) fields

pub cost-append : (xs ys : List Text) → cost (xs ++ ys) ≡ cost xs + cost ys
cost-append [] ys = omega arith
cost-append (x ∷ xs) ys = omega (arith, cost-append xs ys)

pub object_length : (fields : List Text) → length (object fields) ≡ 1 + closed (cost fields)
object_length fields = bracketed (codes "{") (codes "}") (listed fields) refl refl ∙ joined_by (λ (x : Text). x) fields
