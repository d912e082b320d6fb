-- What holds of each item, of each key, and of ids that come together.
use Rattle.std.proofs.Common.{◌≡◌, List, [], ◌∷◌, ◌++◌, Bool, true, false, ◌&&◌, cond, filter, map}
use Rattle.std.proofs.lemmas.Bool.{and_parts}
use Rattle.std.specs.List.{AllByRecursion, IsDistinct}
use Rattle.gov_ids.specs.declared.ActionId.{ActionId}
use Rattle.gov_ids.specs.Same.{same_action}

pub left_of : (b c : Bool) → (b && c) ≡ true → b ≡ true
left_of b c h = (and_parts b c h).0

pub right_of : (b c : Bool) → (b && c) ≡ true → c ≡ true
right_of b c h = (and_parts b c h).1

pub all_weaken : {A : Type 0} (P Q : A → Type 0) → ((x : A) → P x → Q x) → (xs : List A) → AllByRecursion P xs → AllByRecursion Q xs
all_weaken P Q f [] h = tt
all_weaken P Q f (x ∷ xs) h = (f x h.0, all_weaken P Q f xs h.1)

pub all_append : {A : Type 0} (P : A → Type 0) (xs ys : List A) → AllByRecursion P xs → AllByRecursion P ys → AllByRecursion P (xs ++ ys)
all_append P [] ys h k = k
all_append P (x ∷ xs) ys h k = (h.0, all_append P xs ys h.1 k)

-- what holds of each item, after a map and after a filter
module _ {A : Type 0} (P : A → Type 0) where
  pub all_made : {B : Type 0} (Q : B → Type 0) (f : A → B) → ((x : A) → P x → Q (f x)) → (xs : List A) → AllByRecursion P xs → AllByRecursion Q (map f xs)
  all_made Q f k [] h = tt
  all_made Q f k (x ∷ xs) h = (k x h.0, all_made Q f k xs h.1)

  pub all_passing : (p : A → Bool) (xs : List A) → AllByRecursion P xs → AllByRecursion P (filter p xs)
  all_passing p [] h = tt
  all_passing p (x ∷ xs) h = elim (p x) as (λ b. AllByRecursion P (cond b (x ∷ filter p xs) (filter p xs))) [
    | true ↦ (h.0, all_passing p xs h.1)
    | false ↦ all_passing p xs h.1
  ]

-- ids that differ from all others
pub own_append : (xs ys : List ActionId) → IsDistinct same_action xs → IsDistinct same_action ys → AllByRecursion (λ x. AllByRecursion (λ y. same_action x y ≡ false) ys) xs → IsDistinct same_action (xs ++ ys)
unfolding IsDistinct
own_append [] ys a b h = b
own_append (x ∷ xs) ys a b h = (all_append (λ y. same_action x y ≡ false) xs ys a.0 h.0, own_append xs ys a.1 b h.1)
