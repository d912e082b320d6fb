-- What holds of each item of a list, by what holds of what shows it.
use Rattle.std.proofs.Common.{◌≡◌, Bool, true, false, ◌&&◌, cond, List, [], ◌∷◌, filter, map, refl}
use Rattle.std.specs.List.{list_all}
use Rattle.std.proofs.lemmas.Bool.{and_from, and_parts}
use Rattle.formed_laws.proofs.Each.{Each}

-- where an item is shown by another one, and both pass together
module _ {A B : Type 0} (p : A → Bool) (q : B → Bool) (f : A → B) where
  pub shown_pass : ((x : A) → p x ≡ true → q (f x) ≡ true) → (xs : List A) → list_all p xs ≡ true → list_all q (map f xs) ≡ true
  shown_pass step [] h = refl
  shown_pass step (x ∷ xs) h =
      let both = and_parts (p x) (list_all p xs) h in
      and_from (q (f x)) (list_all q (map f xs)) (step x both.0) (shown_pass step xs both.1)

  pub pass_shown : ((x : A) → q (f x) ≡ true → p x ≡ true) → (xs : List A) → list_all q (map f xs) ≡ true → list_all p xs ≡ true
  pass_shown step [] h = refl
  pass_shown step (x ∷ xs) h =
      let both = and_parts (q (f x)) (list_all q (map f xs)) h in
      and_from (p x) (list_all p xs) (step x both.0) (pass_shown step xs both.1)

-- those that are left after a filter pass
pub filtered_pass : {A : Type 0} (p t : A → Bool) (xs : List A) → list_all p xs ≡ true → list_all p (filter t xs) ≡ true
filtered_pass p t [] h = refl
filtered_pass p t (x ∷ xs) h =
    let both = and_parts (p x) (list_all p xs) h in
    elim (t x) as (λ b. list_all p (cond b (x ∷ filter t xs) (filter t xs)) ≡ true) [
      | true ↦ and_from (p x) (list_all p (filter t xs)) both.0 (filtered_pass p t xs both.1)
      | false ↦ filtered_pass p t xs both.1
    ]

-- items that pass two tests pass what follows from both
pub both_pass : {A : Type 0} (p q r : A → Bool) → ((x : A) → p x ≡ true → q x ≡ true → r x ≡ true) → (xs : List A) → list_all p xs ≡ true → list_all q xs ≡ true → list_all r xs ≡ true
both_pass p q r step [] h k = refl
both_pass p q r step (x ∷ xs) h k =
    let first = and_parts (p x) (list_all p xs) h in
    let second = and_parts (q x) (list_all q xs) k in
    and_from (r x) (list_all r xs) (step x first.0 second.0) (both_pass p q r step xs first.1 second.1)

-- tests of entries by those of keys and of values
module _ {K X : Type 0} (p : K → Bool) (q : X → Bool) where
  abbrev pub is_each : K × X → Bool
  is_each e = p e.0 && q e.1

  pub each_parts : (es : List (K × X)) → list_all is_each es ≡ true → Each p q es
  each_parts [] h = tt
  each_parts (e ∷ es) h =
      let both = and_parts (is_each e) (list_all is_each es) h in
      (and_parts (p e.0) (q e.1) both.0, each_parts es both.1)

  pub each_whole : (es : List (K × X)) → Each p q es → list_all is_each es ≡ true
  each_whole [] h = refl
  each_whole (e ∷ es) h = and_from (is_each e) (list_all is_each es) (and_from (p e.0) (q e.1) h.0.0 h.0.1) (each_whole es h.1)
