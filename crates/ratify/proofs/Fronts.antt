-- A front that grows by one item.
use Rattle.std.proofs.Common.{◌≡◌, List, [], ◌∷◌, ◌++◌, Bool, true, false, cond, filter, refl, ap, sym, ◌∙◌, append_assoc}
use Rattle.std.proofs.lemmas.List.{append-nil}
use Rattle.maps.specs.Words.{fronts_from, chosen_after}

module _ {A : Type 0} where
  pub fronts-push : (front xs : List A) (a : A) → fronts_from front (xs ++ a ∷ []) ≡ fronts_from front xs ++ (front ++ xs, a) ∷ []
  fronts-push front [] a = ap (λ (l : List A). (l, a) ∷ []) (sym (append-nil front))
  fronts-push front (x ∷ xs) a =
      ap (λ (r : List (List A × A)). (front, x) ∷ r)
      (fronts-push (front ++ x ∷ []) xs a ∙ ap (λ (l : List A). fronts_from (front ++ x ∷ []) xs ++ (l, a) ∷ []) (append_assoc front (x ∷ []) xs))

  pulled : (b : Bool) (x : A) (xs ys : List A) → x ∷ cond b xs ys ≡ cond b (x ∷ xs) (x ∷ ys)
  pulled true x xs ys = refl
  pulled false x xs ys = refl

  pub filter-push : (p : A → Bool) (xs : List A) (a : A) → filter p (xs ++ a ∷ []) ≡ cond (p a) (filter p xs ++ a ∷ []) (filter p xs)
  filter-push p [] a = elim (p a) as (λ b. cond b (a ∷ []) [] ≡ cond b (a ∷ []) []) [ true ↦ refl | false ↦ refl ]
  filter-push p (x ∷ xs) a =
      elim (p x) as (λ b. cond b (x ∷ filter p (xs ++ a ∷ [])) (filter p (xs ++ a ∷ [])) ≡ cond (p a) (cond b (x ∷ filter p xs) (filter p xs) ++ a ∷ []) (cond b (x ∷ filter p xs) (filter p xs))) [
        | true ↦ ap (λ (l : List A). x ∷ l) (filter-push p xs a) ∙ pulled (p a) x (filter p xs ++ a ∷ []) (filter p xs)
        | false ↦ filter-push p xs a
      ]

  module _ (ready : List A → A → Bool) where
    -- what is chosen, with one more if it is ready
    abbrev pub with_one : List A → A → List A
    with_one es a = cond (ready es a) (es ++ a ∷ []) es

    at_end : (es : List A) (a : A) (b : Bool) → es ++ cond b (a ∷ []) [] ≡ cond b (es ++ a ∷ []) es
    at_end es a true = refl
    at_end es a false = append-nil es

    chosen-push-after : (es xs : List A) (a : A) → es ++ chosen_after ready es (xs ++ a ∷ []) ≡ with_one (es ++ chosen_after ready es xs) a
    chosen-push-after es [] a = at_end es a (ready es a) ∙ ap (λ (l : List A). with_one l a) (sym (append-nil es))
    chosen-push-after es (x ∷ xs) a =
        elim (ready es x) as (λ b. es ++ cond b (x ∷ chosen_after ready (es ++ x ∷ []) (xs ++ a ∷ [])) (chosen_after ready es (xs ++ a ∷ []))
        ≡ with_one (es ++ cond b (x ∷ chosen_after ready (es ++ x ∷ []) xs) (chosen_after ready es xs)) a) [
          | true ↦ sym (append_assoc es (x ∷ []) _) ∙ chosen-push-after (es ++ x ∷ []) xs a ∙ ap (λ (l : List A). with_one l a) (append_assoc es (x ∷ []) _)
          | false ↦ chosen-push-after es xs a
        ]

    pub chosen-push : (xs : List A) (a : A) → chosen_after ready [] (xs ++ a ∷ []) ≡ with_one (chosen_after ready [] xs) a
    chosen-push xs a = chosen-push-after [] xs a
