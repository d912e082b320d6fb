-- Keys that differ in a list differ among those of its items that are taken by tests which exclude one another.
use Rattle.std.proofs.Common.{◌≡◌, ℕ, ◌==◌, List, [], ◌∷◌, ◌++◌, Bool, true, false, cond, map, filter, flat_map, refl, ap, ◌∙◌}
use Rattle.std.specs.List.{AllByRecursion, IsDistinct}
use Rattle.std.proofs.lemmas.Bool.{cond_both, eqb-true}

module _ {A K : Type 0} (key : A → K) where
  -- what holds of the key of each holds of each that passes
  pub all_keys-filter : (P : K → Type 0) (p : A → Bool) (xs : List A) → AllByRecursion P (map key xs) → AllByRecursion P (map key (filter p xs))
  all_keys-filter P p [] h = tt
  all_keys-filter P p (x ∷ xs) h =
      cond_both (p x) _ _ (λ (ys : List A). AllByRecursion P (map key ys)) (λ _. (h.0, all_keys-filter P p xs h.1)) (λ _. all_keys-filter P p xs h.1)

  pub own_keys-filter : (same : K → K → Bool) (p : A → Bool) (xs : List A) → IsDistinct same (map key xs) → IsDistinct same (map key (filter p xs))
  unfolding IsDistinct
  own_keys-filter same p [] h = tt
  own_keys-filter same p (x ∷ xs) h =
      cond_both (p x) _ _ (λ (ys : List A). IsDistinct same (map key ys))
      (λ _. (all_keys-filter (λ y. same (key x) y ≡ false) p xs h.0, own_keys-filter same p xs h.1)) (λ _. own_keys-filter same p xs h.1)

module _ {A K : Type 0} (key : A → K) (same : K → K → Bool) (back : (k q : K) → same k q ≡ same q k) where
  -- the key k is none of those of xs
  abbrev IsNew : K → List A → Type 0
  IsNew k xs = AllByRecursion (λ y. same k y ≡ false) (map key xs)

  -- no key of xs is one of ys
  abbrev AreApart : List A → List A → Type 0
  AreApart xs ys = AllByRecursion (λ x. IsNew (key x) ys) xs

  abbrev HaveOwnKeys : List A → Type 0
  HaveOwnKeys xs = IsDistinct same (map key xs)

  new-filter : (p : A → Bool) (k : K) (xs : List A) → IsNew k xs → IsNew k (filter p xs)
  new-filter p k xs h = all_keys-filter key (λ y. same k y ≡ false) p xs h

  new-append : (k : K) (xs ys : List A) → IsNew k xs → IsNew k ys → IsNew k (xs ++ ys)
  new-append k [] ys h i = i
  new-append k (x ∷ xs) ys h i = (h.0, new-append k xs ys h.1 i)

  own_keys-append : (xs ys : List A) → HaveOwnKeys xs → HaveOwnKeys ys → AreApart xs ys → HaveOwnKeys (xs ++ ys)
  unfolding IsDistinct
  own_keys-append [] ys h i a = i
  own_keys-append (x ∷ xs) ys h i a = (new-append (key x) xs ys h.0 a.0, own_keys-append xs ys h.1 i a.1)

  apart-none : (xs : List A) → AreApart xs []
  apart-none [] = tt
  apart-none (x ∷ xs) = (tt, apart-none xs)

  apart-append : (xs ys zs : List A) → AreApart xs ys → AreApart xs zs → AreApart xs (ys ++ zs)
  apart-append [] ys zs a b = tt
  apart-append (x ∷ xs) ys zs a b = (new-append (key x) ys zs a.0 b.0, apart-append xs ys zs a.1 b.1)

  -- a new key at the front of the second list
  apart-cons : (xs : List A) (y : A) (ys : List A) → IsNew (key y) xs → AreApart xs ys → AreApart xs (y ∷ ys)
  apart-cons [] y ys n a = tt
  apart-cons (x ∷ xs) y ys n a = ((back (key x) (key y) ∙ n.0, a.0), apart-cons xs y ys n.1 a.1)

  module _ (p q : A → Bool) (excludes : (x : A) → p x ≡ true → q x ≡ false) where
    apart-step : (x : A) (xs ps qs : List A) (b c : Bool) → (b ≡ true → c ≡ false) → IsNew (key x) ps → IsNew (key x) qs → AreApart ps qs
        → AreApart (cond b (x ∷ ps) ps) (cond c (x ∷ qs) qs)
    apart-step x xs ps qs true true e n m a = let no : true ≡ false = e refl in cc
    apart-step x xs ps qs true false e n m a = (m, a)
    apart-step x xs ps qs false true e n m a = apart-cons ps x qs n a
    apart-step x xs ps qs false false e n m a = a

    apart-filters : (xs : List A) → HaveOwnKeys xs → AreApart (filter p xs) (filter q xs)
    unfolding IsDistinct
    apart-filters [] h = tt
    apart-filters (x ∷ xs) h =
        apart-step x xs (filter p xs) (filter q xs) (p x) (q x) (excludes x) (new-filter p (key x) xs h.0) (new-filter q (key x) xs h.0) (apart-filters xs h.1)

  module _ (rank : A → ℕ) (ps : List A) (own : HaveOwnKeys ps) where
    abbrev of_rank : ℕ → List A
    of_rank n = filter (λ x. rank x == n) ps

    other_rank : (n m r : ℕ) → (n == m) ≡ false → (r == n) ≡ true → (r == m) ≡ false
    other_rank n m r d e = ap (λ (k : ℕ). k == m) (eqb-true r n e) ∙ d

    apart-ranks : (n : ℕ) (ns : List ℕ) → AllByRecursion (λ m. (n == m) ≡ false) ns → AreApart (of_rank n) (flat_map of_rank ns)
    apart-ranks n [] d = apart-none (of_rank n)
    apart-ranks n (m ∷ ns) d =
        apart-append (of_rank n) (of_rank m) (flat_map of_rank ns)
        (apart-filters (λ x. rank x == n) (λ x. rank x == m) (λ x e. other_rank n m (rank x) d.0 e) ps own) (apart-ranks n ns d.1)

    -- all of these ranks, one after the other
    pub own_keys-ranks : (ns : List ℕ) → IsDistinct (λ n m. n == m) ns → HaveOwnKeys (flat_map of_rank ns)
    unfolding IsDistinct
    own_keys-ranks [] d = tt
    own_keys-ranks (n ∷ ns) d =
        own_keys-append (of_rank n) (flat_map of_rank ns) (own_keys-filter key same (λ x. rank x == n) ps own) (own_keys-ranks ns d.1) (apart-ranks n ns d.0)
