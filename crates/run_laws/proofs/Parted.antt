-- Parts of a list that share no item hold together at most what the list holds.
use Rattle.std.proofs.Common.{◌≡◌, ℕ, ◌≤◌, List, [], ◌∷◌, Bool, true, false, cond, not, filter, sum_by, refl, ap, ◌∙◌, arith}
use Rattle.std.specs.List.{AllByRecursion}
use Rattle.std.proofs.lemmas.List.Sums.{sum_by-cons}
use Rattle.maps.proofs.Credits.{sum-parted}

module _ {A K : Type 0} (f : A → ℕ) (at : K → A → Bool) where
  -- no item is in the part of k and in that of another
  abbrev pub Excludes : K → K → Type 0
  Excludes k q = (x : A) → at q x ≡ true → at k x ≡ false

  abbrev pub AreApart : List K → Type 0
  AreApart [] = Unit {0}
  AreApart (k ∷ ks) = AllByRecursion (Excludes k) ks × AreApart ks

  -- what the part of k holds
  abbrev pub part : List A → K → ℕ
  part xs k = sum_by f (filter (at k) xs)

  -- the part of another is that of the items which are not in k's
  abbrev others : K → List A → List A
  others k xs = filter (λ x. not (at k x)) xs

  one_left : (k q : K) → Excludes k q → (x : A) (xs : List A) → (b c : Bool) → at q x ≡ b → at k x ≡ c
      → filter (at q) (others k xs) ≡ filter (at q) xs → filter (at q) (cond (not c) (x ∷ others k xs) (others k xs)) ≡ cond b (x ∷ filter (at q) xs) (filter (at q) xs)
  one_left k q h x xs true true e d s = absurd (let no : at k x ≡ false = h x e in cc)
  one_left k q h x xs true false e d s = (λ i. cond (e i) (x ∷ filter (at q) (others k xs)) (filter (at q) (others k xs))) ∙ ap (λ (l : List A). x ∷ l) s
  one_left k q h x xs false true e d s = s
  one_left k q h x xs false false e d s = (λ i. cond (e i) (x ∷ filter (at q) (others k xs)) (filter (at q) (others k xs))) ∙ s

  all_left : (k q : K) → Excludes k q → (xs : List A) → filter (at q) (others k xs) ≡ filter (at q) xs
  all_left k q h [] = refl
  all_left k q h (x ∷ xs) = one_left k q h x xs (at q x) (at k x) refl refl (all_left k q h xs)

  same_parts : (k : K) (ks : List K) → AllByRecursion (Excludes k) ks → (xs : List A) → sum_by (part (others k xs)) ks ≡ sum_by (part xs) ks
  same_parts k [] h xs = refl
  same_parts k (q ∷ ks) h xs = omega (
    arith,
    sum_by-cons (part (others k xs)) q ks,
    sum_by-cons (part xs) q ks,
    ap (λ (l : List A). sum_by f l) (all_left k q h.0 xs),
    same_parts k ks h.1 xs,
  )

  pub parts_within : (ks : List K) → AreApart ks → (xs : List A) → sum_by (part xs) ks ≤ sum_by f xs
  parts_within [] h xs = omega arith
  parts_within (k ∷ ks) h xs = omega (
    arith,
    sum_by-cons (part xs) k ks,
    sum-parted f (at k) xs,
    same_parts k ks h.0 xs,
    parts_within ks h.1 (others k xs),
  )
