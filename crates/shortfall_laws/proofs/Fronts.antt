-- Of lists of distinct items of a falling list none has a greater sum than its prefix as long.
use Rattle.std.proofs.Common.{◌≡◌, ℕ, suc, zero, ◌+◌, ◌<◌, ◌≤◌, List, [], ◌∷◌, Bool, true, false, cond, ◌||◌, Some, None, length, map, sum_by, take, refl, ap, sym, subst, ◌∙◌, arith, ⊎_elim}
use Rattle.std.specs.declared.cmp.Ordering.{Ordering}
use Rattle.std.specs.Ordering.{eq_by_cmp}
use Rattle.std.specs.Cmp.{IsTotalOrder}
use Rattle.std.specs.List.{AllByRecursion, IsDistinct, find, range_with_len}
use Rattle.std.proofs.lemmas.Bool.{false≢true, cases_lt}
use Rattle.std.proofs.lemmas.Cmp.{eq_by_cmp_equiv}
use Rattle.std.proofs.lemmas.List.Sums.{sum_by-cons}
use Rattle.std.proofs.lemmas.Option.{none-some, same_Some}
use Rattle.maps.specs.Maps.{has_member, without_member}
use Rattle.maps.proofs.Sets.{all-without_member}
use Rattle.maps.proofs.Ties.{apart}

-- ---- the first front that passes

-- fronts of lengths from i on, n of them
abbrev pub fronts_at : {A : Type 0} → List A → ℕ → ℕ → List (List A)
fronts_at xs i n = map (λ k. take k xs) (range_with_len i n)

module _ {A : Type 0} (p : List A → Bool) (xs : List A) where
  -- ds is the front of some length that passes, and no shorter one of them does
  pub record IsFirstFront (i n : ℕ) (ds : List A) : Type 0 where
    pub at : ℕ
    pub within : at < i + n
    pub front : take at xs ≡ ds
    pub passes : p ds ≡ true
    pub before : (m : ℕ) → i ≤ m → m < at → p (take m xs) ≡ false

  pub first_front : (n i : ℕ) (ds : List A) → find p (fronts_at xs i n) ≡ Some ds → IsFirstFront i n ds
  first_front zero i ds e = absurd (none-some ds e)
  first_front (suc n) i ds e =
      elim (p (take i xs)) as (λ b. p (take i xs) ≡ b → cond b (Some (take i xs)) (find p (fronts_at xs (i + 1) n)) ≡ Some ds → IsFirstFront i (suc n) ds) [
        | true ↦ λ b e.
            let same : take i xs ≡ ds = same_Some (take i xs) ds e in
            record { at = i; within = omega arith; front = same; passes = subst (λ (zs : List A). p zs ≡ true) same b; before = λ m l k. absurd (omega (arith, l, k)) }
        | false ↦ λ b e.
            let r : IsFirstFront (i + 1) n ds = first_front n (i + 1) ds e in
            record {
              at = r.at;
              within = omega (arith, r.within);
              front = r.front;
              passes = r.passes;
              before = λ m l k. ⊎_elim
                  (λ (j : m < i + 1). let here : i ≡ m = omega (arith, l, j) in subst (λ (q : ℕ). p (take q xs) ≡ false) here b)
                  (λ (j : i + 1 ≤ m). r.before m j k)
                  (cases_lt m (i + 1));
            }
      ] refl e

  pub no_front : (n i : ℕ) → find p (fronts_at xs i n) ≡ None → (m : ℕ) → i ≤ m → m < i + n → p (take m xs) ≡ false
  no_front zero i e m l k = absurd (omega (arith, l, k))
  no_front (suc n) i e m l k =
      elim (p (take i xs)) as (λ b. p (take i xs) ≡ b → cond b (Some (take i xs)) (find p (fronts_at xs (i + 1) n)) ≡ None → p (take m xs) ≡ false) [
        | true ↦ λ b e. absurd (none-some (take i xs) (sym e))
        | false ↦ λ b e. ⊎_elim
            (λ (j : m < i + 1). let here : i ≡ m = omega (arith, l, j) in subst (λ (q : ℕ). p (take q xs) ≡ false) here b)
            (λ (j : i + 1 ≤ m). no_front n (i + 1) e m j (omega (arith, k)))
            (cases_lt m (i + 1))
      ] refl e

-- ---- the exchange

or_right : (b c : Bool) → (b || c) ≡ true → b ≡ false → c ≡ true
or_right true c h e = absurd (false≢true (sym e))
or_right false c h e = h

-- no item weighs more than one before it
abbrev pub Falls : {A : Type 0} → (A → ℕ) → List A → Type 0
Falls g [] = Unit {0}
Falls g (x ∷ xs) = AllByRecursion (λ y. g y ≤ g x) xs × Falls g xs

-- zs is no longer than ss, and weighs no more than its front that is as long
pub record IsAtMostFront {A : Type 0} (g : A → ℕ) (ss zs : List A) : Type 0 where
  pub within : length zs ≤ length ss
  pub most : sum_by g zs ≤ sum_by g (take (length zs) ss)

module _ {A : Type 0} {cmp : A → A → Ordering} (o : IsTotalOrder cmp) (g : A → ℕ) (tie : (x y : A) → eq_by_cmp cmp x y ≡ true → g x ≡ g y) where
  back : (x y : A) → eq_by_cmp cmp x y ≡ false → eq_by_cmp cmp y x ≡ false
  back x y e = (eq_by_cmp_equiv o).symm y x ∙ e

  -- an item of those that weigh no more than s weighs no more than s
  no_more : (s z : A) (ss : List A) → has_member cmp ss z ≡ true → AllByRecursion (λ y. g y ≤ g s) ss → g z ≤ g s
  no_more s z [] h f = absurd (false≢true h)
  no_more s z (y ∷ ys) h f =
      elim (eq_by_cmp cmp z y) as (λ b. eq_by_cmp cmp z y ≡ b → (b || has_member cmp ys z) ≡ true → g z ≤ g s) [
        | true ↦ λ e h. omega (arith, tie z y e, f.0)
        | false ↦ λ e h. no_more s z ys h f.1
      ] refl h

  -- what weighs s and another list with one item less
  record IsLighter (s : A) (zs ws : List A) : Type 0 where
    longer : length zs ≡ suc (length ws)
    lighter : sum_by g zs ≤ g s + sum_by g ws

  taken : (s : A) (zs : List A) → has_member cmp zs s ≡ true → IsLighter s zs (without_member cmp s zs)
  taken s [] h = absurd (false≢true h)
  taken s (z ∷ zs) h =
      elim (eq_by_cmp cmp s z) as (λ b. eq_by_cmp cmp s z ≡ b → (b || has_member cmp zs s) ≡ true → IsLighter s (z ∷ zs) (cond b zs (z ∷ without_member cmp s zs))) [
        | true ↦ λ e h. record { longer = refl; lighter = omega (arith, sum_by-cons g z zs, tie s z e) }
        | false ↦ λ e h.
            let r : IsLighter s zs (without_member cmp s zs) = taken s zs h in
            record { longer = ap suc r.longer; lighter = omega (arith, sum_by-cons g z zs, sum_by-cons g z (without_member cmp s zs), r.lighter) }
      ] refl h

  distinct_without : (s : A) (zs : List A) → IsDistinct (eq_by_cmp cmp) zs → IsDistinct (eq_by_cmp cmp) (without_member cmp s zs)
  unfolding IsDistinct
  distinct_without s [] d = tt
  distinct_without s (z ∷ zs) d =
      elim (eq_by_cmp cmp s z) as (λ b. IsDistinct (eq_by_cmp cmp) (cond b zs (z ∷ without_member cmp s zs))) [
        | true ↦ d.1
        | false ↦ (all-without_member cmp (λ y. eq_by_cmp cmp z y ≡ false) s zs d.0, distinct_without s zs d.1)
      ]

  -- items of s and ss that do not tie with s are in ss
  all_left : (s : A) (ss zs : List A) → AllByRecursion (λ z. eq_by_cmp cmp s z ≡ false) zs → AllByRecursion (λ z. has_member cmp (s ∷ ss) z ≡ true) zs → AllByRecursion (λ z. has_member cmp ss z ≡ true) zs
  all_left s ss [] n h = tt
  all_left s ss (z ∷ zs) n h = (or_right (eq_by_cmp cmp z s) (has_member cmp ss z) h.0 (back s z n.0), all_left s ss zs n.1 h.1)

  -- items that do not tie with z do not tie with what ties with z
  all_apart : (s z : A) (zs : List A) → eq_by_cmp cmp z s ≡ true → AllByRecursion (λ y. eq_by_cmp cmp z y ≡ false) zs → AllByRecursion (λ y. eq_by_cmp cmp s y ≡ false) zs
  all_apart s z [] e h = tt
  all_apart s z (y ∷ ys) e h = (apart o z y s h.0 e, all_apart s z ys e h.1)

  left_without : (s : A) (ss zs : List A) → IsDistinct (eq_by_cmp cmp) zs → AllByRecursion (λ z. has_member cmp (s ∷ ss) z ≡ true) zs → AllByRecursion (λ z. has_member cmp ss z ≡ true) (without_member cmp s zs)
  unfolding IsDistinct
  left_without s ss [] d h = tt
  left_without s ss (z ∷ zs) d h =
      elim (eq_by_cmp cmp s z) as (λ b. eq_by_cmp cmp s z ≡ b → AllByRecursion (λ y. has_member cmp ss y ≡ true) (cond b zs (z ∷ without_member cmp s zs))) [
        | true ↦ λ e. all_left s ss zs (all_apart s z zs ((eq_by_cmp_equiv o).symm z s ∙ e) d.0) h.1
        | false ↦ λ e. (or_right (eq_by_cmp cmp z s) (has_member cmp ss z) h.0 (back s z e), left_without s ss zs d.1 h.1)
      ] refl

  none_tie : (s : A) (zs : List A) → has_member cmp zs s ≡ false → AllByRecursion (λ z. eq_by_cmp cmp s z ≡ false) zs
  none_tie s [] h = tt
  none_tie s (z ∷ zs) h =
      elim (eq_by_cmp cmp s z) as (λ b. eq_by_cmp cmp s z ≡ b → (b || has_member cmp zs s) ≡ false → AllByRecursion (λ y. eq_by_cmp cmp s y ≡ false) (z ∷ zs)) [
        | true ↦ λ e h. absurd (false≢true (sym h))
        | false ↦ λ e h. (e, none_tie s zs h)
      ] refl h

  -- ---- all of it

  -- from a list with one item less, among the rest
  one_more : (s : A) (ss zs ws : List A) → IsLighter s zs ws → IsAtMostFront g ss ws → IsAtMostFront g (s ∷ ss) zs
  one_more s ss zs ws l m = record {
    within = omega (arith, l.longer, m.within);
    most = subst (λ (n : ℕ). sum_by g zs ≤ sum_by g (take n (s ∷ ss))) (sym l.longer)
        (omega (arith, l.lighter, m.most, sum_by-cons g s (take (length ws) ss)));
  }

  pub at_most_front : (ss zs : List A) → Falls g ss → IsDistinct (eq_by_cmp cmp) zs → AllByRecursion (λ z. has_member cmp ss z ≡ true) zs → IsAtMostFront g ss zs
  unfolding IsDistinct
  at_most_front [] [] f d h = record { within = omega arith; most = omega arith }
  at_most_front [] (z ∷ zs) f d h = absurd (false≢true h.0)
  at_most_front (s ∷ ss) [] f d h = record { within = omega arith; most = omega arith }
  at_most_front (s ∷ ss) (z ∷ zs) f d h =
      elim (has_member cmp (z ∷ zs) s) as (λ b. has_member cmp (z ∷ zs) s ≡ b → IsAtMostFront g (s ∷ ss) (z ∷ zs)) [
        | true ↦ λ e.
            let ws : List A = without_member cmp s (z ∷ zs) in
            one_more s ss (z ∷ zs) ws (taken s (z ∷ zs) e)
            (at_most_front ss ws f.1 (distinct_without s (z ∷ zs) d) (left_without s ss (z ∷ zs) d h))
        | false ↦ λ e.
            let left : AllByRecursion (λ y. has_member cmp ss y ≡ true) (z ∷ zs) = all_left s ss (z ∷ zs) (none_tie s (z ∷ zs) e) h in
            one_more s ss (z ∷ zs) zs
            (record { longer = refl; lighter = omega (arith, sum_by-cons g z zs, no_more s z ss left.0 f.0) })
            (at_most_front ss zs f.1 d.1 left.1)
      ] refl
