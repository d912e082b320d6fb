-- What the entries weigh is within what they hold and all deposits.
use Rattle.std.proofs.Common.{◌≡◌, ℕ, ◌+◌, ◌^◌, ◌<◌, ◌≤◌, List, [], ◌∷◌, ◌++◌, Bool, true, false, cond, filter, take, drop, Some, unwrap_or, sum_by, refl, ap, ◌∙◌, arith}
use Rattle.std.specs.declared.cmp.Ordering.TheVariants.{Less, Equal}
use Rattle.std.specs.Ordering.{eq_by_cmp, is_eq}
use Rattle.std.specs.List.{AllByRecursion}
use Rattle.std.specs.List.Sorted.{IsStrictlySortedBy}
use Rattle.std.specs.Map.{keys_of, values_of}
use Rattle.std.proofs.lemmas.Cmp.{eq_by_cmp_equiv}
use Rattle.std.proofs.lemmas.List.Sums.{sum_by-cons, sum_by-append}
use Rattle.std.proofs.lemmas.List.{take-append-drop}
use Rattle.std.proofs.lemmas.List.Elements.{filter-append}
use Rattle.gov_ids.specs.declared.Credential.{Credential}
use Rattle.gov_ids.specs.Orders.{credential_cmp}
use Rattle.gov_ids.proofs.Totals.{credential_total}
use Rattle.book_records.specs.declared.Entry.{Entry}
use Rattle.book_records.specs.declared.Registered.{Registered}
use Rattle.coin_frac.specs.Totals.{total_of}
use Rattle.maps.proofs.Credits.{sum_by-plus}
use Rattle.maps.proofs.Ties.{is_equal, all_tied}
use Rattle.maps.specs.Maps.{IsMap, value_at}
use Rattle.maps.specs.Words.{amount}
use Rattle.drep_pulser.specs.Facts.{weight_by, IsCountable}

abbrev pub at : List (Credential × ℕ) → Credential → ℕ
at deposits c = unwrap_or (value_at credential_cmp deposits c) 0

-- keys above another one are not that one
none_at : (k : Credential) (n : ℕ) (es : List (Credential × Entry)) → AllByRecursion (λ q. credential_cmp k q ≡ Less) (keys_of es)
    → sum_by (λ (e : Credential × Entry). cond (eq_by_cmp credential_cmp e.0 k) n 0) es ≡ 0
none_at k n [] above = refl
none_at k n (e ∷ es) above =
    let other : eq_by_cmp credential_cmp e.0 k ≡ false = (eq_by_cmp_equiv credential_total).symm e.0 k ∙ ap is_eq above.0 in
    let here : cond (eq_by_cmp credential_cmp e.0 k) n 0 ≡ 0 = ap (λ b. cond b n 0) other in
    omega (arith, here, none_at k n es above.1, sum_by-cons (λ (e : Credential × Entry). cond (eq_by_cmp credential_cmp e.0 k) n 0) e es)

-- at most one entry is at a key
one_at : (k : Credential) (n : ℕ) (es : List (Credential × Entry)) → IsMap credential_cmp es
    → sum_by (λ (e : Credential × Entry). cond (eq_by_cmp credential_cmp e.0 k) n 0) es ≤ n
unfolding IsStrictlySortedBy
one_at k n [] h = omega arith
one_at k n (e ∷ es) h =
    let front = sum_by-cons (λ (e : Credential × Entry). cond (eq_by_cmp credential_cmp e.0 k) n 0) e es in
    let rest = sum_by (λ (e : Credential × Entry). cond (eq_by_cmp credential_cmp e.0 k) n 0) es in
    let together : cond (eq_by_cmp credential_cmp e.0 k) n 0 + rest ≤ n =
    elim (eq_by_cmp credential_cmp e.0 k) as (λ b. eq_by_cmp credential_cmp e.0 k ≡ b → cond b n 0 + rest ≤ n) [
      | true ↦ λ t.
          let tied : credential_cmp k e.0 ≡ Equal = is_equal _ ((eq_by_cmp_equiv credential_total).symm k e.0 ∙ t) in
          omega (arith, none_at k n es (all_tied credential_total k e.0 (keys_of es) tied h.0))
      | false ↦ λ t. omega (arith, one_at k n es h.1)
    ] refl in
    omega (arith, front, together)

more_at : (d : Credential × ℕ) (deposits : List (Credential × ℕ)) (es : List (Credential × Entry))
    → sum_by (λ (e : Credential × Entry). at (d ∷ deposits) e.0) es
    ≤ sum_by (λ (e : Credential × Entry). cond (eq_by_cmp credential_cmp e.0 d.0) d.1 0) es + sum_by (λ (e : Credential × Entry). at deposits e.0) es
more_at d deposits [] = omega arith
more_at d deposits (e ∷ es) =
    let here : at (d ∷ deposits) e.0 ≤ cond (eq_by_cmp credential_cmp e.0 d.0) d.1 0 + at deposits e.0 =
    elim (eq_by_cmp credential_cmp e.0 d.0) as (λ b. unwrap_or (cond b (Some d.1) (value_at credential_cmp deposits e.0)) 0 ≤ cond b d.1 0 + at deposits e.0) [
      | true ↦ omega arith
      | false ↦ omega arith
    ] in
    omega (
      arith,
      here,
      more_at d deposits es,
      sum_by-cons (λ (e : Credential × Entry). at (d ∷ deposits) e.0) e es,
      sum_by-cons (λ (e : Credential × Entry). cond (eq_by_cmp credential_cmp e.0 d.0) d.1 0) e es,
      sum_by-cons (λ (e : Credential × Entry). at deposits e.0) e es,
    )

no_deposits : (es : List (Credential × Entry)) → sum_by (λ (e : Credential × Entry). at [] e.0) es ≡ 0
no_deposits [] = refl
no_deposits (e ∷ es) = no_deposits es

-- the deposits of accounts, each listed once, are within all deposits
pub covered : (es : List (Credential × Entry)) (deposits : List (Credential × ℕ)) → IsMap credential_cmp es → sum_by (λ (e : Credential × Entry). at deposits e.0) es ≤ total_of deposits
covered es [] h = omega (arith, no_deposits es)
covered es (d ∷ deposits) h =
    omega (arith, more_at d deposits es, one_at d.0 d.1 es h, covered es deposits h, sum_by-cons (λ (n : ℕ). n) d.1 (values_of deposits))

abbrev holds_of : Credential × Entry → ℕ
holds_of e = e.1.stake + amount (λ (r : Registered). r.rewards) e.1.registered

pub weighed : (es : List (Credential × Entry)) (deposits : List (Credential × ℕ)) → IsCountable es deposits → sum_by (weight_by deposits) es < 2 ^ 64
weighed es deposits h = omega (arith, sum_by-plus holds_of (λ (e : Credential × Entry). at deposits e.0) es, covered es deposits h.in_order, h.room)

module _ {A : Type 0} (w : A → ℕ) where
  pub filtered_le : (p : A → Bool) (xs : List A) → sum_by w (filter p xs) ≤ sum_by w xs
  filtered_le p [] = omega arith
  filtered_le p (x ∷ xs) =
      elim (p x) as (λ b. sum_by w (cond b (x ∷ filter p xs) (filter p xs)) ≤ sum_by w (x ∷ xs)) [
        | true ↦ omega (arith, filtered_le p xs, sum_by-cons w x xs, sum_by-cons w x (filter p xs))
        | false ↦ omega (arith, filtered_le p xs, sum_by-cons w x xs)
      ]

  -- those before a place that pass, and the item there, weigh no more than all
  pub within : (p : A → Bool) (xs : List A) (i : ℕ) (x : A) (rest : List A) → drop i xs ≡ x ∷ rest → sum_by w (filter p (take i xs)) + w x ≤ sum_by w xs
  within p xs i x rest cut =
      omega (
        arith,
        filtered_le p (take i xs),
        sum_by-append w (take i xs) (drop i xs),
        ap (λ (l : List A). sum_by w l) (take-append-drop i xs),
        ap (λ (l : List A). sum_by w l) cut,
        sum_by-cons w x rest,
      )

  sum-one : (p : A → Bool) (x : A) → sum_by w (filter p (x ∷ [])) ≡ cond (p x) (w x) 0
  sum-one p x = elim (p x) as (λ b. sum_by w (cond b (x ∷ []) []) ≡ cond b (w x) 0) [ true ↦ omega (arith, sum_by-cons w x []) | false ↦ refl ]

  -- one more item
  pub with_next : (p : A → Bool) (front : List A) (x : A) → sum_by w (filter p (front ++ x ∷ [])) ≡ sum_by w (filter p front) + cond (p x) (w x) 0
  with_next p front x = ap (λ (l : List A). sum_by w l) (filter-append p front (x ∷ [])) ∙ sum_by-append w (filter p front) (filter p (x ∷ [])) ∙ ap (λ n. sum_by w (filter p front) + n) (sum-one p x)
