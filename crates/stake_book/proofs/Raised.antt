-- What an amount more or less at one key does.
use Rattle.std.proofs.Common.{◌≡◌, ℕ, ◌+◌, ◌≤◌, List, [], ◌∷◌, true, false, cond, Option, Some, None, unwrap_or, refl, ap, sym, ◌∙◌, arith}
use Rattle.std.specs.BTreeMap.{is_at}
use Rattle.std.specs.declared.cmp.Ordering.{Ordering}
use Rattle.std.specs.declared.cmp.Ordering.TheVariants.{Less, Equal, Greater}
use Rattle.std.specs.Cmp.{IsTotalOrder}
use Rattle.std.specs.List.Sorted.{IsStrictlySortedBy}
use Rattle.std.specs.Map.{keys_of, set_value}
use Rattle.std.specs.Ordering.{eq_by_cmp, is_eq, match_ordering}
use Rattle.std.proofs.lemmas.Cmp.{eq_by_cmp_equiv}
use Rattle.std.proofs.lemmas.Map.Entries.{sum_by-insert_entry, sum_by-remove_entry}
use Rattle.coin_frac.specs.Totals.{total_of}
use Rattle.maps.proofs.Lookups.{none_below, value_at-with_value, value_at-without_key}
use Rattle.maps.proofs.Placed.{value_at_tied}
use Rattle.maps.proofs.Sums.{as_amount}
use Rattle.maps.proofs.Ties.{all_above}
use Rattle.maps.specs.Maps.{IsMap, value_at, with_value, without_key}
use Rattle.maps.specs.Words.{amount}
use Rattle.stake_book.specs.Sums.{IsRaised, amount_at, amount_for}

pub amount_within : {K : Type 0} (cmp : K → K → Ordering) (es : List (K × ℕ)) (k : K) → amount_at cmp es k ≤ total_of es
amount_within cmp es k = omega (arith, as_amount (value_at cmp es k), sum_by-remove_entry (λ v. v) (is_at (cmp k)) es)

pub unraised : {K : Type 0} (cmp : K → K → Ordering) (n : ℕ) (es : List (K × ℕ)) → IsRaised cmp None n es es
unraised cmp n es = record { each = λ q. omega arith; total = omega arith }

-- what takes away does not ask for what was written there before
pub written_gone : {K : Type 0} (cmp : K → K → Ordering) (k : K) (v : ℕ) (es : List (K × ℕ)) → without_key cmp k (set_value (is_at (cmp k)) es v) ≡ without_key cmp k es
written_gone cmp k v [] = refl
written_gone {K} cmp k v (e ∷ es) =
    elim (eq_by_cmp cmp k e.0) as (λ b. eq_by_cmp cmp k e.0 ≡ b → without_key cmp k (cond b ((e.0, v) ∷ es) (e ∷ set_value (is_at (cmp k)) es v)) ≡ cond b es (e ∷ without_key cmp k es)) [
      | true ↦ λ t.
          ap (λ b. cond b es ((e.0, v) ∷ without_key cmp k es)) t
      | false ↦ λ t.
          ap (λ b. cond b (set_value (is_at (cmp k)) es v) (e ∷ without_key cmp k (set_value (is_at (cmp k)) es v))) t
          ∙ ap (λ (l : List (K × ℕ)). e ∷ l) (written_gone cmp k v es)
    ] refl

module _ {K : Type 0} {cmp : K → K → Ordering} (o : IsTotalOrder cmp) where
  itself : (k : K) → eq_by_cmp cmp k k ≡ true
  itself k = (eq_by_cmp_equiv o).refl k

  -- a key has the amount that is for it
  pub amount_there : (k : K) (n : ℕ) (named : Option K) → named ≡ Some k → amount_for cmp n named k ≡ n
  amount_there k n named is = ap (λ (x : Option K). amount_for cmp n x k) is ∙ ap (λ b. cond b n 0) (itself k)

  -- a value that is written where one stood
  pub written_there : (k : K) (v x : ℕ) (es : List (K × ℕ)) → IsMap cmp es → value_at cmp es k ≡ Some x → set_value (is_at (cmp k)) es v ≡ with_value cmp k v es
  unfolding IsStrictlySortedBy
  written_there k v x [] h m = cc
  written_there k v x (e ∷ es) h m =
      elim (cmp k e.0) as (λ r. cmp k e.0 ≡ r → cond (is_eq r) (Some e.1) (value_at cmp es k) ≡ Some x
      → cond (is_eq r) ((e.0, v) ∷ es) (e ∷ set_value (is_at (cmp k)) es v) ≡ match_ordering r ((k, v) ∷ e ∷ es) ((e.0, v) ∷ es) (e ∷ with_value cmp k v es)) [
        | Less ↦ λ r m. let none : value_at cmp es k ≡ None = none_below cmp k es (all_above o k e.0 (keys_of es) r h.0) in cc
        | Equal ↦ λ r m. refl
        | Greater ↦ λ r m. ap (λ (l : List (K × ℕ)). e ∷ l) (written_there k v x es h.1 m)
      ] refl m

  module _ (k : K) (v n : ℕ) (es : List (K × ℕ)) (h : IsMap cmp es) where
    put_at : (q : K) → amount_at cmp (with_value cmp k v es) q ≡ cond (eq_by_cmp cmp k q) v (amount_at cmp es q)
    put_at q =
        ap (λ (x : Option ℕ). unwrap_or x 0) (value_at-with_value o k v es q)
        ∙ elim (eq_by_cmp cmp k q) as (λ b. unwrap_or (cond b (Some v) (value_at cmp es q)) 0 ≡ cond b v (amount_at cmp es q)) [ true ↦ refl | false ↦ refl ]

    taken_at : (q : K) → amount_at cmp (without_key cmp k es) q ≡ cond (eq_by_cmp cmp k q) 0 (amount_at cmp es q)
    taken_at q =
        ap (λ (x : Option ℕ). unwrap_or x 0) (value_at-without_key o k es q h)
        ∙ elim (eq_by_cmp cmp k q) as (λ b. unwrap_or (cond b None (value_at cmp es q)) 0 ≡ cond b 0 (amount_at cmp es q)) [ true ↦ refl | false ↦ refl ]

    put_total : total_of (with_value cmp k v es) + amount_at cmp es k ≡ total_of es + v
    put_total = omega (arith, as_amount (value_at cmp es k), sum_by-insert_entry (λ v. v) o es k v h)

    taken_total : total_of (without_key cmp k es) + amount_at cmp es k ≡ total_of es
    taken_total = omega (arith, as_amount (value_at cmp es k), sum_by-remove_entry (λ v. v) (is_at (cmp k)) es)

    -- what ties with the key has its amount
    here : (q : K) → eq_by_cmp cmp k q ≡ true → amount_at cmp es q ≡ amount_at cmp es k
    here q t = ap (λ (x : Option ℕ). unwrap_or x 0) (value_at_tied o k q es t)

    pub raised : v ≡ amount_at cmp es k + n → IsRaised cmp (Some k) n es (with_value cmp k v es)
    raised e = record {
      each = λ q.
          put_at q
          ∙ elim (eq_by_cmp cmp k q) as (λ b. eq_by_cmp cmp k q ≡ b → cond b v (amount_at cmp es q) ≡ amount_at cmp es q + cond b n 0) [
            | true ↦ λ t. omega (arith, here q t, e)
            | false ↦ λ t. omega arith
          ] refl;
      total = omega (arith, put_total, e);
    }

    pub lowered : v + n ≡ amount_at cmp es k → IsRaised cmp (Some k) n (with_value cmp k v es) es
    lowered e = record {
      each = λ q.
          elim (eq_by_cmp cmp k q) as (λ b. eq_by_cmp cmp k q ≡ b → amount_at cmp es q ≡ cond b v (amount_at cmp es q) + cond b n 0) [
            | true ↦ λ t. omega (arith, here q t, e)
            | false ↦ λ t. omega arith
          ] refl
          ∙ ap (λ m. m + cond (eq_by_cmp cmp k q) n 0) (sym (put_at q));
      total = omega (arith, put_total, e);
    }

    pub taken : n ≡ amount_at cmp es k → IsRaised cmp (Some k) n (without_key cmp k es) es
    taken e = record {
      each = λ q.
          elim (eq_by_cmp cmp k q) as (λ b. eq_by_cmp cmp k q ≡ b → amount_at cmp es q ≡ cond b 0 (amount_at cmp es q) + cond b n 0) [
            | true ↦ λ t. omega (arith, here q t, e)
            | false ↦ λ t. omega arith
          ] refl
          ∙ ap (λ m. m + cond (eq_by_cmp cmp k q) n 0) (sym (taken_at q));
      total = omega (arith, taken_total, e);
    }

  -- what was raised is there
  pub raised_enough : (key : Option K) (n : ℕ) (before after : List (K × ℕ)) (k : K) → IsRaised cmp key n before after → key ≡ Some k → n ≤ amount_at cmp after k
  raised_enough key n before after k up is = omega (arith, up.each k, amount_there k n key is)

pub same_raised : {K : Type 0} {cmp : K → K → Ordering} {p q : Option K} {m n : ℕ} {before after : List (K × ℕ)} → p ≡ q → m ≡ n → IsRaised cmp p m before after → IsRaised cmp q n before after
same_raised {K} {cmp} {p} {q} {m} {n} {before} {after} e f h = record {
  each = λ x. h.each x ∙ (λ i. amount_at cmp before x + amount_for cmp (f i) (e i) x);
  total = h.total ∙ (λ i. total_of before + amount (λ _. f i) (e i));
}
