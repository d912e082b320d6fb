-- Sets: what has changed, and that the keys stay in order.
use Rattle.std.proofs.Common.{◌≡◌, List, [], ◌∷◌, Bool, true, false, cond, not, ◌&&◌, ◌||◌, fold, refl, ap, ◌∙◌}
use Rattle.std.specs.declared.cmp.Ordering.{Ordering}
use Rattle.std.specs.declared.cmp.Ordering.TheVariants.{Less, Equal, Greater}
use Rattle.std.specs.Ordering.{is_eq, eq_by_cmp, ordering_reverse, match_ordering}
use Rattle.std.specs.Cmp.{IsTotalOrder}
use Rattle.std.specs.List.{AllByRecursion}
use Rattle.std.specs.List.Sorted.{IsStrictlySortedBy}
use Rattle.std.proofs.lemmas.Cmp.{eq_by_cmp_equiv}
use Rattle.maps.proofs.Ties.{is_equal, tied, apart, all_above, all_tied}
use Rattle.maps.specs.Maps.{IsSet, with_key, in_order, has_member, without_member}

-- what holds of each key holds of each with one more
pub all-with_key : {K : Type 0} (cmp : K → K → Ordering) (P : K → Type 0) (k : K) (ks : List K) → P k → AllByRecursion P ks → AllByRecursion P (with_key cmp k ks)
all-with_key cmp P k [] p h = (p, tt)
all-with_key cmp P k (x ∷ ks) p h =
    elim (cmp k x) as (λ r. AllByRecursion P (match_ordering r (k ∷ x ∷ ks) (x ∷ ks) (x ∷ with_key cmp k ks))) [
      | Less ↦ (p, h)
      | Equal ↦ h
      | Greater ↦ (h.0, all-with_key cmp P k ks p h.1)
    ]

-- and of each with one less
pub all-without_member : {K : Type 0} (cmp : K → K → Ordering) (P : K → Type 0) (k : K) (ks : List K) → AllByRecursion P ks → AllByRecursion P (without_member cmp k ks)
all-without_member cmp P k [] h = tt
all-without_member cmp P k (x ∷ ks) h =
    elim (eq_by_cmp cmp k x) as (λ b. AllByRecursion P (cond b ks (x ∷ without_member cmp k ks))) [
      | true ↦ h.1
      | false ↦ (h.0, all-without_member cmp P k ks h.1)
    ]

pub IsSet-without_member : {K : Type 0} (cmp : K → K → Ordering) (k : K) (ks : List K) → IsSet cmp ks → IsSet cmp (without_member cmp k ks)
unfolding IsStrictlySortedBy
IsSet-without_member cmp k [] h = tt
IsSet-without_member cmp k (x ∷ ks) h =
    elim (eq_by_cmp cmp k x) as (λ b. IsSet cmp (cond b ks (x ∷ without_member cmp k ks))) [
      | true ↦ h.1
      | false ↦ (all-without_member cmp (λ q. cmp x q ≡ Less) k ks h.0, IsSet-without_member cmp k ks h.1)
    ]

module _ {K : Type 0} {cmp : K → K → Ordering} (o : IsTotalOrder cmp) where
  pub IsSet-with_key : (k : K) (ks : List K) → IsSet cmp ks → IsSet cmp (with_key cmp k ks)
  unfolding IsStrictlySortedBy
  IsSet-with_key k [] h = (tt, tt)
  IsSet-with_key k (x ∷ ks) h =
      elim (cmp k x) as (λ r. cmp k x ≡ r → IsSet cmp (match_ordering r (k ∷ x ∷ ks) (x ∷ ks) (x ∷ with_key cmp k ks))) [
        | Less ↦ λ p. ((p, all_above o k x ks p h.0), h)
        | Equal ↦ λ p. h
        | Greater ↦ λ p. (all-with_key cmp (λ q. cmp x q ≡ Less) k ks (o.antisymm x k ∙ ap ordering_reverse p) h.0, IsSet-with_key k ks h.1)
      ] refl

  IsSet-with_all : (ks s : List K) → IsSet cmp s → IsSet cmp (fold (λ t k. with_key cmp k t) s ks)
  IsSet-with_all [] s h = h
  IsSet-with_all (k ∷ ks) s h = IsSet-with_all ks (with_key cmp k s) (IsSet-with_key k s h)

  pub IsSet-in_order : (ks : List K) → IsSet cmp (in_order cmp ks)
  unfolding IsStrictlySortedBy
  IsSet-in_order ks = IsSet-with_all ks [] tt

  or_twice : (a b c : Bool) → a ≡ b → (a || c) ≡ (b || (a || c))
  or_twice true true c e = refl
  or_twice true false c e = cc
  or_twice false true c e = cc
  or_twice false false c e = refl

  or_swap : (a b c : Bool) → (a || (b || c)) ≡ (b || (a || c))
  or_swap true true c = refl
  or_swap true false c = refl
  or_swap false b c = refl

  pub has_member-with_key : (k : K) (ks : List K) (q : K) → has_member cmp (with_key cmp k ks) q ≡ (eq_by_cmp cmp k q || has_member cmp ks q)
  has_member-with_key k [] q = ap (λ b. b || false) ((eq_by_cmp_equiv o).symm q k)
  has_member-with_key k (x ∷ ks) q =
      elim (cmp k x) as (λ r. cmp k x ≡ r → has_member cmp (match_ordering r (k ∷ x ∷ ks) (x ∷ ks) (x ∷ with_key cmp k ks)) q ≡ (eq_by_cmp cmp k q || has_member cmp (x ∷ ks) q)) [
        | Less ↦ λ p. ap (λ b. b || has_member cmp (x ∷ ks) q) ((eq_by_cmp_equiv o).symm q k)
        | Equal ↦ λ p. or_twice _ _ _ (tied o k x q (ap is_eq p))
        | Greater ↦ λ p. ap (λ b. eq_by_cmp cmp q x || b) (has_member-with_key k ks q) ∙ or_swap (eq_by_cmp cmp q x) (eq_by_cmp cmp k q) (has_member cmp ks q)
      ] refl

  or_later : (a b c d : Bool) → a ≡ d → ((a || b) || c) ≡ (b || (d || c))
  or_later true true c true e = refl
  or_later true false c true e = refl
  or_later true b c false e = cc
  or_later false b c true e = cc
  or_later false b c false e = refl

  has_member-with_all : (ks s : List K) (q : K) → has_member cmp (fold (λ t k. with_key cmp k t) s ks) q ≡ (has_member cmp s q || has_member cmp ks q)
  has_member-with_all [] s q = elim (has_member cmp s q) as (λ b. b ≡ (b || false)) [ true ↦ refl | false ↦ refl ]
  has_member-with_all (k ∷ ks) s q =
      has_member-with_all ks (with_key cmp k s) q ∙ ap (λ b. b || has_member cmp ks q) (has_member-with_key k s q)
      ∙ or_later (eq_by_cmp cmp k q) (has_member cmp s q) (has_member cmp ks q) (eq_by_cmp cmp q k) ((eq_by_cmp_equiv o).symm k q)

  pub has_member-in_order : (ks : List K) (q : K) → has_member cmp (in_order cmp ks) q ≡ has_member cmp ks q
  has_member-in_order ks q = has_member-with_all ks [] q

  -- a key is not among keys that are all above it
  pub not_below : (q : K) (ks : List K) → AllByRecursion (λ x. cmp q x ≡ Less) ks → has_member cmp ks q ≡ false
  not_below q [] h = refl
  not_below q (x ∷ ks) h = ap (λ r. is_eq r || has_member cmp ks q) h.0 ∙ not_below q ks h.1

  gone : (a b c : Bool) → b ≡ a → (a ≡ true → c ≡ false) → c ≡ (not a && (b || c))
  gone true b c e f = f refl
  gone false true c e f = cc
  gone false false c e f = refl

  stays : (a b c : Bool) → (a ≡ true → b ≡ false) → (b || (not a && c)) ≡ (not a && (b || c))
  stays true true c f = f refl
  stays true false c f = refl
  stays false b c f = refl

  pub has_member-without_member : (k : K) (ks : List K) (q : K) → IsSet cmp ks → has_member cmp (without_member cmp k ks) q ≡ (not (eq_by_cmp cmp k q) && has_member cmp ks q)
  unfolding IsStrictlySortedBy
  has_member-without_member k [] q h = elim (eq_by_cmp cmp k q) as (λ b. false ≡ (not b && false)) [ true ↦ refl | false ↦ refl ]
  has_member-without_member k (x ∷ ks) q h =
      elim (eq_by_cmp cmp k x) as (λ b. eq_by_cmp cmp k x ≡ b → has_member cmp (cond b ks (x ∷ without_member cmp k ks)) q ≡ (not (eq_by_cmp cmp k q) && has_member cmp (x ∷ ks) q)) [
        | true ↦ λ e. gone _ _ _ (tied o k x q e) (λ t. not_below q ks (all_tied o q x ks (is_equal _ (tied o k x q e ∙ t)) h.0))
        | false ↦ λ e. ap (λ b. eq_by_cmp cmp q x || b) (has_member-without_member k ks q h.1)
            ∙ stays (eq_by_cmp cmp k q) (eq_by_cmp cmp q x) (has_member cmp ks q) (apart o k x q e)
      ] refl

  -- a key that is there already changes nothing
  pub with_key_there : (k : K) (ks : List K) → IsSet cmp ks → has_member cmp ks k ≡ true → with_key cmp k ks ≡ ks
  unfolding IsStrictlySortedBy
  with_key_there k [] h m = cc
  with_key_there k (x ∷ ks) h m =
      elim (cmp k x) as (λ r. cmp k x ≡ r → (is_eq r || has_member cmp ks k) ≡ true → match_ordering r (k ∷ x ∷ ks) (x ∷ ks) (x ∷ with_key cmp k ks) ≡ x ∷ ks) [
        | Less ↦ λ p m. let none : has_member cmp ks k ≡ false = not_below k ks (all_above o k x ks p h.0) in cc
        | Equal ↦ λ p m. refl
        | Greater ↦ λ p m. ap (λ (l : List K). x ∷ l) (with_key_there k ks h.1 m)
      ] refl m

-- a key that is not there leaves nothing behind
pub without_member_absent : {K : Type 0} (cmp : K → K → Ordering) (k : K) (ks : List K) → has_member cmp ks k ≡ false → without_member cmp k ks ≡ ks
without_member_absent cmp k [] m = refl
without_member_absent {K} cmp k (x ∷ ks) m =
    elim (eq_by_cmp cmp k x) as (λ b. (b || has_member cmp ks k) ≡ false → cond b ks (x ∷ without_member cmp k ks) ≡ x ∷ ks) [
      | true ↦ λ m. cc
      | false ↦ λ m. ap (λ (l : List K). x ∷ l) (without_member_absent cmp k ks m)
    ] m
