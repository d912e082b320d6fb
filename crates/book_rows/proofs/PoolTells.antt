-- The pool that a row shows.
use Rattle.std.proofs.Common.{◌≡◌, ◌&&◌, Bool, true, false, not, cond, List, [], ◌∷◌, Option, Some, None, is_some, map, option_to_list, ◌≤◌, ◌<◌, length, get_or, arith, refl, ap, sym, ◌∙◌, subst}
use Rattle.std.proofs.lemmas.Bool.{false≢true}
use Rattle.std.proofs.lemmas.Cmp.{eq_by_cmp_equiv}
use Rattle.std.proofs.lemmas.Option.{none-some, same_Some}
use Rattle.gov_ids.specs.declared.PoolId.{PoolId}
use Rattle.gov_ids.specs.Same.{same_pool}
use Rattle.gov_ids.proofs.Exacts.{pool_exact}
use Rattle.gov_ids.proofs.Totals.{pool_total}
use Rattle.maps.proofs.Ties.{same_key}
use Rattle.book_records.specs.declared.pool.Pool.{Pool}
use Rattle.book_records.specs.declared.pool.PoolTerms.{PoolTerms}
use Rattle.shown_lists.specs.Only.{IsOnly}
use Rattle.checkpoint_lists.specs.Shown.{pool_row}
use Rattle.book_rows.specs.Rows.{pool_of_row}

-- a pool without its future terms, and those
abbrev Row : Type 0
Row = (PoolId × Pool) × List (PoolId × PoolTerms)

-- the terms of a pool
abbrev terms_of : PoolId × Pool → Option PoolTerms → List (PoolId × PoolTerms)
terms_of p o = map (λ (t : PoolTerms). (p.0, t)) (option_to_list o)

-- ---- the row of a pool shows it

with_terms : (b : Bool) (p : PoolId × Pool) (t : PoolTerms) → b ≡ true → cond {A = Option (PoolId × Pool)} (true && b) (Some (p.0, record p.1 { future = Some t })) None ≡ Some (p.0, record p.1 { future = Some t })
with_terms true p t is = refl
with_terms false p t is = absurd (false≢true is)

told_by : (p : PoolId × Pool) (o : Option PoolTerms) → p.1.future ≡ o → pool_of_row (pool_row p) ≡ Some p
told_by p None is =
    ap (λ (x : Option PoolTerms). pool_of_row ((p.0, record p.1 { future = None }), terms_of p x)) is
    ∙ (λ i. Some (p.0, record p.1 { future = sym is i }))
told_by p (Some t) is =
    ap (λ (x : Option PoolTerms). pool_of_row ((p.0, record p.1 { future = None }), terms_of p x)) is
    ∙ with_terms (same_pool p.0 p.0) p t ((eq_by_cmp_equiv pool_total).refl p.0)
    ∙ (λ i. Some (p.0, record p.1 { future = sym is i }))

-- ---- a row that shows a pool is its row

plain_row : (q : PoolId × Pool) → q.1.future ≡ None → pool_row q ≡ (q, [])
plain_row q is = λ i. ((q.0, record q.1 { future = sym is i }), terms_of q (is i))

plain_by : (o : Option PoolTerms) (q p : PoolId × Pool) → q.1.future ≡ o → cond (is_some o) None (Some q) ≡ Some p → pool_row p ≡ (q, [])
plain_by None q p is e = subst (λ (x : PoolId × Pool). pool_row x ≡ (q, [])) (same_Some q p e) (plain_row q is)
plain_by (Some t) q p is e = absurd (none-some p e)

one_row : (q : PoolId × Pool) (t : PoolId × PoolTerms) → q.1.future ≡ None → t.0 ≡ q.0 → pool_row (q.0, record q.1 { future = Some t.1 }) ≡ (q, t ∷ [])
one_row q t is same = λ i. ((q.0, record q.1 { future = sym is i }), (sym same i, t.1) ∷ [])

one_by : (o : Option PoolTerms) (b : Bool) (q p : PoolId × Pool) (t : PoolId × PoolTerms) → q.1.future ≡ o → same_pool t.0 q.0 ≡ b
    → cond {A = Option (PoolId × Pool)} (not (is_some o) && b) (Some (q.0, record q.1 { future = Some t.1 })) None ≡ Some p → pool_row p ≡ (q, t ∷ [])
one_by None true q p t is same e =
    subst (λ (x : PoolId × Pool). pool_row x ≡ (q, t ∷ [])) (same_Some (q.0, record q.1 { future = Some t.1 }) p e) (one_row q t is (same_key pool_exact t.0 q.0 same))
one_by None false q p t is same e = absurd (none-some p e)
one_by (Some u) b q p t is same e = absurd (none-some p e)

shown_by : (r : Row) (p : PoolId × Pool) → pool_of_row r ≡ Some p → pool_row p ≡ r
shown_by (q, []) p e = plain_by q.1.future q p refl e
shown_by (q, t ∷ []) p e = one_by q.1.future (same_pool t.0 q.0) q p t refl refl e
shown_by (q, t ∷ u ∷ ts) p e = absurd (none-some p e)

-- what is made of a row is the one pool that it shows
pub pool_only : (r : Row) → IsOnly (λ (p : PoolId × Pool). true ≡ true) pool_row r (pool_of_row r)
pool_only r = record {
  kind = λ p e. refl;
  some = λ p e. shown_by r p e;
  all = λ p k e. subst (λ (x : Row). pool_of_row x ≡ Some p) e (told_by p p.1.future refl);
}

-- ---- one pair of terms

-- a list of one item
pub one_item : {A : Type 0} (xs : List A) (x : A) → 1 ≤ length xs → length xs < 2 → x ≡ get_or xs 0 x → xs ≡ x ∷ []
one_item [] x some few is = absurd (omega (arith, some))
one_item {A} (y ∷ []) x some few is = ap (λ (z : A). z ∷ []) (sym is)
one_item (y ∷ z ∷ zs) x some few is = absurd (omega (arith, few))

module _ (q : PoolId × Pool) (ns : List (PoolId × PoolTerms)) (x : PoolId × PoolTerms) (some : 1 ≤ length ns) (few : length ns < 2) (is : x ≡ get_or ns 0 x) (plain : is_some q.1.future ≡ false) where
  -- of this pool
  pub one_told : same_pool x.0 q.0 ≡ true → pool_of_row (q, ns) ≡ Some (q.0, record q.1 { future = Some x.1 })
  one_told same = ap (λ (t : List (PoolId × PoolTerms)). pool_of_row (q, t)) (one_item ns x some few is) ∙ rw (plain, same) refl

  -- of another one
  pub one_not : same_pool x.0 q.0 ≡ false → pool_of_row (q, ns) ≡ None
  one_not other = ap (λ (t : List (PoolId × PoolTerms)). pool_of_row (q, t)) (one_item ns x some few is) ∙ rw (plain, other) refl
