-- Keys that tie, and keys below others.
use Rattle.std.proofs.Common.{◌≡◌, List, [], ◌∷◌, true, false, refl, ap, sym, ◌∙◌}
use Rattle.std.specs.declared.cmp.Ordering.{Ordering}
use Rattle.std.specs.declared.cmp.Ordering.TheVariants.{Less, Equal, Greater}
use Rattle.std.specs.Ordering.{is_eq, is_lt, eq_by_cmp, ordering_reverse}
use Rattle.std.specs.Cmp.{IsTotalOrder}
use Rattle.std.specs.FinMap.{IsAntisymmetric}
use Rattle.std.specs.List.{AllByRecursion}
use Rattle.std.proofs.lemmas.Cmp.{eq_by_cmp_equiv}

pub is_equal : (r : Ordering) → is_eq r ≡ true → r ≡ Equal
is_equal Less e = cc
is_equal Equal e = refl
is_equal Greater e = cc

pub is_less : (r : Ordering) → is_lt r ≡ true → r ≡ Less
is_less Less e = refl
is_less Equal e = cc
is_less Greater e = cc

-- what ties with q is q
pub same_key : {K : Type 0} {cmp : K → K → Ordering} → IsAntisymmetric cmp → (q k : K) → eq_by_cmp cmp q k ≡ true → q ≡ k
same_key exact q k e = exact q k (is_equal _ e)

module _ {K : Type 0} {cmp : K → K → Ordering} (o : IsTotalOrder cmp) where
  -- the other way round
  pub turned : (x y : K) (r : Ordering) → cmp x y ≡ r → cmp y x ≡ ordering_reverse r
  turned x y r p = o.antisymm y x ∙ ap ordering_reverse p

  -- a key that ties with x is tied with by the same keys
  pub tied : (k x q : K) → eq_by_cmp cmp k x ≡ true → eq_by_cmp cmp q x ≡ eq_by_cmp cmp k q
  tied k x q e = (eq_by_cmp_equiv o).symm q x ∙ sym ((eq_by_cmp_equiv o).congr k x q e)

  -- a key that ties with k does not tie with what k does not
  pub apart : (k x q : K) → eq_by_cmp cmp k x ≡ false → eq_by_cmp cmp k q ≡ true → eq_by_cmp cmp q x ≡ false
  apart k x q e t = sym ((eq_by_cmp_equiv o).congr k q x t) ∙ e

  -- a key below another is below all that are above it
  pub all_above : (x y : K) (ks : List K) → cmp x y ≡ Less → AllByRecursion (λ q. cmp y q ≡ Less) ks → AllByRecursion (λ q. cmp x q ≡ Less) ks
  all_above x y [] p h = tt
  all_above x y (k ∷ ks) p h = (o.trans x y k p h.0, all_above x y ks p h.1)

  -- and so is a key that ties with it
  pub all_tied : (x y : K) (ks : List K) → cmp x y ≡ Equal → AllByRecursion (λ q. cmp y q ≡ Less) ks → AllByRecursion (λ q. cmp x q ≡ Less) ks
  all_tied x y [] p h = tt
  all_tied x y (k ∷ ks) p h = (o.congr x y k p ∙ h.0, all_tied x y ks p h.1)
