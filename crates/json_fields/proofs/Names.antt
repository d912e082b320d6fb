-- The names seen so far are those of the entries read so far.
use Rattle.std.proofs.Common.{◌≡◌, ℕ, Bool, true, false, not, ◌||◌, List, [], ◌∷◌, ◌++◌, length, map, ◌<◌, ◌≤◌, refl, ap, sym, ◌∙◌, subst, arith}
use Rattle.std.specs.declared.cmp.Ordering.{Ordering}
use Rattle.std.specs.Ordering.{eq_by_cmp}
use Rattle.std.specs.Cmp.{IsTotalOrder}
use Rattle.std.specs.List.{list_any}
use Rattle.std.proofs.lemmas.Bool.{not-false, not-true}
use Rattle.std.proofs.lemmas.Bool.Decides.{nat_tests}
use Rattle.std.proofs.lemmas.Cmp.{eq_by_cmp_equiv}
use Rattle.std.proofs.lemmas.List.{map-append}
use Rattle.std.proofs.lemmas.List.Folds.{list_any-append}
use Rattle.maps.proofs.Sets.{has_member-with_key}
use Rattle.maps.specs.Maps.{has_member, with_key}
use Rattle.json_fields.specs.Lists.{is_full, is_known_or_full}

-- the keys are the names of these entries, as far as a test of one tells
pub record AreNames {A K : Type 0} (cmp : K → K → Ordering) (name : A → K) (keys : List K) (entries : List A) : Type 0 where
  pub tells : (k : K) → has_member cmp keys k ≡ has_member cmp (map name entries) k

last_first : (a b : Bool) → (a || b) ≡ (b || (a || false))
last_first true true = refl
last_first true false = refl
last_first false true = refl
last_first false false = refl

or_true : (b : Bool) → (b || true) ≡ true
or_true true = refl
or_true false = refl

is_full-within : {A : Type 0} (limit : ℕ) (before : List A) → length before < limit → is_full limit before ≡ false
is_full-within limit before h = grind (arith, nat_tests)

is_full-reached : {A : Type 0} (limit : ℕ) (before : List A) → limit ≤ length before → is_full limit before ≡ true
is_full-reached limit before h = grind (arith, nat_tests)

-- whether a name is new, by an order that is the same
pub is_new-by : {K : Type 0} {cmp order : K → K → Ordering} → cmp ≡ order → (keys : List K) {k n : K} → k ≡ n → {is_new : Bool} → is_new ≡ not (has_member cmp keys k) → not (has_member order keys n) ≡ is_new
is_new-by same keys named added = sym (added ∙ λ i. not (has_member (same i) keys (named i)))

module _ {A K : Type 0} {cmp : K → K → Ordering} {name : A → K} {keys : List K} {before : List A} (names : AreNames cmp name keys before) (limit : ℕ) (x : A) where
  -- an entry whose name was seen
  pub known_or_full-seen : not (has_member cmp keys (name x)) ≡ false → is_known_or_full cmp name limit before x ≡ true
  known_or_full-seen e = ap (λ b. b || is_full limit before) (sym (names.tells (name x)) ∙ not-false _ e)

  -- an entry past the limit
  pub known_or_full-past : limit ≤ length before → is_known_or_full cmp name limit before x ≡ true
  known_or_full-past h = ap (λ b. has_member cmp (map name before) (name x) || b) (is_full-reached limit before h) ∙ or_true _

  -- an entry that may stand
  pub known_or_full-fits : not (has_member cmp keys (name x)) ≡ true → length before < limit → is_known_or_full cmp name limit before x ≡ false
  known_or_full-fits e h = ap (λ b. b || is_full limit before) (sym (names.tells (name x)) ∙ not-true _ e) ∙ is_full-within limit before h

push : {A K : Type 0} {cmp : K → K → Ordering} → IsTotalOrder cmp → (name : A → K) (keys : List K) (before : List A) (x : A)
    → AreNames cmp name keys before → AreNames cmp name (with_key cmp (name x) keys) (before ++ x ∷ [])
push {A} {K} {cmp} o name keys before x names = record {
  tells = λ k.
      has_member-with_key o (name x) keys k
      ∙ ap (λ b. b || has_member cmp keys k) ((eq_by_cmp_equiv o).symm (name x) k)
      ∙ ap (λ b. eq_by_cmp cmp k (name x) || b) (names.tells k)
      ∙ last_first (eq_by_cmp cmp k (name x)) (has_member cmp (map name before) k)
      ∙ sym (list_any-append (eq_by_cmp cmp k) (map name before) (name x ∷ []))
      ∙ ap (list_any (eq_by_cmp cmp k)) (sym (map-append name before (x ∷ [])));
}

-- one more entry, and its name
pub AreNames-push : {A K : Type 0} {cmp order : K → K → Ordering} → cmp ≡ order → IsTotalOrder cmp → {name : A → K} {keys ks : List K} {before xs : List A} {k : K} (x : A)
    → AreNames order name keys before → k ≡ name x → ks ≡ with_key cmp k keys → xs ≡ before ++ x ∷ [] → AreNames order name ks xs
AreNames-push same o {name} {keys} {ks} {before} x names named put pushed =
    rw (pushed, put, same, named) (push (subst (λ R. IsTotalOrder R) same o) name keys before x names)
