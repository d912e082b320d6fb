-- What changes of a map cover, and with one change more.
use Rattle.std.proofs.Common.{◌≡◌, List, [], ◌∷◌, Bool, true, false, ◌||◌, cond, is_some, Option, None, Some, Result, Ok, Err, is_err, OnOk, OnErr, refl, ap, sym, ◌∙◌}
use Rattle.std.specs.declared.cmp.Ordering.{Ordering}
use Rattle.std.specs.Ordering.{eq_by_cmp}
use Rattle.std.specs.Cmp.{IsTotalOrder}
use Rattle.std.specs.FinMap.{IsAntisymmetric}
use Rattle.std.proofs.lemmas.Map.Entries.{option_filter}
use Rattle.maps.proofs.Kept.{IsMap-entries_where, IsMap-without_key}
use Rattle.maps.proofs.Lookups.{has_key-with_value, value_at-entries_where, value_at-without_key}
use Rattle.maps.proofs.Placed.{value_at_tied}
use Rattle.maps.proofs.Same.{map_from_value_at}
use Rattle.maps.specs.Maps.{IsMap, entries_where, has_key, value_at, with_value, without_key}
use Rattle.maps.specs.Replaced.{with_option}
use Rattle.draft_changes.specs.Covered.{covered_entries}
use Rattle.maps.proofs.Replaced.{IsMap-with_option, value_at-with_option}

-- no change covers anything
pub nothing_covered : {K X : Type 0} (cmp : K → K → Ordering) (es : List (K × X)) → covered_entries cmp [] es ≡ []
nothing_covered cmp [] = refl
nothing_covered cmp (e ∷ es) = nothing_covered cmp es

module _ {K X : Type 0} {cmp : K → K → Ordering} (o : IsTotalOrder cmp) (k : K) (v : X) (changed : List (K × X)) where
  -- a key that ties is changed where this one is
  has_tied : (q : K) → eq_by_cmp cmp k q ≡ true → has_key cmp changed q ≡ has_key cmp changed k
  has_tied q t = ap (λ (x : Option X). is_some x) (value_at_tied o k q changed t)

  either_known : (q : K) (b : Bool) → eq_by_cmp cmp k q ≡ b → has_key cmp changed k ≡ true → (b || has_key cmp changed q) ≡ has_key cmp changed q
  either_known q true t known = sym (has_tied q t ∙ known)
  either_known q false t known = refl

  -- one more change of a key that is changed covers nothing more
  covered_known : (es : List (K × X)) → has_key cmp changed k ≡ true → covered_entries cmp changed es ≡ covered_entries cmp (with_value cmp k v changed) es
  covered_known es known =
      sym (λ i. entries_where (λ q x. (has_key-with_value o k v changed q ∙ either_known q (eq_by_cmp cmp k q) refl known) i) es)

  -- the same by what a change answered
  pub covered_put : {T E : Type 0} (r : Result T E) (es new : List (K × X)) → OnOk r (new ≡ with_value cmp k v changed) → OnErr r (new ≡ changed)
      → has_key cmp changed k ≡ true → covered_entries cmp changed es ≡ covered_entries cmp new es
  covered_put (Ok t) es new ok err known = covered_known es known ∙ ap (λ (l : List (K × X)). covered_entries cmp l es) (sym ok)
  covered_put (Err e) es new ok err known = ap (λ (l : List (K × X)). covered_entries cmp l es) (sym err)

  either_covered : (q : K) (b : Bool) (here there : Option X) → eq_by_cmp cmp k q ≡ b → (b ≡ true → there ≡ here)
      → cond b here (option_filter (λ x. has_key cmp changed q) there) ≡ option_filter (λ x. b || has_key cmp changed q) there
  either_covered q true here None t e = sym (e refl)
  either_covered q true here (Some x) t e = sym (e refl)
  either_covered q false here there t e = refl

  dropped : (q : K) (b : Bool) (here there : Option X) → eq_by_cmp cmp k q ≡ b → has_key cmp changed k ≡ false
      → cond b None (cond b here (option_filter (λ x. has_key cmp changed q) there)) ≡ option_filter (λ x. has_key cmp changed q) there
  dropped q true here None t unknown = refl
  dropped q true here (Some x) t unknown = ap (λ b. option_filter (λ y. b) (Some x)) (sym (has_tied q t ∙ unknown))
  dropped q false here there t unknown = refl

  module _ (exact : IsAntisymmetric cmp) (es : List (K × X)) (h : IsMap cmp es) where
    covered_map : IsMap cmp (covered_entries cmp changed es)
    covered_map = IsMap-entries_where cmp (λ q x. has_key cmp changed q) es h

    -- a change covers the entry of its key, if there is one
    pub covered_more : with_option cmp k (value_at cmp es k) (covered_entries cmp changed es) ≡ covered_entries cmp (with_value cmp k v changed) es
    covered_more =
        let here = value_at cmp es k in
        let more : IsMap cmp (covered_entries cmp (with_value cmp k v changed) es) = IsMap-entries_where cmp (λ q x. has_key cmp (with_value cmp k v changed) q) es h in
        map_from_value_at o exact (with_option cmp k here (covered_entries cmp changed es)) (covered_entries cmp (with_value cmp k v changed) es)
        (IsMap-with_option o k here (covered_entries cmp changed es) covered_map) more
        (λ q. value_at-with_option o k here (covered_entries cmp changed es) q covered_map
        ∙ ap (λ (x : Option X). cond (eq_by_cmp cmp k q) here x) (value_at-entries_where o exact (λ p x. has_key cmp changed p) es q h)
        ∙ either_covered q (eq_by_cmp cmp k q) here (value_at cmp es q) refl (λ t. value_at_tied o k q es t)
        ∙ sym (value_at-entries_where o exact (λ p x. has_key cmp (with_value cmp k v changed) p) es q h
        ∙ ap (λ b. option_filter (λ x. b) (value_at cmp es q)) (has_key-with_value o k v changed q)))

    -- and without that entry it is as before
    pub covered_undone : (x : Option X) → has_key cmp changed k ≡ false → without_key cmp k (with_option cmp k x (covered_entries cmp changed es)) ≡ covered_entries cmp changed es
    covered_undone x unknown =
        let put : IsMap cmp (with_option cmp k x (covered_entries cmp changed es)) = IsMap-with_option o k x (covered_entries cmp changed es) covered_map in
        let there = λ (q : K). value_at-entries_where o exact (λ p y. has_key cmp changed p) es q h in
        map_from_value_at o exact (without_key cmp k (with_option cmp k x (covered_entries cmp changed es))) (covered_entries cmp changed es)
        (IsMap-without_key cmp k (with_option cmp k x (covered_entries cmp changed es)) put) covered_map
        (λ q. value_at-without_key o k (with_option cmp k x (covered_entries cmp changed es)) q put
        ∙ ap (λ (y : Option X). cond (eq_by_cmp cmp k q) None y) (value_at-with_option o k x (covered_entries cmp changed es) q covered_map)
        ∙ ap (λ (y : Option X). cond (eq_by_cmp cmp k q) None (cond (eq_by_cmp cmp k q) x y)) (there q)
        ∙ dropped q (eq_by_cmp cmp k q) x (value_at cmp es q) refl unknown
        ∙ sym (there q))

-- what is said of an answer, where it is that one
pub from_ok : {T E P : Type 0} (r : Result T E) → is_err r ≡ false → OnOk r P → P
from_ok (Ok t) h p = p
from_ok (Err e) h p = cc

pub from_err : {T E P : Type 0} (r : Result T E) → is_err r ≡ true → OnErr r P → P
from_err (Ok t) h p = cc
from_err (Err e) h p = p
