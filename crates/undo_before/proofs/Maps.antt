-- Old values at names hold of each map that differs from the old one at these names alone.
use Rattle.std.proofs.Common.{◌≡◌, ℕ, ◌+◌, ◌<◌, ◌≤◌, drop, get_or, length, append-nil, append_assoc, List, [], ◌∷◌, ◌++◌, true, false, cond, ◌||◌, Option, Some, None, refl, ap, sym, ◌∙◌}
use Rattle.std.specs.declared.cmp.Ordering.{Ordering}
use Rattle.std.specs.Ordering.{eq_by_cmp}
use Rattle.std.proofs.lemmas.List.{at_drop_all, at_drop_more}
use Rattle.std.specs.List.{AllByRecursion}
use Rattle.std.specs.Map.{keys_of}
use Rattle.maps.proofs.Kept.{keys_of-each}
use Rattle.maps.specs.Maps.{has_member, value_at}
use Rattle.undo_model.specs.Holds.{HoldsOld}
use Rattle.undo_before.specs.Old.{none_at, old_at}

-- a key that is not in two lists together is in neither
pub in_neither : {K : Type 0} (cmp : K → K → Ordering) (xs ys : List K) (k : K) → has_member cmp (xs ++ ys) k ≡ false → (has_member cmp xs k ≡ false) × (has_member cmp ys k ≡ false)
in_neither cmp [] ys k h = (refl, h)
in_neither cmp (x ∷ xs) ys k h =
    elim (eq_by_cmp cmp k x) as (λ b. (b || has_member cmp (xs ++ ys) k) ≡ false → ((b || has_member cmp xs k) ≡ false) × (has_member cmp ys k ≡ false)) [
      | true ↦ λ h. cc
      | false ↦ λ h. in_neither cmp xs ys k h
    ] h

-- a key that is not among the keys has no value
pub no_value : {K X : Type 0} (cmp : K → K → Ordering) (es : List (K × X)) (k : K) → has_member cmp (keys_of es) k ≡ false → value_at cmp es k ≡ None
no_value cmp [] k h = refl
no_value cmp (e ∷ es) k h =
    elim (eq_by_cmp cmp k e.0) as (λ b. (b || has_member cmp (keys_of es) k) ≡ false → cond b (Some e.1) (value_at cmp es k) ≡ None) [
      | true ↦ λ h. cc
      | false ↦ λ h. no_value cmp es k h
    ] h

pub all-append : {A : Type 0} (P : A → Type 0) (xs ys : List A) → AllByRecursion P xs → AllByRecursion P ys → AllByRecursion P (xs ++ ys)
all-append P [] ys h g = g
all-append P (x ∷ xs) ys h g = (h.0, all-append P xs ys h.1 g)

pub keys_of-append : {K X : Type 0} (xs ys : List (K × X)) → keys_of (xs ++ ys) ≡ keys_of xs ++ keys_of ys
keys_of-append [] ys = refl
keys_of-append (x ∷ xs) ys = ap (λ ks. x.0 ∷ ks) (keys_of-append xs ys)

module _ {K X : Type 0} (cmp : K → K → Ordering) (es : List (K × X)) where
  -- each old value is the map's
  abbrev pub AreValues : List (K × Option X) → Type 0
  AreValues olds = AllByRecursion (λ (o : K × Option X). value_at cmp es o.0 ≡ o.1) olds

  pub values_at : (ks : List K) → AreValues (old_at cmp es ks)
  values_at [] = tt
  values_at (k ∷ ks) = (refl, values_at ks)

  pub values_none : (ks : List K) → AllByRecursion (λ k. value_at cmp es k ≡ None) ks → AreValues (none_at ks)
  values_none [] h = tt
  values_none (k ∷ ks) h = (h.0, values_none ks h.1)

  -- a map that is as this one at all other keys
  pub holds_at : (ks : List K) (after : List (K × X)) → ((k : K) → has_member cmp ks k ≡ false → value_at cmp after k ≡ value_at cmp es k) → HoldsOld cmp (old_at cmp es ks) es after
  holds_at ks after same = record {
    values = values_at ks;
    others = λ k absent. same k (ap (λ (ns : List K). has_member cmp ns k) (sym (keys_of-each (value_at cmp es) ks)) ∙ absent);
  }

  -- no old value, and no difference
  pub holds_none : HoldsOld cmp [] es es
  holds_none = record { values = tt; others = λ k absent. refl }

  -- one more old value is read
  pub next_old : (ks : List K) (i : ℕ) (d : K) (olds new : List (K × Option X)) (x : Option X) → i < length ks → x ≡ value_at cmp es (get_or ks i d)
      → new ≡ olds ++ (get_or ks i d, x) ∷ [] → olds ++ old_at cmp es (drop i ks) ≡ old_at cmp es ks → new ++ old_at cmp es (drop (i + 1) ks) ≡ old_at cmp es ks
  next_old ks i d olds new x lt is pushed before =
      let rest : List (K × Option X) = old_at cmp es (drop (i + 1) ks) in
      ap (λ (os : List (K × Option X)). os ++ rest) pushed
      ∙ append_assoc olds ((get_or ks i d, x) ∷ []) rest
      ∙ ap (λ (v : Option X). olds ++ (get_or ks i d, v) ∷ rest) is
      ∙ ap (λ (os : List (K × Option X)). olds ++ os) (sym (at_drop_more (old_at cmp es) ks i d lt))
      ∙ before

  -- and at the end all are
  pub all_old : (ks : List K) (i : ℕ) (olds : List (K × Option X)) → length ks ≤ i → olds ++ old_at cmp es (drop i ks) ≡ old_at cmp es ks → olds ≡ old_at cmp es ks
  all_old ks i olds past before = sym (append-nil olds) ∙ ap (λ (os : List (K × Option X)). olds ++ os) (sym (at_drop_all (old_at cmp es) ks i past)) ∙ before
