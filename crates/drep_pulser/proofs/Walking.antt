-- A walk from key to key goes by the places of a map's entries.
use Rattle.std.proofs.Common.{Bor, ◌≡◌, ℕ, zero, suc, ◌<◌, ◌≤◌, List, [], ◌∷◌, ◌++◌, true, false, cond, length, take, drop, slice_get, Option, Some, None, option_map, refl, ap, ◌∙◌, arith}
use Rattle.std.specs.declared.cmp.Ordering.TheVariants.{Less}
use Rattle.std.specs.Ordering.{is_lt, ordering_reverse}
use Rattle.std.specs.List.{AllByRecursion}
use Rattle.std.specs.List.Sorted.{IsStrictlySortedBy}
use Rattle.std.specs.Map.{keys_of}
use Rattle.std.specs.Option.{option_copied}
use Rattle.std.proofs.lemmas.Cmp.{eq_by_cmp_equiv}
use Rattle.gov_ids.specs.declared.Credential.{Credential}
use Rattle.gov_ids.specs.Orders.{credential_cmp}
use Rattle.gov_ids.proofs.Totals.{credential_total}
use Rattle.maps.proofs.Ties.{is_equal}
use Rattle.maps.specs.Maps.{IsMap, comes_past}
use Rattle.view_map.specs.Walk.{entries_past}
use Rattle.drep_pulser.specs.Facts.{cursor_at}

itself : (c : Credential) → is_lt (credential_cmp c c) ≡ false
itself c = ap is_lt (is_equal (credential_cmp c c) ((eq_by_cmp_equiv credential_total).refl c))

below : (c k : Credential) → credential_cmp c k ≡ Less → is_lt (credential_cmp k c) ≡ false
below c k p = ap is_lt (credential_total.antisymm k c ∙ ap ordering_reverse p)

pub copied_is : {K : Type 0} (r : Option (Bor K)) → option_copied r ≡ option_map (λ k. k.now) r
copied_is None = refl
copied_is (Some k) = refl

module _ {X : Type 0} where
  -- the item at a place
  pub found : (xs : List X) (i : ℕ) → i < length xs → (x : X) × (slice_get xs i ≡ Some x)
  found [] i lt = absurd (omega arith)
  found (x ∷ xs) zero lt = (x, refl)
  found (x ∷ xs) (suc i) lt = found xs i (omega arith)

  pub past_end : (xs : List X) (i : ℕ) → slice_get xs i ≡ None → length xs ≤ i
  past_end [] i m = omega arith
  past_end (x ∷ xs) zero m = cc
  past_end (x ∷ xs) (suc i) m = omega (arith, past_end xs i m)

  pub cut_at : (xs : List X) (i : ℕ) (x : X) → slice_get xs i ≡ Some x → drop i xs ≡ x ∷ drop (suc i) xs
  cut_at [] zero x m = cc
  cut_at [] (suc i) x m = cc
  cut_at (y ∷ xs) zero x m = cc
  cut_at (y ∷ xs) (suc i) x m = cut_at xs i x m

  pub took_at : (xs : List X) (i : ℕ) (x : X) → slice_get xs i ≡ Some x → take (suc i) xs ≡ take i xs ++ x ∷ []
  took_at [] zero x m = cc
  took_at [] (suc i) x m = cc
  took_at (y ∷ xs) zero x m = cc
  took_at (y ∷ xs) (suc i) x m = ap (λ (l : List X). y ∷ l) (took_at xs i x m)

  pub get_drop : (xs : List X) (i : ℕ) → slice_get (drop i xs) 0 ≡ slice_get xs i
  get_drop [] zero = refl
  get_drop [] (suc i) = refl
  get_drop (x ∷ xs) zero = refl
  get_drop (x ∷ xs) (suc i) = get_drop xs i

module _ {X : Type 0} where
  abbrev pub past : Option Credential → List (Credential × X) → List (Credential × X)
  past = entries_past credential_cmp

  all_past : (after : Option Credential) (es : List (Credential × X)) → AllByRecursion (λ q. comes_past credential_cmp after q ≡ true) (keys_of es) → past after es ≡ es
  all_past after [] h = refl
  all_past after (e ∷ es) h = ap (λ b. cond b (e ∷ past after es) (past after es)) h.0 ∙ ap (λ (l : List (Credential × X)). e ∷ l) (all_past after es h.1)

  any : (es : List (Credential × X)) → AllByRecursion (λ q. comes_past credential_cmp None q ≡ true) (keys_of es)
  any [] = tt
  any (e ∷ es) = (refl, any es)

  pub all_entries : (es : List (Credential × X)) → past None es ≡ es
  all_entries es = all_past None es (any es)

  later : (k : Credential) (es : List (Credential × X)) → AllByRecursion (λ q. credential_cmp k q ≡ Less) (keys_of es) → AllByRecursion (λ q. comes_past credential_cmp (Some k) q ≡ true) (keys_of es)
  later k [] h = tt
  later k (e ∷ es) h = (ap is_lt h.0, later k es h.1)

  key_at : (P : Credential → Type 0) (es : List (Credential × X)) (i : ℕ) → AllByRecursion P (keys_of es) → i < length es → (e : Credential × X) × (slice_get es i ≡ Some e) × P e.0
  key_at P [] i h lt = absurd (omega arith)
  key_at P (x ∷ es) zero h lt = (x, refl, h.0)
  key_at P (x ∷ es) (suc i) h lt = key_at P es i h.1 (omega arith)

  -- the entries past the one at a place are those behind it
  pub rest_at : (c : ℕ) (es : List (Credential × X)) → IsMap credential_cmp es → c ≤ length es → past (cursor_at c es) es ≡ drop c es
  unfolding IsStrictlySortedBy
  rest_at zero es h le = all_entries es
  rest_at (suc c) [] h le = absurd (omega arith)
  rest_at (suc zero) (e ∷ es) h le = ap (λ b. cond b (e ∷ past (Some e.0) es) (past (Some e.0) es)) (itself e.0) ∙ all_past (Some e.0) es (later e.0 es h.0)
  rest_at (suc (suc c)) (e ∷ es) h le =
      let there = key_at (λ q. credential_cmp e.0 q ≡ Less) es c h.0 (omega arith) in
      let passed : comes_past credential_cmp (cursor_at (suc c) es) e.0 ≡ false =
      ap (λ (x : Option (Credential × X)). comes_past credential_cmp (option_map (λ e. e.0) x) e.0) there.1 ∙ below e.0 there.0.0 there.2 in
      ap (λ b. cond b (e ∷ past (cursor_at (suc c) es) es) (past (cursor_at (suc c) es) es)) passed ∙ rest_at (suc c) es h.1 (omega arith)
