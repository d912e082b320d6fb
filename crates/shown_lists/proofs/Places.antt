-- Lists that agree place by place, and items that are added one by one.
use Rattle.std.proofs.Common.{◌≡◌, ℕ, zero, suc, ◌+◌, ◌<◌, ◌++◌, nat_lt, not, cond, true, false, List, [], ◌∷◌, Option, Some, None, drop, get_or, length, map, refl, ap, sym, ◌∙◌, subst, arith}
use Rattle.std.proofs.lemmas.Bool.{ltb-false, ltb-true}
use Rattle.std.proofs.lemmas.List.{at_drop_more}
use Rattle.gov_actions.specs.declared.state.HotState.{HotState}
use Rattle.gov_ids.specs.declared.Credential.{Credential}
use Rattle.gov_ids.specs.Orders.{credential_cmp}
use Rattle.maps.specs.Maps.{with_values}
use Rattle.shown_lists.specs.Present.{present_entries}
use Rattle.shown_lists.specs.Shows.{MemberRow, hot_of_members, is_of, others_shown}

-- what holds at each place below and at this one
pub each_more : (P : ℕ → Type 0) (i : ℕ) → ((j : ℕ) → j < i → P j) → P i → (j : ℕ) → j < i + 1 → P j
each_more P i all here j l =
    elim (nat_lt j i) as (λ b. nat_lt j i ≡ b → P j) [
      | true ↦ λ t. all j (ltb-true j i t)
      | false ↦ λ t. let same : i ≡ j = omega (arith, ltb-false j i t, l) in subst P same here
    ] refl

module _ {A B : Type 0} (f : A → B) where
  -- items that agree at each place
  pub rows_each : (xs : List A) (ys : List B) → length xs ≡ length ys → ((j : ℕ) (x : A) (y : B) → j < length xs → f (get_or xs j x) ≡ get_or ys j y) → map f xs ≡ ys
  rows_each [] [] n h = refl
  rows_each [] (y ∷ ys) n h = absurd (omega (arith, n))
  rows_each (x ∷ xs) [] n h = absurd (omega (arith, n))
  rows_each (x ∷ xs) (y ∷ ys) n h =
      let first : f x ≡ y = h zero x y (omega arith) in
      let rest : map f xs ≡ ys = rows_each xs ys (omega (arith, n)) (λ j a b l. h (suc j) a b (omega (arith, l))) in
      λ i. first i ∷ rest i

  pub rows_at : (xs : List A) (ys : List B) (j : ℕ) (x : A) (y : B) → map f xs ≡ ys → j < length xs → f (get_or xs j x) ≡ get_or ys j y
  rows_at [] ys j x y e l = absurd (omega (arith, l))
  rows_at (a ∷ xs) [] j x y e l = cc
  rows_at (a ∷ xs) (b ∷ ys) zero x y e l = ap (λ (bs : List B). get_or bs 0 y) e
  rows_at (a ∷ xs) (b ∷ ys) (suc j) x y e l =
      let more : map f xs ≡ ys = cc in
      rows_at xs ys j x y more (omega (arith, l))

  pub rows_length : (xs : List A) (ys : List B) → map f xs ≡ ys → length xs ≡ length ys
  rows_length [] [] e = refl
  rows_length [] (b ∷ ys) e = cc
  rows_length (a ∷ xs) [] e = cc
  rows_length (a ∷ xs) (b ∷ ys) e =
      let more : map f xs ≡ ys = cc in
      omega (arith, rows_length xs ys more)

-- one more that may be present
pub present_more : {K X : Type 0} (e : K × Option X) (es : List (K × Option X)) → present_entries (e ∷ []) ++ present_entries es ≡ present_entries (e ∷ es)
present_more (k, None) es = refl
present_more (k, Some x) es = refl

-- one more member
pub members_more : (r : MemberRow) (rows : List MemberRow) (hot : List (Credential × HotState)) → with_values credential_cmp (hot_of_members rows) (with_values credential_cmp (hot_of_members (r ∷ [])) hot) ≡ with_values credential_cmp (hot_of_members (r ∷ rows)) hot
members_more (m, None) rows hot = refl
members_more (m, Some s) rows hot = refl

-- one more entry, of a member or not
module _ (ms : List (Credential × ℕ)) (hot : List (Credential × HotState)) (i : ℕ) (e : Credential × HotState) (l : i < length hot) (at : e ≡ get_or hot i e) where
  from_here : others_shown ms (drop i hot) ≡ others_shown ms (e ∷ drop (i + 1) hot)
  from_here = at_drop_more (others_shown ms) hot i e l ∙ ap (λ (x : Credential × HotState). others_shown ms (x ∷ drop (i + 1) hot)) (sym at)

  pub others_skip : is_of ms e.0 ≡ true → others_shown ms (drop i hot) ≡ others_shown ms (drop (i + 1) hot)
  others_skip t = from_here ∙ ap (λ b. cond (not b) (e ∷ others_shown ms (drop (i + 1) hot)) (others_shown ms (drop (i + 1) hot))) t

  pub others_keep : is_of ms e.0 ≡ false → others_shown ms (drop i hot) ≡ e ∷ others_shown ms (drop (i + 1) hot)
  others_keep t = from_here ∙ ap (λ b. cond (not b) (e ∷ others_shown ms (drop (i + 1) hot)) (others_shown ms (drop (i + 1) hot))) t

pub same_rest : {A : Type 0} (x : A) (xs ys : List A) → x ∷ xs ≡ x ∷ ys → xs ≡ ys
same_rest {A} x xs ys e = ap (λ (l : List A). drop 1 l) e
