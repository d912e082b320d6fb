-- Items that rows show, one after another.
use Rattle.std.proofs.Common.{◌≡◌, ◌++◌, Bool, true, ◌&&◌, List, [], ◌∷◌, Option, Some, None, drop, get_or, map, refl, ap, sym, ◌∙◌, subst, length, suc, arith, append-nil, append_assoc}
use Rattle.std.specs.List.{list_all}
use Rattle.std.proofs.lemmas.Bool.{and_from, and_parts}
use Rattle.std.proofs.lemmas.List.{map-append}
use Rattle.std.proofs.lemmas.Option.{none-some, same_Some}
use Rattle.shown_lists.specs.Only.{IsOnly}

-- a list that is not empty
not_empty : {A : Type 0} (x : A) (xs : List A) → [] ≡ x ∷ xs → ⊥
not_empty x xs e = let n : 0 ≡ suc (length xs) = ap length e in omega (arith, n)

module _ {I R : Type 0} (form : I → Bool) (row : I → R) where
  -- of items that show all rows, those behind the ones that were found
  pub record Rest (xs found : List I) (left : List R) : Type 0 where
    pub items : List I
    pub whole : xs ≡ found ++ items
    pub formed : list_all form items ≡ true
    pub shows : map row items ≡ left

  -- these items were found so far, and these rows are left
  pub record IsSoFar (rows : List R) (found : List I) (left : List R) : Type 0 where
    pub formed : list_all form found ≡ true
    pub shows : map row found ++ left ≡ rows
    pub all : (xs : List I) → list_all form xs ≡ true → map row xs ≡ rows → Rest xs found left

  -- none was found yet
  pub so_far_none : (rows : List R) → IsSoFar rows [] rows
  so_far_none rows = record {
    formed = refl;
    shows = refl;
    all = λ xs formed shows. record { items = xs; whole = refl; formed = formed; shows = shows };
  }

  -- all have the form, with one more
  all_more : (xs : List I) (x : I) → list_all form xs ≡ true → form x ≡ true → list_all form (xs ++ x ∷ []) ≡ true
  all_more [] x all is = and_from (form x) true is refl
  all_more (y ∷ ys) x all is =
      let both = and_parts (form y) (list_all form ys) all in
      and_from (form y) (list_all form (ys ++ x ∷ [])) both.0 (all_more ys x both.1 is)

  -- one more was found: it is the next of those
  rest_more : (found : List I) (x : I) (r : R) (left : List R) → IsOnly (λ y. form y ≡ true) row r (Some x) → (xs items : List I) → xs ≡ found ++ items → list_all form items ≡ true → map row items ≡ r ∷ left → Rest xs (found ++ x ∷ []) left
  rest_more found x r left only xs [] whole formed shows = absurd (not_empty r left shows)
  rest_more found x r left only xs (y ∷ ys) whole formed shows =
      let both = and_parts (form y) (list_all form ys) formed in
      let same : x ≡ y = same_Some x y (only.all y both.0 (ap (λ (l : List R). get_or l 0 (row y)) shows)) in
      record {
        items = ys;
        whole = whole ∙ sym (append_assoc found (y ∷ []) ys) ∙ ap (λ (t : I). (found ++ t ∷ []) ++ ys) (sym same);
        formed = both.1;
        shows = ap (λ (l : List R). drop 1 l) shows;
      }

  pub so_far_more : (rows : List R) (found : List I) (x : I) (r : R) (left : List R) → IsSoFar rows found (r ∷ left) → IsOnly (λ y. form y ≡ true) row r (Some x) → IsSoFar rows (found ++ x ∷ []) left
  so_far_more rows found x r left so only = record {
    formed = all_more found x so.formed (only.kind x refl);
    shows =
        ap (λ (l : List R). l ++ left) (map-append row found (x ∷ []))
        ∙ append_assoc (map row found) (row x ∷ []) left
        ∙ ap (λ (t : R). map row found ++ t ∷ left) (only.some x refl)
        ∙ so.shows;
    all = λ xs formed shows.
        let rest = so.all xs formed shows in
        rest_more found x r left only xs rest.items rest.whole rest.formed rest.shows;
  }

  -- the next row shows none: nor do all of them
  none_next : (r : R) (left : List R) → IsOnly (λ y. form y ≡ true) row r None → (items : List I) → list_all form items ≡ true → map row items ≡ r ∷ left → ⊥
  none_next r left only [] formed shows = not_empty r left shows
  none_next r left only (y ∷ ys) formed shows =
      let both = and_parts (form y) (list_all form ys) formed in
      none-some y (only.all y both.0 (ap (λ (l : List R). get_or l 0 (row y)) shows))

  pub none_found : (rows : List R) (found : List I) (r : R) (left : List R) → IsSoFar rows found (r ∷ left) → IsOnly (λ y. form y ≡ true) row r None → IsOnly (λ xs. list_all form xs ≡ true) (map row) rows None
  none_found rows found r left so only = record {
    kind = λ xs e. absurd (none-some xs e);
    some = λ xs e. absurd (none-some xs e);
    all = λ xs formed shows.
        let rest = so.all xs formed shows in
        absurd (none_next r left only rest.items rest.formed rest.shows);
  }

  -- no row is left
  none_more : (found xs items : List I) → xs ≡ found ++ items → map row items ≡ [] → found ≡ xs
  none_more found xs [] whole shows = sym (whole ∙ append-nil found)
  none_more found xs (y ∷ ys) whole shows = absurd (not_empty (row y) (map row ys) (sym shows))

  pub all_found : (rows : List R) (found : List I) → IsSoFar rows found [] → IsOnly (λ xs. list_all form xs ≡ true) (map row) rows (Some found)
  all_found rows found so = record {
    kind = λ xs e. subst (λ (t : List I). list_all form t ≡ true) (same_Some found xs e) so.formed;
    some = λ xs e. subst (λ (t : List I). map row t ≡ rows) (same_Some found xs e) (sym (append-nil (map row found)) ∙ so.shows);
    all = λ xs formed shows.
        let rest = so.all xs formed shows in
        ap Some (none_more found xs rest.items rest.whole rest.shows);
  }
