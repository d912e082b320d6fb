-- What a binary search finds among marks in order.
use Rattle.std.proofs.Common.{◌≡◌, ℕ, zero, suc, ◌<◌, ◌≤◌, ◌==◌, List, [], ◌∷◌, Some, None, true, false, cond, length, slice_index_or, take, Result, Ok, Err, MatchOption, add-one, refl, ap, sym, ◌∙◌, nat_lt, arith}
use Rattle.std.proofs.lemmas.Bool.Decides.{nat_tests}
use Rattle.std.specs.declared.cmp.Ordering.TheVariants.{Less, Equal, Greater}
use Rattle.std.specs.Ordering.{nat_cmp, ordering_index}
use Rattle.std.specs.Result.{result_ok}
use Rattle.std.specs.List.{AllByRecursion}
use Rattle.std.specs.List.Sorted.{IsBinarySearchResult, IsNonDecreasingBy, IsSearchInRange}
use Rattle.undo_log.specs.declared.marks.Mark.{Mark}
use Rattle.undo_log.specs.Back.{IsPlaceOf, mark_at, up_to_mark}
use Rattle.undo_log.specs.Logs.{AreInOrder, IsBefore}

-- ---- numbers

index_rises : (x y n : ℕ) → x ≤ y → ordering_index (nat_cmp x n) ≤ ordering_index (nat_cmp y n)
index_rises x y n le = grind (arith, nat_tests)

equal_from : (x y : ℕ) → nat_cmp x y ≡ Equal → x ≡ y
equal_from x y e = grind (arith, nat_tests)

unlike_lower : (x y : ℕ) → nat_cmp x y ≡ Less → (x == y) ≡ false
unlike_lower x y e = grind (arith, nat_tests)

unlike_higher : (x y : ℕ) → nat_cmp x y ≡ Greater → (x == y) ≡ false
unlike_higher x y e = grind (arith, nat_tests)

itself : (x y : ℕ) → x ≡ y → (x == y) ≡ true
itself x y e = grind (arith, nat_tests)

below : (x y z : ℕ) → x < y → y ≡ z → (x == z) ≡ false
below x y z lt e = grind (arith, nat_tests)

-- ---- marks

-- a mark is lower than each later one
lower : (m : Mark) (marks : List Mark) (j : ℕ) (d : Mark) → AllByRecursion (IsBefore m) marks → j < length marks → m.slot < (slice_index_or marks j d).slot
lower m [] j d h lt = absurd (omega arith)
lower m (k ∷ marks) zero d h lt = h.0.slot
lower m (k ∷ marks) (suc j) d h lt = lower m marks j d h.1 (omega arith)

rises : (marks : List Mark) (i j : ℕ) (d : Mark) → AreInOrder marks → i ≤ j → j < length marks → (slice_index_or marks i d).slot ≤ (slice_index_or marks j d).slot
rises [] i j d h le lt = absurd (omega arith)
rises (m ∷ marks) zero zero d h le lt = omega arith
rises (m ∷ marks) zero (suc j) d h le lt = omega (arith, lower m marks j d h.0 (omega arith))
rises (m ∷ marks) (suc i) zero d h le lt = absurd (omega arith)
rises (m ∷ marks) (suc i) (suc j) d h le lt = rises marks i j d h.1 (omega arith) (omega arith)

searchable : (marks : List Mark) (slot : ℕ) → AreInOrder marks → IsNonDecreasingBy (λ (m : Mark). ordering_index (nat_cmp m.slot slot)) marks
searchable marks slot h i j d le lt = index_rises (slice_index_or marks i d).slot (slice_index_or marks j d).slot slot (rises marks i j d h le lt)

-- ---- what is found

-- the mark at the place i has the slot and this many entries
record IsFound (slot : ℕ) (marks : List Mark) (i n : ℕ) : Type 0 where
  pub entries : Some n ≡ mark_at slot marks
  pub kept : take (suc i) marks ≡ up_to_mark slot marks

here : (slot : ℕ) (m : Mark) (marks : List Mark) → m.slot ≡ slot → IsFound slot (m ∷ marks) zero m.entries
here slot m marks e = record {
  entries = ap (λ b. cond b (Some m.entries) (mark_at slot marks)) (sym (itself m.slot slot e));
  kept = ap (λ b. m ∷ cond b [] (up_to_mark slot marks)) (sym (itself m.slot slot e));
}

later : (slot : ℕ) (m : Mark) (marks : List Mark) (i n : ℕ) → (m.slot == slot) ≡ false → IsFound slot marks i n → IsFound slot (m ∷ marks) (suc i) n
later slot m marks i n apart found = record {
  entries = found.entries ∙ ap (λ b. cond b (Some m.entries) (mark_at slot marks)) (sym apart);
  kept = ap (λ (ks : List Mark). m ∷ ks) found.kept ∙ ap (λ b. m ∷ cond b [] (up_to_mark slot marks)) (sym apart);
}

found_at : (slot : ℕ) (marks : List Mark) (i : ℕ) (d : Mark) → AreInOrder marks → i < length marks → (slice_index_or marks i d).slot ≡ slot → IsFound slot marks i (slice_index_or marks i d).entries
found_at slot [] i d h lt e = absurd (omega arith)
found_at slot (m ∷ marks) zero d h lt e = here slot m marks e
found_at slot (m ∷ marks) (suc i) d h lt e =
    later slot m marks i (slice_index_or marks i d).entries (below m.slot (slice_index_or marks i d).slot slot (lower m marks i d h.0 (omega arith)) e)
    (found_at slot marks i d h.1 (omega arith) e)

found : (slot : ℕ) (marks : List Mark) (i : ℕ) → AreInOrder marks → i < length marks → ((d : Mark) → nat_cmp (slice_index_or marks i d).slot slot ≡ Equal) → IsPlaceOf slot marks i
found slot marks i h lt equal =
    let at = λ (d : Mark). found_at slot marks i d h lt (equal_from (slice_index_or marks i d).slot slot (equal d)) in
    record {
      within = lt;
      entries = λ d. (at d).entries;
      kept = ap (λ n. take n marks) (add-one i) ∙ (at (record { slot = 0; entries = 0 })).kept;
    }

-- no mark has the slot
none_at : (slot : ℕ) (marks : List Mark) → ((j : ℕ) (d : Mark) → j < length marks → ((slice_index_or marks j d).slot == slot) ≡ false) → mark_at slot marks ≡ None
none_at slot [] h = refl
none_at slot (m ∷ marks) h =
    ap (λ b. cond b (Some m.entries) (mark_at slot marks)) (h zero m (omega arith))
    ∙ none_at slot marks (λ j d lt. h (suc j) d (omega arith))

missed : (slot : ℕ) (marks : List Mark) (i : ℕ) → AreInOrder marks → IsBinarySearchResult (λ (m : Mark). nat_cmp m.slot slot) marks (Err i) → mark_at slot marks ≡ None
missed slot marks i h search_parted =
    let parts = search_parted (searchable marks slot h) in
    none_at slot marks (λ j d lt. elim (nat_lt j i) as (λ b. nat_lt j i ≡ b → ((slice_index_or marks j d).slot == slot) ≡ false) [
      | true ↦ λ t. unlike_lower (slice_index_or marks j d).slot slot (parts.0 j d (omega arith) (grind (arith, nat_tests)))
      | false ↦ λ t. unlike_higher (slice_index_or marks j d).slot slot (parts.1 j d (grind (arith, nat_tests)) lt)
    ] refl)

-- what a binary search answers
pub place_by : (slot : ℕ) (marks : List Mark) (r : Result ℕ ℕ) → AreInOrder marks → IsSearchInRange r (length marks) → IsBinarySearchResult (λ (m : Mark). nat_cmp m.slot slot) marks r
    → MatchOption (result_ok r) (mark_at slot marks ≡ None) (IsPlaceOf slot marks)
place_by slot marks (Ok i) h within equal = found slot marks i h within equal
place_by slot marks (Err i) h within parted = missed slot marks i h parted
