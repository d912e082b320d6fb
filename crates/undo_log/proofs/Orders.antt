-- Marks stay in order when one more is set, and when the later ones leave.
use Rattle.std.proofs.Common.{◌≡◌, ℕ, zero, suc, ◌+◌, ◌<◌, ◌≤◌, List, [], ◌∷◌, ◌++◌, length, slice_index_or, take, add-one, ap, subst, sym, ◌∙◌, arith}
use Rattle.std.proofs.lemmas.List.{length-take-le}
use Rattle.std.specs.List.{AllByRecursion}
use Rattle.undo_log.specs.declared.marks.Mark.{Mark}
use Rattle.undo_log.specs.Logs.{AreInOrder, AreMarksBelow, AreWithin, IsBefore, IsInOrder, Log, log_of, with_mark}
use Rattle.undo_model.specs.Undone.{Before}

-- ---- one more mark

within_more : (n : ℕ) (marks : List Mark) (m : Mark) → AreWithin n marks → m.entries ≤ n → AreWithin n (marks ++ m ∷ [])
within_more n [] m h le = (le, tt)
within_more n (k ∷ marks) m h le = (h.0, within_more n marks m h.1 le)

-- a mark comes before the one more
before_more : (k : Mark) (marks : List Mark) (m : Mark) → AllByRecursion (IsBefore k) marks → IsBefore k m → AllByRecursion (IsBefore k) (marks ++ m ∷ [])
before_more k [] m h b = (b, tt)
before_more k (j ∷ marks) m h b = (h.0, before_more k marks m h.1 b)

order_more : (marks : List Mark) (m : Mark) → AreInOrder marks → AreMarksBelow m.slot marks → AreWithin m.entries marks → AreInOrder (marks ++ m ∷ [])
order_more [] m h below within = (tt, tt)
order_more (k ∷ marks) m h below within =
    (before_more k marks m h.0 (record { slot = below.0; entries = within.0 }), order_more marks m h.1 below.1 within.1)

pub marked : (log : Log) (slot : ℕ) → IsInOrder log → AreMarksBelow slot log.marks → IsInOrder (with_mark slot log)
marked log slot h below = record {
  marks = order_more log.marks (record { slot = slot; entries = length log.entries }) h.marks below h.within;
  within = within_more (length log.entries) log.marks (record { slot = slot; entries = length log.entries }) h.within (omega arith);
}

-- the marks with one more after these entries
pub marked_after : (entries : List Before) (marks after : List Mark) (slot n : ℕ) → n ≡ length entries → after ≡ marks ++ record { slot = slot; entries = n } ∷ []
    → IsInOrder (log_of entries marks) → AreMarksBelow slot marks → IsInOrder (log_of entries after)
marked_after entries marks after slot n long is h below =
    subst (λ (ks : List Mark). IsInOrder (log_of entries ks))
    (sym (is ∙ ap (λ k. marks ++ record { slot = slot; entries = k } ∷ []) long))
    (marked (log_of entries marks) slot h below)

-- ---- the later marks leave

all_taken : (P : Mark → Type 0) (n : ℕ) (marks : List Mark) → AllByRecursion P marks → AllByRecursion P (take n marks)
all_taken P zero marks h = tt
all_taken P (suc n) [] h = tt
all_taken P (suc n) (m ∷ marks) h = (h.0, all_taken P n marks h.1)

pub order_taken : (n : ℕ) (marks : List Mark) → AreInOrder marks → AreInOrder (take n marks)
order_taken zero marks h = tt
order_taken (suc n) [] h = tt
order_taken (suc n) (m ∷ marks) h = (all_taken (IsBefore m) n marks h.0, order_taken n marks h.1)

-- what holds of all holds of the one at a place
holds_there : (P : Mark → Type 0) (marks : List Mark) (i : ℕ) (d : Mark) → AllByRecursion P marks → i < length marks → P (slice_index_or marks i d)
holds_there P [] i d h lt = absurd (omega arith)
holds_there P (m ∷ marks) zero d h lt = h.0
holds_there P (m ∷ marks) (suc i) d h lt = holds_there P marks i d h.1 (omega arith)

-- the mark at a place is within
pub within_there : (n : ℕ) (marks : List Mark) (i : ℕ) (d : Mark) → AreWithin n marks → i < length marks → (slice_index_or marks i d).entries ≤ n
within_there n marks i d h lt = holds_there (λ (m : Mark). m.entries ≤ n) marks i d h lt

-- and those up to it are within its entries
pub within_taken : (marks : List Mark) (i : ℕ) (d : Mark) → AreInOrder marks → i < length marks → AreWithin (slice_index_or marks i d).entries (take (suc i) marks)
within_taken [] i d h lt = absurd (omega arith)
within_taken (m ∷ marks) zero d h lt = (omega arith, tt)
within_taken (m ∷ marks) (suc i) d h lt =
    ((holds_there (IsBefore m) marks i d h.0 (omega arith)).entries, within_taken marks i d h.1 (omega arith))

within_weaker : (n k : ℕ) (marks : List Mark) → n ≤ k → AreWithin n marks → AreWithin k marks
within_weaker n k [] le h = tt
within_weaker n k (m ∷ marks) le h = (omega (arith, h.0, le), within_weaker n k marks le h.1)

as_long : {A : Type 0} (n : ℕ) (xs : List A) → length (take n xs) ≡ n → n ≤ length xs
as_long zero xs e = omega arith
as_long (suc n) [] e = absurd (omega (arith, e))
as_long (suc n) (x ∷ xs) e = omega (arith, as_long n xs (omega (arith, e)))

-- the log that is left at a place
pub in_order_left : (entries left : List Before) (marks kept : List Mark) (i n : ℕ) (d : Mark) → IsInOrder (log_of entries marks) → i < length marks → n ≡ (slice_index_or marks i d).entries
    → kept ≡ take (i + 1) marks → take n left ≡ take n entries → IsInOrder (log_of left kept)
in_order_left entries left marks kept i n d h lt is taken first =
    let m : Mark = slice_index_or marks i d in
    let within : n ≤ length entries = subst (λ k. k ≤ length entries) (sym is) (within_there (length entries) marks i d h.within lt) in
    let some : n ≤ length left = as_long n left (ap (λ (bs : List Before). length bs) first ∙ length-take-le n entries within) in
    let up_to : kept ≡ take (suc i) marks = taken ∙ ap (λ k. take k marks) (add-one i) in
    record {
      marks = subst (λ (ks : List Mark). AreInOrder ks) (sym up_to) (order_taken (suc i) marks h.marks);
      within = subst (λ (ks : List Mark). AreWithin (length left) ks) (sym up_to)
          (within_weaker n (length left) (take (suc i) marks) some (subst (λ k. AreWithin k (take (suc i) marks)) (sym is) (within_taken marks i d h.marks lt)));
    }
