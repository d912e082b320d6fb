-- Marks of a log: their slots, and the entries before them.
use Rattle.std.proofs.Common.{◌≡◌, ℕ, ◌==◌, ◌≤◌, List, [], ◌∷◌, ◌++◌, Bool, true, false, cond, ◌||◌, Option, Some, None, is_some, refl, ap, subst}
use Rattle.std.specs.List.{AllByRecursion}
use Rattle.undo_log.specs.Back.{mark_at, up_to_mark}
use Rattle.undo_log.specs.Logs.{AreWithin}
use Rattle.undo_log.specs.declared.marks.Mark.{Mark}
use Rattle.following.specs.Logged.{slots_of}
use Rattle.following.proofs.KeptBlocks.{has_slot, up_to_slot}

marked_by : (b : Bool) (n : ℕ) (o : Option ℕ) (later : Bool) → is_some o ≡ later → is_some (cond b (Some n) o) ≡ (b || later)
marked_by true n o later e = refl
marked_by false n o later e = e

-- there is a mark of a slot exactly if the slot is among theirs
pub is_marked : (slot : ℕ) (marks : List Mark) → is_some (mark_at slot marks) ≡ has_slot slot (slots_of marks)
is_marked slot [] = refl
is_marked slot (m ∷ marks) = marked_by (m.slot == slot) m.entries (mark_at slot marks) (has_slot slot (slots_of marks)) (is_marked slot marks)

cut_by : (b : Bool) (slot n : ℕ) (marks : List Mark) → slots_of (up_to_mark slot marks) ≡ up_to_slot slot (slots_of marks)
    → n ∷ slots_of (cond b [] (up_to_mark slot marks)) ≡ n ∷ cond b [] (up_to_slot slot (slots_of marks))
cut_by true slot n marks later = refl
cut_by false slot n marks later = ap (λ (ss : List ℕ). n ∷ ss) later

-- the slots of the marks up to one
pub slots_to_mark : (slot : ℕ) (marks : List Mark) → slots_of (up_to_mark slot marks) ≡ up_to_slot slot (slots_of marks)
slots_to_mark slot [] = refl
slots_to_mark slot (m ∷ marks) = cut_by (m.slot == slot) slot m.slot marks (slots_to_mark slot marks)

-- ---- one mark more

last_by : (P : ℕ → Type 0) (b : Bool) (k n : ℕ) → cond b (Some k) None ≡ Some n → (b ≡ true → P k) → P n
last_by P true k n e last = let same : k ≡ n = cc in subst P same (last refl)
last_by P false k n e last = cc

first_by : (P : ℕ → Type 0) (b : Bool) (k n : ℕ) (more these : Option ℕ) → cond b (Some k) more ≡ Some n → ((j : ℕ) → cond b (Some k) these ≡ Some j → P j)
    → (more ≡ Some n → ((j : ℕ) → these ≡ Some j → P j) → P n) → P n
first_by P true k n more these e earlier rest = earlier n e
first_by P false k n more these e earlier rest = rest e earlier

-- the mark of a slot is an earlier one, or the last one
pub mark_more : (P : ℕ → Type 0) (slot : ℕ) (marks : List Mark) (x : Mark) (n : ℕ) → mark_at slot (marks ++ x ∷ []) ≡ Some n
    → ((k : ℕ) → mark_at slot marks ≡ Some k → P k) → ((x.slot == slot) ≡ true → P x.entries) → P n
mark_more P slot [] x n e earlier last = last_by P (x.slot == slot) x.entries n e last
mark_more P slot (m ∷ marks) x n e earlier last =
    first_by P (m.slot == slot) m.entries n (mark_at slot (marks ++ x ∷ [])) (mark_at slot marks) e earlier (λ found before. mark_more P slot marks x n found before last)

-- ---- the marks up to one

kept_by : (b c : Bool) (slot earlier n k : ℕ) (marks : List Mark) → cond c (Some n) (mark_at earlier (cond b [] (up_to_mark slot marks))) ≡ Some k
    → (mark_at earlier (up_to_mark slot marks) ≡ Some k → mark_at earlier marks ≡ Some k) → cond c (Some n) (mark_at earlier marks) ≡ Some k
kept_by b true slot earlier n k marks e later = e
kept_by true false slot earlier n k marks e later = cc
kept_by false false slot earlier n k marks e later = later e

-- a mark among them is the same among all
pub mark_kept : (slot earlier : ℕ) (marks : List Mark) (k : ℕ) → mark_at earlier (up_to_mark slot marks) ≡ Some k → mark_at earlier marks ≡ Some k
mark_kept slot earlier [] k e = e
mark_kept slot earlier (x ∷ marks) k e = kept_by (x.slot == slot) (x.slot == earlier) slot earlier x.entries k marks e (mark_kept slot earlier marks k)

-- ---- entries

within_by : (b : Bool) (high n k : ℕ) (o : Option ℕ) → cond b (Some n) o ≡ Some k → n ≤ high → (o ≡ Some k → k ≤ high) → k ≤ high
within_by true high n k o e here later = let same : n ≡ k = cc in subst (λ (x : ℕ). x ≤ high) same here
within_by false high n k o e here later = later e

-- no mark comes after more entries than there are
pub mark_within : (high slot : ℕ) (marks : List Mark) (k : ℕ) → AreWithin high marks → mark_at slot marks ≡ Some k → k ≤ high
mark_within high slot [] k h e = cc
mark_within high slot (m ∷ marks) k h e = within_by (m.slot == slot) high m.entries k (mark_at slot marks) e h.0 (mark_within high slot marks k h.1)

-- ---- slots

pub marks_past : (n : ℕ) (marks : List Mark) → AllByRecursion (λ (s : ℕ). s ≤ n) (slots_of marks) → AllByRecursion (λ (m : Mark). m.slot ≤ n) marks
marks_past n [] h = tt
marks_past n (m ∷ marks) h = (h.0, marks_past n marks h.1)
