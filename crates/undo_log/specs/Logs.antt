-- A log of old values, with marks at blocks. (Own)
use Rattle.std.specs.Prelude.{ℕ, ◌<◌, ◌≤◌, List, [], ◌∷◌, ◌++◌, length, ⊤}
use Rattle.std.specs.List.{AllByRecursion}
use Rattle.undo_model.specs.Undone.{Before}
use Rattle.undo_log.specs.declared.marks.Mark.{Mark}

-- the old values of records, in order, and the marks of blocks, in order of slot
pub record Log : Type 0 where
  pub entries : List Before
  pub marks : List Mark

-- the log of these
abbrev pub log_of : List Before → List Mark → Log
log_of entries marks = record { entries = entries; marks = marks }

-- the log without entries and marks
abbrev pub empty_log : Log
empty_log = record { entries = []; marks = [] }

-- the log with the old values of one more record
abbrev pub with_entry : Before → Log → Log
with_entry b log = record log { entries = log.entries ++ b ∷ [] }

-- the log with a mark of this slot after all its entries
abbrev pub with_mark : ℕ → Log → Log
with_mark slot log = record log { marks = log.marks ++ record { slot = slot; entries = length log.entries } ∷ [] }

-- each mark has a lower slot
abbrev pub AreMarksBelow : ℕ → List Mark → Type 0
AreMarksBelow slot marks = AllByRecursion (λ (m : Mark). m.slot < slot) marks

-- ---- the order of a log

-- a mark comes before another one
pub record IsBefore (m k : Mark) : Type 0 where
  pub slot : m.slot < k.slot
  pub entries : m.entries ≤ k.entries

-- each mark comes before the later ones
abbrev pub AreInOrder : List Mark → Type 0
AreInOrder [] = ⊤
AreInOrder (m ∷ marks) = AllByRecursion (IsBefore m) marks × AreInOrder marks

-- none of these marks comes after more entries
abbrev pub AreWithin : ℕ → List Mark → Type 0
AreWithin n marks = AllByRecursion (λ (m : Mark). m.entries ≤ n) marks

-- the marks are in order, and none comes after more entries than there are
pub record IsInOrder (log : Log) : Type 0 where
  pub marks : AreInOrder log.marks
  pub within : AreWithin (length log.entries) log.marks
