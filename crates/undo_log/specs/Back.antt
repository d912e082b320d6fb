-- A rollback to a mark of a log: the reply, the World, and what remains of the log. (Own)
use Rattle.std.specs.Prelude.{◌≡◌, ℕ, ◌+◌, ◌==◌, ◌<◌, List, [], ◌∷◌, Option, Some, None, drop, length, slice_index_or, take, if◌then◌else◌, ⊤}
use Rattle.tx_records.specs.declared.reply.Reply.{Reply}
use Rattle.tx_records.specs.declared.reply.Reply.TheVariants.{Accepted, Refused}
use Rattle.tx_records.specs.Rules.{rule_keeping}
use Rattle.follow_records.specs.declared.rules.TheConstants.{ROLLBACK_UNKNOWN}
use Rattle.gov_model.specs.Snapshot.{Snapshot}
use Rattle.ledger_books.specs.declared.Books.{Books}
use Rattle.ledger_books.specs.Parts.{world_of_books}
use Rattle.run_model.specs.World.{World}
use Rattle.undo_model.specs.Undone.{Before, undone}
use Rattle.undo_back.specs.Undoable.{IsUndoable}
use Rattle.undo_log.specs.declared.marks.Mark.{Mark}
use Rattle.undo_log.specs.Logs.{Log}

-- ---- the mark of a slot

-- how many entries came before the mark of this slot; none if there is no such mark
abbrev pub mark_at : ℕ → List Mark → Option ℕ
mark_at slot [] = None
mark_at slot (m ∷ marks) = if m.slot == slot then Some m.entries else mark_at slot marks

-- the marks up to that of this slot
abbrev pub up_to_mark : ℕ → List Mark → List Mark
up_to_mark slot [] = []
up_to_mark slot (m ∷ marks) = m ∷ (if m.slot == slot then [] else up_to_mark slot marks)

-- the mark of this slot is at the place i
pub record IsPlaceOf (slot : ℕ) (marks : List Mark) (i : ℕ) : Type 0 where
  pub within : i < length marks
  pub entries : (d : Mark) → Some (slice_index_or marks i d).entries ≡ mark_at slot marks
  pub kept : take (i + 1) marks ≡ up_to_mark slot marks

-- ---- the log

-- the entries after those of a mark; none if there is no mark
abbrev pub entries_after : Option ℕ → List Before → List Before
entries_after None entries = []
entries_after (Some n) entries = drop n entries

-- the log without what came after a mark; the same log if there is no mark
abbrev pub cut_by : Option ℕ → ℕ → Log → Log
cut_by None slot log = log
cut_by (Some n) slot log = record { entries = take n log.entries; marks = up_to_mark slot log.marks }

-- the log without the entries and marks after the mark of this slot
abbrev pub cut_at : ℕ → Log → Log
cut_at slot log = cut_by (mark_at slot log.marks) slot log

-- ---- the World

-- the World with these old values put back, from the last to the first
abbrev pub undone_all : List Before → World → World
undone_all [] w = w
undone_all (b ∷ bs) w = undone b (undone_all bs w)

-- the last of these can be undone on w, and each earlier one on the World that the later ones leave
abbrev pub AllUndoable : List Before → World → Type 0
AllUndoable [] w = ⊤
AllUndoable (b ∷ bs) w = AllUndoable bs w × IsUndoable (undone_all bs w) b

-- with some count and what is frozen, the World of these books can be undone by all of these
abbrev pub AreAllUndoable : List Before → Books → Type 0
AreAllUndoable bs books = (counted : ℕ) × (f : Snapshot) × AllUndoable bs (world_of_books books counted f)

-- the World with all that came after the mark of this slot undone
abbrev pub world_at : ℕ → Log → World → World
world_at slot log w = undone_all (entries_after (mark_at slot log.marks) log.entries) w

-- ---- the reply

-- a rollback without a mark of its slot is refused; the rule keeps the last slot
abbrev pub back_reply : Option ℕ → World → Reply
back_reply None w = Refused (rule_keeping ROLLBACK_UNKNOWN w.ledger.slot)
back_reply (Some n) w = Accepted
