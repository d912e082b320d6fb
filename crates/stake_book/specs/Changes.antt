-- An entry after a change. (Own)
use Rattle.std.specs.Prelude.{ℕ, ◌+◌, ◌-◌, Option, Some, None, option_map, if◌then◌else◌}
use Rattle.book_records.specs.declared.Entry.{Entry}
use Rattle.accounts.specs.Accounts.{is_nothing}
use Rattle.stake_book.specs.declared.changes.EntryChange.{EntryChange}
use Rattle.stake_book.specs.declared.changes.EntryChange.TheVariants.{Register, Gain, Lose, Pay, Clear}
use Rattle.stake_book.specs.Ended.{entry_without}
use Rattle.stake_book.specs.Paid.{rewarded}

-- the entry after a change
abbrev pub entry_after : EntryChange → Entry → Entry
entry_after (Register to) e = record e { registered = to }
entry_after (Gain n) e = record e { stake = e.stake + n }
entry_after (Lose n) e = record e { stake = e.stake - n }
entry_after (Pay n) e = record e { registered = option_map (rewarded n) e.registered }
entry_after (Clear leaving) e = entry_without leaving.now e

-- what a change takes from the stake, in lovelace
abbrev pub taken_by : EntryChange → ℕ
taken_by (Lose n) = n
taken_by _ = 0

-- the entry; where there is none, one without stake and registration
abbrev pub or_nothing : Option Entry → Entry
or_nothing None = record { stake = 0; registered = None }
or_nothing (Some e) = e

-- the entry; none for one without stake and registration
abbrev pub unless_nothing : Entry → Option Entry
unless_nothing e = if is_nothing e then None else Some e
