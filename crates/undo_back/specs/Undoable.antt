-- When old values can be put back. (Own)
use Rattle.std.specs.Prelude.{ℕ, List, Option}
use Rattle.gov_ids.specs.declared.Credential.{Credential}
use Rattle.gov_ids.specs.declared.OutRef.{OutRef}
use Rattle.gov_ids.specs.Orders.{credential_cmp, outref_cmp}
use Rattle.book_records.specs.declared.Output.{Output}
use Rattle.book_records.specs.declared.Registered.{Registered}
use Rattle.gov_model.specs.Snapshot.{Snapshot}
use Rattle.ledger_books.specs.declared.Books.{Books}
use Rattle.ledger_books.specs.Parts.{world_of_books}
use Rattle.run_model.specs.SoundWorld.{IsSoundWorld}
use Rattle.run_model.specs.World.{World}
use Rattle.stake_book.specs.Stakes.{Stakes, accounts_of}
use Rattle.undo_model.specs.Holds.{Holds, HoldsOld}
use Rattle.undo_model.specs.Undone.{Before}

-- a sound World has these old values, and v differs from it at most at what they name
abbrev pub IsUndoable : World → Before → Type 0
IsUndoable v b = (w : World) × IsSoundWorld w × Holds w b v

-- with some count and what is frozen, the World of these books can be undone
abbrev pub AreUndoable : Books → Before → Type 0
AreUndoable books b = (counted : ℕ) × (f : Snapshot) × IsUndoable (world_of_books books counted f) b

-- a sound World has these old outputs and accounts, and the book differs from it at most at these
abbrev pub AreHoldingsOld : List (OutRef × Option Output) → List (Credential × Option Registered) → Stakes → Type 0
AreHoldingsOld outputs accounts s =
    (w : World) × IsSoundWorld w
    × HoldsOld outref_cmp outputs w.ledger.outputs s.outputs.outputs
    × HoldsOld credential_cmp accounts w.ledger.accounts (accounts_of s)
