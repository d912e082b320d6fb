-- The program's ledger as contracts see it. (Own)
use Rattle.std.specs.Prelude.{List}
use Rattle.gov_ids.specs.declared.Credential.{Credential}
use Rattle.book_records.specs.declared.Entry.{Entry}
use Rattle.ledger_model.specs.Ledger.{Ledger}

-- the current ledger, and the account entries of the last freeze
pub record Standing : Type 0 where
  pub ledger : Ledger
  pub frozen : List (Credential × Entry)

-- a change of the ledger keeps the frozen entries
abbrev pub on_ledger : (Ledger → Ledger) → Standing → Standing
on_ledger change s = record s { ledger = change s.ledger }
