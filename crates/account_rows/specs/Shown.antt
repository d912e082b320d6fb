-- The entries that show accounts with their output stake. (Own)
use Rattle.std.specs.Prelude.{List}
use Rattle.gov_ids.specs.declared.Credential.{Credential}
use Rattle.gov_ids.specs.declared.OutRef.{OutRef}
use Rattle.book_records.specs.declared.Entry.{Entry}
use Rattle.book_records.specs.declared.Output.{Output}
use Rattle.book_records.specs.declared.Registered.{Registered}
use Rattle.ledger_model.specs.Ledger.{Ledger}
use Rattle.run_model.specs.Freeze.{entries_of}

-- those of a ledger with these outputs and accounts
abbrev pub entries_shown : Ledger → List (OutRef × Output) → List (Credential × Registered) → List (Credential × Entry)
entries_shown l outputs accounts = entries_of (record l { outputs = outputs; accounts = accounts })
