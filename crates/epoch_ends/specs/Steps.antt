-- The number of the epoch. (NEWEPOCH of the formal specification)
use Rattle.std.specs.Prelude.{◌+◌}
use Rattle.ledger_model.specs.Ledger.{Ledger}

-- the next epoch begins
abbrev pub next_epoch : Ledger → Ledger
next_epoch l = record l { epoch = l.epoch + 1 }
