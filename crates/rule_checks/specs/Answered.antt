-- The result of a call that may refuse a transaction or run out of memory.
use Rattle.std.specs.Prelude.{◌≡◌, Option, Some, None, Result, Ok, Err, ⊤}
use Rattle.tx_records.specs.declared.reply.Rule.{Rule}
use Rattle.tx_records.specs.declared.reply.TxFault.{TxFault}
use Rattle.tx_records.specs.declared.reply.TxFault.TheVariants.{Refused, NoMemory}

-- it refuses with the first broken rule, and goes on if there is none, unless memory ran out
abbrev pub IsAnswered : Option Rule → Result ⊤ TxFault → Type 0
IsAnswered broken (Ok done) = broken ≡ None
IsAnswered broken (Err (Refused rule)) = broken ≡ Some rule
IsAnswered broken (Err NoMemory) = Unit {0}

-- the answer of rules alone, as that of a call that may run out of memory
abbrev pub as_fault : Result ⊤ Rule → Result ⊤ TxFault
as_fault (Ok done) = Ok done
as_fault (Err rule) = Err (Refused rule)
