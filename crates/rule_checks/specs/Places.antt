-- The answer of a check of one item of a list, at its place. (Own)
use Rattle.std.specs.Prelude.{ℕ, Result, Ok, Err, ⊤}
use Rattle.tx_records.specs.declared.reply.Rule.{Rule}
use Rattle.tx_records.specs.Rules.{placed}

-- the same answer, its rule at the place i
abbrev pub answer_at : ℕ → Result ⊤ Rule → Result ⊤ Rule
answer_at i (Ok done) = Ok done
answer_at i (Err r) = Err (placed i r)
