-- The answer to a block before it acts. (TICK of the formal specification; the rules are own)
use Rattle.std.specs.Prelude.{◌≡◌, ℕ, Bool, Option, Some, None, Result, Ok, Err, false}
use Rattle.tx_records.specs.declared.reply.Rule.{Rule}
use Rattle.ledger_model.specs.Ledger.{Ledger}
use Rattle.ledger_model.specs.Checks.{first_among}
use Rattle.run_model.specs.Step.{block_checks, enters_next}

-- the rule that is broken, or whether the next epoch begins
abbrev pub entry_by : Option Rule → Bool → Result Bool Rule
entry_by None enters = Ok enters
entry_by (Some rule) enters = Err rule

-- the first rule that a block breaks, or whether it begins the next epoch
abbrev pub block_answer : Ledger → ℕ → ℕ → Result Bool Rule
block_answer l slot pulse = entry_by (first_among (block_checks l slot pulse)) (enters_next l slot)

-- a block that breaks no rule does not begin the next epoch
abbrev pub StaysInEpoch : Ledger → ℕ → ℕ → Type 0
StaysInEpoch l slot pulse = first_among (block_checks l slot pulse) ≡ None → enters_next l slot ≡ false
