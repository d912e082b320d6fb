-- Groups of checks, tried one after the other.
use Rattle.std.proofs.Common.{◌≡◌, List, Result, Ok, Err, ap, ◌∙◌}
use Rattle.std.specs.Prelude.{⊤}
use Rattle.tx_records.specs.declared.reply.Rule.{Rule}
use Rattle.ledger_model.specs.Checks.{Check, answer_of}
use Rattle.ledger_model.proofs.CheckLaws.{answer_then}

-- the answer of these checks, or else the one that follows
unfoldable pub before : List Check → Result ⊤ Rule → Result ⊤ Rule
before xs answer = answer_then (answer_of xs) answer

-- a rule of the group is broken
pub now : (xs : List Check) (r : Rule) (rest : Result ⊤ Rule) → Err r ≡ answer_of xs → Err r ≡ before xs rest
unfolding before
now xs r rest e = ap (λ (a : Result ⊤ Rule). answer_then a rest) e

-- none is
pub later : (xs : List Check) (answer rest : Result ⊤ Rule) → Ok tt ≡ answer_of xs → answer ≡ rest → answer ≡ before xs rest
unfolding before
later xs answer rest e f = f ∙ ap (λ (a : Result ⊤ Rule). answer_then a rest) e
