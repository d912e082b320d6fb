-- A taker of lines that are the next ones of a giver. (Own)
use Rattle.std.specs.Prelude.{◌≡◌, ℕ, List, Option, Some, None, ⊤}
use Rattle.line_giver.specs.Giving.{Giving, PassesSome}
use Rattle.text_model.specs.Words.{Text}
use Rattle.claim_checks.specs.Lines.{left_after}
use Rattle.claim_checks.specs.declared.meeting.Stand.{Stand}
use Rattle.claim_checks.specs.declared.meeting.Stand.TheVariants.{Differs}

-- what it reports: the lines that are left, if they are known, and how they compare with those that
-- it took
pub record Met : Type 0 where
  pub left : Option (List (Option Text))
  pub stand : Stand

-- after one more line
abbrev pub with_met : Met → Text → Met
with_met m line = record m { left = left_after m.left line }

-- after a line that it did not take: if that differs, it is not the next one
abbrev pub IsUnmet : Met → Text → Met → Type 0
IsUnmet m line m' = m'.stand ≡ Differs → left_after m.left line ≡ None

-- a giver that is lent, with the name of the loan
pub record Loan (G : Type 0) : Type 0 where
  pub name : ℕ
  pub giver : G

-- the loan is that of the start, if that is known, and some lines were passed since
abbrev pub IsSince : {G Stream : Type 0} → (G → Stream → List (Option Text) → Type 0) → (G → Giving) → Option (Loan G) → Loan G → Type 0
IsSince passed giving None now = ⊤
IsSince passed giving (Some start) now =
    (now.name ≡ start.name) × PassesSome (passed start.giver) (passed now.giver) (giving start.giver) (giving now.giver)
