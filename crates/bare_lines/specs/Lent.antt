-- A taker of lines that borrows another: the name of that loan, and what the other has. (Own)
use Rattle.std.specs.Prelude.{◌≡◌, ℕ}
use Rattle.text_forms.specs.of_text_model.Words.{Text}

-- after one more line
abbrev pub lent : {T : Type 0} → (T → Text → T) → ℕ × T → Text → ℕ × T
lent add t line = (t.0, add t.1 line)

-- after a line of which not all was taken
abbrev pub lent_part : {T : Type 0} → (T → Text → T → Type 0) → ℕ × T → Text → ℕ × T → Type 0
lent_part IsPart t line t' = (t'.0 ≡ t.0) × IsPart t.1 line t'.1
