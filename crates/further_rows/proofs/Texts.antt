-- When a text is that of these lines.
use Rattle.std.specs.Prelude.{◌≡◌, ℕ, ◌==◌, Bool, true, false, List, [], ◌∷◌, ◌++◌, Option, unwrap_or}
use Rattle.std.specs.List.{slice_split}
use Rattle.std.proofs.lemmas.Bool.{false≢true}
use Rattle.ledger_rows.proofs.Base.{same_lines}

-- a text has these lines and no other; where there is no text, it has none
abbrev pub is_text : Option (List ℕ) → List (List ℕ) → Bool
is_text text lines = same_lines (slice_split (λ b. b == 10) (unwrap_or text [])) (lines ++ [] ∷ [])

-- what is false is not so
pub refuted : false ≡ true → ⊥
refuted e = false≢true e
