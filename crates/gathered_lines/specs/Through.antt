-- A text that is gathered line by line. (Own)
use Rattle.std.specs.Prelude.{◌≡◌, ℕ, List, [], ◌∷◌}
use Rattle.bare_lines.specs.of_text_model.Words.{Text}
use Rattle.line_runs.specs.Batches.{Gathered, IsGatheredPart, with_gathered}

-- what is gathered, and for which sink, by the names of the two references
pub record Waiting : Type 0 where
  pub gathered : Gathered
  pub batch_name : ℕ
  pub sink_name : ℕ

-- with a line more
abbrev pub with_line : Waiting → List ℕ → Waiting
with_line w line = record w { gathered = with_gathered w.gathered line }

-- the line was not gathered
abbrev pub IsLinePart : Waiting → List ℕ → Waiting → Type 0
IsLinePart w line w' = IsGatheredPart w.gathered line w'.gathered × (w'.batch_name ≡ w.batch_name) × (w'.sink_name ≡ w.sink_name)

-- each line has a word
abbrev pub HaveWords : List (List Text) → Type 0
HaveWords [] = Unit {0}
HaveWords ([] ∷ lines) = ⊥
HaveWords ((word ∷ words) ∷ lines) = HaveWords lines
