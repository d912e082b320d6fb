-- Lines of the number 0 that are passed on without it. (Own)
use Rattle.std.specs.Prelude.{◌≡◌, ◌⊎◌, ◌++◌, codes, drop}
use Rattle.text_forms.specs.of_text_model.Words.{Text}

-- after a line without its number and the space after it
abbrev pub bare : {T : Type 0} → (T → Text → T) → T → Text → T
bare add t line = add t (drop 2 line)

-- after a part of it
abbrev pub bare_part : {T : Type 0} → (T → Text → T → Type 0) → T → Text → T → Type 0
bare_part IsPart t line t' = IsPart t (drop 2 line) t'

-- a line with `frozen` instead of its number
abbrev pub frozen_text : Text → Text
frozen_text line = codes "frozen" ++ drop 1 line

-- after such a line
abbrev pub frozen_bare : {T : Type 0} → (T → Text → T) → T → Text → T
frozen_bare add t line = add t (frozen_text line)

-- after nothing of it, or a part
abbrev pub frozen_part : {T : Type 0} → (T → Text → T → Type 0) → T → Text → T → Type 0
frozen_part IsPart t line t' = (t' ≡ t) ⊎ (IsPart t (frozen_text line) t')
