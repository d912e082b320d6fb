-- A name with its amount. (Own)
use Rattle.std.specs.Prelude.{ℕ, List, [], ◌∷◌, decimal}
use Rattle.text_model.specs.Words.{Text}

-- the name, then the amount
abbrev pub amount_words : Text → ℕ → List Text
amount_words name n = name ∷ decimal n ∷ []
