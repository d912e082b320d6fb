-- What is left of a line of the number 0 without the number.
use Rattle.std.proofs.Common.{◌≡◌, ◌++◌, List, [], ◌∷◌, ap, codes, drop, lit<}
use Rattle.std.proofs.lemmas.Fmt.{decimal_digit}
use Rattle.text_forms.specs.Lines.{joined}
use Rattle.text_forms.specs.of_text_model.Words.{Text, line_of, spaced}
use Rattle.bare_lines.specs.Bare.{frozen_text}

-- the words, with a space between each two
pub bare_joined : (word : Text) (words : List Text) → drop 2 (line_of 0 (word ∷ words)) ≡ joined (word ∷ words) ++ 10 ∷ []
bare_joined word words = ap (λ (d : Text). drop 2 (d ++ spaced (word ∷ words) ++ 10 ∷ [])) (decimal_digit 0 (lit< tt))

-- the same after `frozen`
pub frozen_joined : (words : List Text) → frozen_text (line_of 0 words) ≡ joined (codes "frozen" ∷ words) ++ 10 ∷ []
frozen_joined words = ap (λ (d : Text). frozen_text (d ++ spaced words ++ 10 ∷ [])) (decimal_digit 0 (lit< tt))
