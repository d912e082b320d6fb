-- The line of an item behind the number 0.
use Rattle.std.proofs.Common.{◌≡◌, ℕ, ◌-◌, ◌++◌, List, [], ◌∷◌, length, take, refl, ap, ◌∙◌, arith, lit<}
use Rattle.std.proofs.lemmas.Fmt.{decimal_digit}
use Rattle.std.proofs.lemmas.List.{take_at, length-append}
use Rattle.text_forms.specs.Lines.{joined}
use Rattle.text_model.specs.Words.{Text, line_of, spaced}
use Rattle.line_kinds.specs.Cuts.{inside}

-- without its number and line feed it is the words with a space between each two
pub inside_line : (word : Text) (words : List Text) → inside (line_of 0 (word ∷ words)) ≡ joined (word ∷ words)
inside_line word words =
    let zero_is : line_of 0 (word ∷ words) ≡ 48 ∷ 32 ∷ (joined (word ∷ words) ++ 10 ∷ []) = ap (λ (d : Text). d ++ spaced (word ∷ words) ++ 10 ∷ []) (decimal_digit 0 (lit< tt)) in
    let some : length (48 ∷ 32 ∷ (joined (word ∷ words) ++ 10 ∷ [])) - 3 ≡ length (joined (word ∷ words)) = omega (arith, length-append (joined (word ∷ words)) (10 ∷ [])) in
    ap inside zero_is
    ∙ ap (λ (n : ℕ). take n (joined (word ∷ words) ++ 10 ∷ [])) some
    ∙ take_at (joined (word ∷ words)) (10 ∷ []) (length (joined (word ∷ words))) refl
