-- Lines that are kept without their line feeds are their words, with a space between each two.
use Rattle.std.proofs.Common.{append_assoc, ◌≡◌, ◌-◌, List, [], ◌∷◌, ◌++◌, ℕ, arith, drop, length, lit<, take, ap, sym, ◌∙◌}
use Rattle.std.proofs.Math.Seq.{take-append_seam}
use Rattle.std.proofs.lemmas.Fmt.{decimal_digit}
use Rattle.std.proofs.lemmas.List.{append-nil, length-append}
use Rattle.bare_lines.specs.Bare.{bare}
use Rattle.bare_lines.proofs.Joined.{bare_joined}
use Rattle.report.specs.Taking.{with_lines}
use Rattle.text_forms.specs.Lines.{joined, joined_lines}
use Rattle.text_model.specs.Words.{Text, line_of, spaced}
use Rattle.checkpoint_print.specs.Kept.{without_feed}

-- a text without the line feed behind it
without : (text : Text) → without_feed (text ++ 10 ∷ []) ≡ text
without text =
    let most : length (text ++ 10 ∷ []) - 1 ≡ length text = omega (arith, length-append text (10 ∷ [])) in
    ap (λ (k : ℕ). take k (text ++ 10 ∷ [])) most ∙ take-append_seam text (10 ∷ [])

-- a line
one_line : (words : List Text) → without_feed (drop 2 (line_of 0 words)) ≡ joined words
one_line [] = ap (λ (d : Text). without_feed (drop 2 (d ++ spaced [] ++ 10 ∷ []))) (decimal_digit 0 (lit< tt))
one_line (word ∷ words) = ap without_feed (bare_joined word words) ∙ without (joined (word ∷ words))

-- all lines
pub kept : (old : List Text) (lines : List (List Text)) → with_lines (bare (λ (ls : List Text) (line : Text). ls ++ without_feed line ∷ [])) 0 old lines ≡ old ++ joined_lines lines
kept old [] = sym (append-nil old)
kept old (words ∷ lines) =
    kept (old ++ without_feed (drop 2 (line_of 0 words)) ∷ []) lines
    ∙ append_assoc old (without_feed (drop 2 (line_of 0 words)) ∷ []) (joined_lines lines)
    ∙ ap (λ (line : Text). old ++ line ∷ joined_lines lines) (one_line words)
