-- A text of lines is cut into these lines.
use Rattle.std.proofs.Common.{◌≡◌, ℕ, ◌++◌, true, cond, nat_le, List, [], ◌∷◌, Option, Some, None, length, map, refl, ap, ◌∙◌, append_assoc}
use Rattle.std.proofs.lemmas.Bool.{and_parts, or_parts}
use Rattle.std.specs.List.{list_any}
use Rattle.byte_lines.specs.Pieces.{has_feed, kept, lines_of}
use Rattle.byte_lines.proofs.PieceLemmas.{pieces_of-feed}
use Rattle.text_forms.specs.Lines.{are_short_lines, joined, joined_lines, text_of_bare}
use Rattle.text_forms.specs.of_text_model.Words.{Text}
use Rattle.text_forms.specs.of_tx_records.declared.limits.TheConstants.{LINE_LIMIT}
use Rattle.checkpoint_text_laws.specs.Laws.{TextIsCut}

-- a line that is not too long is kept
kept_whole : (line : Text) → nat_le (length line) LINE_LIMIT ≡ true → kept LINE_LIMIT line ≡ Some line
kept_whole line short = ap (λ b. cond b (Some line) None) short

pub text_is_cut : TextIsCut
text_is_cut [] more free short = refl
text_is_cut (ws ∷ lines) more free short =
    let own = or_parts (has_feed (joined ws)) (list_any has_feed (joined_lines lines)) free in
    let few = and_parts (nat_le (length (joined ws)) LINE_LIMIT) (are_short_lines lines) short in
    let later : List ℕ = text_of_bare lines ++ more in
    ap (lines_of LINE_LIMIT) (append_assoc (joined ws ++ 10 ∷ []) (text_of_bare lines) more ∙ append_assoc (joined ws) (10 ∷ []) later)
    ∙ ap (map (kept LINE_LIMIT)) (pieces_of-feed (joined ws) later own.0)
    ∙ ap (λ (l : Option Text). l ∷ lines_of LINE_LIMIT later) (kept_whole (joined ws) few.0)
    ∙ ap (λ (ls : List (Option Text)). Some (joined ws) ∷ ls) (text_is_cut lines more own.1 few.1)
