-- Words that are added to a line, some after others.
use Rattle.std.proofs.Common.{◌≡◌, ℕ, List, [], ◌∷◌, ◌++◌, flat_map, map, zip, ap, sym, ◌∙◌, append_assoc, ◌⊎◌, inl, inr, Bor}
use Rattle.std.proofs.lemmas.List.{append-nil}
use Rattle.text_model.specs.Words.{Text, spaced}
use Rattle.report.specs.Amounts.{amount_words}

-- a word and then others are all of them
pub word_then : (old mid new word : Text) (words all : List Text) → mid ≡ old ++ 32 ∷ word → new ≡ mid ++ spaced words → word ∷ words ≡ all → new ≡ old ++ spaced all
word_then old mid new word words all first second is =
    second
    ∙ ap (λ (t : Text). t ++ spaced words) first
    ∙ append_assoc old (32 ∷ word) (spaced words)
    ∙ ap (λ (ws : List Text). old ++ spaced ws) is

-- no number is left to be added, or no word
pub none_left : (line all : Text) (words : List (Bor Text)) (numbers : List ℕ) → (words ≡ []) ⊎ (numbers ≡ [])
    → line ++ spaced (flat_map (λ k. amount_words k.0 k.1) (zip (map (λ w. w.now) words) numbers)) ≡ all → line ≡ all
none_left line all [] numbers ended is = sym (append-nil line) ∙ is
none_left line all (w ∷ words) [] ended is = sym (append-nil line) ∙ is
none_left line all (w ∷ words) (n ∷ numbers) ended is = elim ended [ inl h ↦ cc | inr h ↦ cc ]
