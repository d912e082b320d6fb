-- The lines of a shortfall where DReps are chosen, and where none is.
use Rattle.std.proofs.Common.{◌≡◌, ◌==◌, true, false, ℕ, List, [], ◌∷◌, ◌++◌, codes, decimal, length, map, refl, sym, ◌∙◌, arith}
use Rattle.std.proofs.lemmas.Bool.{false≢true, ne_eqb}
use Rattle.coin_frac.specs.Fraction.{Fraction}
use Rattle.gov_ids.specs.declared.ActionId.{ActionId}
use Rattle.gov_ids.specs.declared.Credential.{Credential}
use Rattle.gov_ids.specs.Spelling.{action_id_text}
use Rattle.shortfall_model.specs.declared.short.Short.TheVariants as short
use Rattle.shortfall_model.specs.ShortLines.{add_words, count_words, short_lines}
use Rattle.text_model.specs.Words.{Text}

-- the lines where DReps are chosen
pub chosen_lines : (id : ActionId) (chosen : List (Credential × ℕ)) (count : ℕ × ℕ) (t : Fraction) (n : ℕ) → (length chosen == 0) ≡ false
    → short_lines id (short.Least chosen count.0 count.1 t n)
    ≡ ((codes "shortfall" ∷ action_id_text id ∷ codes "least" ∷ decimal (length chosen) ∷ [] ++ count_words count.0 count.1 t ++ codes "short" ∷ decimal n ∷ []) ∷ []) ++ map add_words chosen
chosen_lines id [] count t n some = absurd (false≢true (sym some))
chosen_lines id (d ∷ ds) count t n some = refl

-- the line where none is
pub empty_lines : (id : ActionId) (chosen : List (Credential × ℕ)) (count : ℕ × ℕ) (t : Fraction) (n : ℕ) → (length chosen == 0) ≡ true
    → (codes "shortfall" ∷ action_id_text id ∷ codes "least" ∷ decimal 0 ∷ count_words count.0 count.1 t) ∷ [] ≡ short_lines id (short.Least chosen count.0 count.1 t n)
empty_lines id [] count t n none = refl
empty_lines id (d ∷ ds) count t n none = absurd (false≢true (sym (ne_eqb (length (d ∷ ds)) 0 (λ e. omega (arith, e))) ∙ none))
