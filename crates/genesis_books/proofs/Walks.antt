-- A walk over a list: what is done so far, and what the rest makes of it.
use Rattle.std.proofs.Common.{◌≡◌, ℕ, ◌+◌, ◌<◌, List, ◌∷◌, length, get_or, drop, ap, sym, ◌∙◌}
use Rattle.std.proofs.lemmas.List.{at_drop_more}

-- where walk makes of an item and the rest what it makes of the rest after a step, it makes of what is left after the step what it made before
pub walk_on : {A S T : Type 0} (walk : List A → S → T) (step : S → A → S) → ((x : A) (xs : List A) (s : S) → walk (x ∷ xs) s ≡ walk xs (step s x))
    → (xs : List A) (i : ℕ) (d : A) (s t : S) → i < length xs → t ≡ step s (get_or xs i d) → walk (drop (i + 1) xs) t ≡ walk (drop i xs) s
walk_on {A = A} {S = S} walk step more xs i d s t l e =
    sym (at_drop_more (λ (left : List A). walk left s) xs i d l ∙ more (get_or xs i d) (drop (i + 1) xs) s ∙ ap (λ (x : S). walk (drop (i + 1) xs) x) (sym e))
