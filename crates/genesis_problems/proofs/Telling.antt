-- Problems told by several lists of tests.
use Rattle.std.proofs.Common.{◌≡◌, List, [], ◌∷◌, ◌++◌, Bool, true, false, refl, ap, sym, ◌∙◌, append_assoc}
use Rattle.genesis_problems.specs.declared.problem.GenesisProblem.{GenesisProblem}
use Rattle.genesis_problems.specs.Problems.{found_among, told_with}

abbrev pub Tests : Type 0
Tests = List (Bool × GenesisProblem)

pub found-append : (a b : Tests) → found_among (a ++ b) ≡ found_among a ++ found_among b
found-append [] b = refl
found-append ((true, p) ∷ a) b = ap (λ (ps : List GenesisProblem). p ∷ ps) (found-append a b)
found-append ((false, p) ∷ a) b = found-append a b

-- told by one list and then by another is told by both
pub told_both : (a b : Tests) (told : List GenesisProblem) → told_with b (told_with a told) ≡ told_with (a ++ b) told
told_both a b told = append_assoc told (found_among a) (found_among b) ∙ ap (λ (ps : List GenesisProblem). told ++ ps) (sym (found-append a b))

-- told by five lists, one after another
pub told_five : (a b c d e : Tests) (told : List GenesisProblem)
    → told_with e (told_with d (told_with c (told_with b (told_with a told)))) ≡ told_with (a ++ b ++ c ++ d ++ e) told
told_five a b c d e told =
    ap (λ (ps : List GenesisProblem). told_with e (told_with d (told_with c ps))) (told_both a b told)
    ∙ ap (λ (ps : List GenesisProblem). told_with e (told_with d ps)) (told_both (a ++ b) c told)
    ∙ ap (λ (ps : List GenesisProblem). told_with e ps) (told_both (a ++ b ++ c) d told)
    ∙ told_both (a ++ b ++ c ++ d) e told
