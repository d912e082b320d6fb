-- Lines that were passed, and then more.
use Rattle.std.proofs.Common.{◌≡◌, ℕ, ◌++◌, List, [], Option, Some, None, refl, ap, sym, ◌∙◌, subst, append-nil, append_assoc}
use Rattle.line_giver.specs.Giving.{Giving, HasPassed, PassesSome, known_after, lines_of_giving}

-- known lines before known lines
pub known_twice : (ls ms : List (Option (List ℕ))) (o : Option (List (Option (List ℕ)))) → known_after ls (known_after ms o) ≡ known_after (ls ++ ms) o
known_twice ls ms None = refl
known_twice ls ms (Some more) = ap Some (sym (append_assoc ls ms more))

-- nothing before known lines
pub known_none : (o : Option (List (Option (List ℕ)))) → known_after [] o ≡ o
known_none None = refl
known_none (Some more) = refl

-- lines were passed, so some were
pub passes_of : {Stream : Type 0} {p q : Stream → List (Option (List ℕ)) → Type 0} {old new : Giving} (lines : List (Option (List ℕ))) → HasPassed p q old new lines → PassesSome p q old new
passes_of lines passed = record { lines = lines; passed = passed }

module _ {Stream : Type 0} {p q r : Stream → List (Option (List ℕ)) → Type 0} {old mid new : Giving} where
  -- lines were passed, and then more
  pub passed_both : (ls ms : List (Option (List ℕ))) → HasPassed p q old mid ls → HasPassed q r mid new ms → HasPassed p r old new (ls ++ ms)
  passed_both ls ms was is = record {
    of_stream = λ s before at. subst (λ t. r s t) (append_assoc before ls ms) (is.of_stream s (before ++ ls) (was.of_stream s before at));
    left = was.left ∙ ap (known_after ls) is.left ∙ known_twice ls ms (lines_of_giving new);
  }

  -- some lines, if any, and then some more
  pub passes_both : PassesSome p q old mid → PassesSome q r mid new → PassesSome p r old new
  passes_both was is = record { lines = was.lines ++ is.lines; passed = passed_both was.lines is.lines was.passed is.passed }

-- no line was passed
pub passed_nothing : {Stream : Type 0} {p : Stream → List (Option (List ℕ)) → Type 0} {old : Giving} → HasPassed p p old old []
passed_nothing {Stream} {p} {old} = record {
  of_stream = λ s before at. subst (λ t. p s t) (sym (append-nil before)) at;
  left = sym (known_none (lines_of_giving old));
}

-- nor any others
pub passes_nothing : {Stream : Type 0} {p : Stream → List (Option (List ℕ)) → Type 0} {old : Giving} → PassesSome p p old old
passes_nothing {Stream} {p} {old} = record { lines = []; passed = passed_nothing }
