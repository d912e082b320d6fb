-- What is left after lines were passed.
use Rattle.std.proofs.Common.{◌≡◌, ◌≢◌, ◌++◌, List, [], ◌∷◌, Option, Some, None, refl, ap, sym, ◌∙◌, subst, append-nil, append_assoc}
use Rattle.std.proofs.lemmas.List.{append_cancel_left}
use Rattle.std.proofs.lemmas.Option.{none-some, same_Some}
use Rattle.text_forms.specs.Lines.{joined}
use Rattle.text_model.specs.Words.{Text}
use Rattle.line_giver.specs.Giving.{Giving, HasPassed, known_after, lines_of_giving}
use Rattle.line_giver.proofs.Passing.{passed_both}
use Rattle.line_parts.specs.Parts.{lines_of}

-- the lines of words and of more words
pub lines_append : (a b : List (List Text)) → lines_of (a ++ b) ≡ lines_of a ++ lines_of b
lines_append [] b = refl
lines_append (ws ∷ a) b = ap (λ (t : List (Option Text)). Some (joined ws) ∷ t) (lines_append a b)

-- some is not none
pub some_none : {A : Type 0} (x : A) → Some x ≢ None
some_none x e = none-some x (sym e)

-- what is left once lines were passed
pub left_after : (old new : Option (List (Option Text))) (lines more : List (Option Text)) → old ≡ known_after lines new → old ≡ Some (lines ++ more) → new ≡ Some more
left_after old None lines more was is = absurd (none-some (lines ++ more) (sym was ∙ is))
left_after old (Some rest) lines more was is = ap Some (append_cancel_left lines rest more (same_Some (lines ++ rest) (lines ++ more) (sym was ∙ is)))

module _ {Stream : Type 0} {p q r : Stream → List (Option Text) → Type 0} {old mid new : Giving} where
  -- the lines of words, and then of more
  pub passed_words : (a b : List (List Text)) → HasPassed p q old mid (lines_of a) → HasPassed q r mid new (lines_of b) → HasPassed p r old new (lines_of (a ++ b))
  passed_words a b was is = subst (λ t. HasPassed p r old new t) (sym (lines_append a b)) (passed_both (lines_of a) (lines_of b) was is)
