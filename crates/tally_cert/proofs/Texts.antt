-- The lines of a list are a certificate if and only if their texts are.
use Rattle.std.proofs.Common.{◌≡◌, ◌↔◌, ℕ, Bool, true, List, [], ◌∷◌, Option, ap, map, refl, subst, sym, ◌∙◌}
use Rattle.std.specs.Prelude.{unwrap_or}
use Rattle.check_loop.specs.Right.{IsCertificateText}
use Rattle.certificate_model.specs.Checked.{Answers, IsCertificate}
use Rattle.line_giver.specs.OfList.{whole_lines}

-- a line that is not too long is its text
texts_back : (texts : List (List ℕ)) → map (λ (line : Option (List ℕ)). unwrap_or line []) (whole_lines texts) ≡ texts
texts_back [] = refl
texts_back (t ∷ ts) = ap (λ (us : List (List ℕ)). t ∷ us) (texts_back ts)

same_texts : (a b : List (List ℕ)) → whole_lines a ≡ whole_lines b → a ≡ b
same_texts a b same = sym (texts_back a) ∙ ap (map (λ (line : Option (List ℕ)). unwrap_or line [])) same ∙ texts_back b

pub answers_texts : (texts : List (List ℕ)) (answer : Bool) → (answer ≡ true) ↔ IsCertificateText (whole_lines texts) → Answers texts answer
answers_texts texts answer is = (
  λ yes. let right = is.0 yes in subst (λ (ts : List (List ℕ)). IsCertificate ts) (sym (same_texts texts right.texts right.whole)) right.is,
  λ c. is.1 (record { texts = texts; whole = refl; is = c }),
)
