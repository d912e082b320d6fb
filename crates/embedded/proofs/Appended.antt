-- Lines that are appended to a text, with and without numbers, are the text of these lines.
use Rattle.std.proofs.Common.{append_assoc, append-nil, ◌≡◌, ℕ, List, [], ◌∷◌, ◌++◌, Result, Ok, drop, ap, subst, sym, ◌∙◌}
use Rattle.std.specs.Prelude.{OnOk}
use Rattle.bare_lines.specs.Bare.{bare, bare_part}
use Rattle.bare_lines.proofs.Joined.{bare_joined}
use Rattle.gathered_lines.specs.Through.{HaveWords}
use Rattle.byte_lines.specs.declared.sink.SinkFault.{SinkFault}
use Rattle.report.specs.Taking.{HasPut, with_lines}
use Rattle.text_forms.specs.Lines.{text_of_bare}
use Rattle.text_model.specs.Runs.{text_of_lines}
use Rattle.text_model.specs.Words.{Text, line_of}

pub gathered : (old : Text) (lines : List (List Text)) → HaveWords lines → with_lines (bare (λ (text line : Text). text ++ line)) 0 old lines ≡ old ++ text_of_bare lines
gathered old [] have = sym (append-nil old)
gathered old ([] ∷ lines) have = absurd have
gathered old ((word ∷ words) ∷ lines) have =
    gathered (old ++ drop 2 (line_of 0 (word ∷ words))) lines have
    ∙ append_assoc old (drop 2 (line_of 0 (word ∷ words))) (text_of_bare lines)
    ∙ ap (λ (text : Text). old ++ (text ++ text_of_bare lines)) (bare_joined word words)

-- all of them, onto no text
pub from_nothing : (IsPart : Text → Text → Text → Type 0) (old text : Text) (lines : List (List Text)) (f f' : ℕ) (result : Result (Unit {0}) SinkFault) (done : Unit {0}) → HaveWords lines → old ≡ []
    → HasPut (bare (λ (t line : Text). t ++ line)) (bare_part IsPart) 0 old lines text f f' result → result ≡ Ok done → text ≡ text_of_bare lines
from_nothing IsPart old text lines f f' result done have none put is =
    let all : text ≡ with_lines (bare (λ (t line : Text). t ++ line)) 0 old lines =
    subst (λ (r : Result (Unit {0}) SinkFault). OnOk r (text ≡ with_lines (bare (λ (t line : Text). t ++ line)) 0 old lines)) is put.ok in
    all ∙ gathered old lines have ∙ ap (λ (t : Text). t ++ text_of_bare lines) none

pub numbered : (n : ℕ) (old : Text) (lines : List (List Text)) → with_lines (λ (text line : Text). text ++ line) n old lines ≡ old ++ text_of_lines n lines
numbered n old [] = sym (append-nil old)
numbered n old (words ∷ lines) = numbered n (old ++ line_of n words) lines ∙ append_assoc old (line_of n words) (text_of_lines n lines)

-- all of them with numbers, onto no text
pub numbered_from_nothing : (IsPart : Text → Text → Text → Type 0) (n : ℕ) (old text : Text) (lines : List (List Text)) (f f' : ℕ) (result : Result (Unit {0}) SinkFault) (done : Unit {0}) → old ≡ []
    → HasPut (λ (t line : Text). t ++ line) IsPart n old lines text f f' result → result ≡ Ok done → text ≡ text_of_lines n lines
numbered_from_nothing IsPart n old text lines f f' result done none put is =
    let all : text ≡ with_lines (λ (t line : Text). t ++ line) n old lines =
    subst (λ (r : Result (Unit {0}) SinkFault). OnOk r (text ≡ with_lines (λ (t line : Text). t ++ line) n old lines)) is put.ok in
    all ∙ numbered n old lines ∙ ap (λ (t : Text). t ++ text_of_lines n lines) none
