-- Lines are read as the items that they are printed from, and as no others.
use Rattle.std.proofs.Common.{◌≡◌, ◌≢◌, Bool, true, List, [], ◌∷◌, Option, Some, None, IfSome, ap, sym, ◌∙◌, subst, true≢false}
use Rattle.std.proofs.lemmas.Option.{none-some, same_Some}
use Rattle.std.specs.Option.{option_and_then}
use Rattle.text_forms.specs.Lines.{joined}
use Rattle.text_model.specs.Words.{Text, line_of}
use Rattle.line_kinds.specs.Cuts.{are_plain, inside, words_in}
use Rattle.line_kinds.specs.Kinds.{IsLineOf, ReadsLine}
use Rattle.line_kinds.proofs.Lined.{inside_line}
use Rattle.line_kinds.proofs.Spaces.{words_joined}

-- the line of an item is read as that item
read_back : {I : Type 0} {form : I → Bool} {words : I → List Text} (reading : List Text → Option I) → ((x : I) → form x ≡ true → are_plain (words x) ≡ true) → ((x : I) → form x ≡ true → reading (words x) ≡ Some x)
    → {line : Text} {x : I} → IsLineOf form words line x → option_and_then reading (words_in line) ≡ Some x
read_back {words = words} reading plain back {line} {x} is =
    ap (λ (t : Text). option_and_then reading (words_in t)) is.text
    ∙ ap (option_and_then reading) (words_joined (words x) (plain x is.form))
    ∙ back x is.form

-- a line that reads as none
pub reads_none : {I : Type 0} {form : I → Bool} {words : I → List Text} (reading : List Text → Option I) → ((x : I) → form x ≡ true → are_plain (words x) ≡ true) → ((x : I) → form x ≡ true → reading (words x) ≡ Some x)
    → {line : Text} → option_and_then reading (words_in line) ≡ None → ReadsLine form words line None
reads_none reading plain back none = record {
  some = λ x e. absurd (none-some x e);
  all = λ x is. sym none ∙ read_back reading plain back is;
}

-- what is inside the line of words, of which there are some
inside_words : (ws : List Text) → are_plain ws ≡ true → inside (line_of 0 ws) ≡ joined ws
inside_words [] p = absurd (true≢false (sym p))
inside_words (w ∷ ws) p = inside_line w ws

-- an item that was read has the form
form_of_read : {I : Type 0} (form : I → Bool) (reading : List Text → Option I) → ((ws : List Text) → IfSome (reading ws) (λ x. form x ≡ true)) → (o : Option (List Text)) (x : I) → option_and_then reading o ≡ Some x → form x ≡ true
form_of_read form reading formed None x e = absurd (none-some x e)
form_of_read form reading formed (Some ws) x e = subst (λ o. IfSome o (λ y. form y ≡ true)) e (formed ws)

-- an item that was read, printed as the line
pub reads_some : {I : Type 0} {form : I → Bool} {words : I → List Text} (reading : List Text → Option I) → ((ws : List Text) → IfSome (reading ws) (λ x. form x ≡ true)) → ((x : I) → form x ≡ true → are_plain (words x) ≡ true)
    → ((x : I) → form x ≡ true → reading (words x) ≡ Some x) → {line : Text} (x : I) → option_and_then reading (words_in line) ≡ Some x → inside (line_of 0 (words x)) ≡ line → ReadsLine form words line (Some x)
reads_some {I} {form} {words} reading formed plain back {line} x e same =
    let has : form x ≡ true = form_of_read form reading formed (words_in line) x e in
    record {
      some = λ y f. subst (λ z. IsLineOf form words line z) (same_Some x y f) (record { form = has; text = sym same ∙ inside_words (words x) (plain x has) });
      all = λ y is. sym e ∙ read_back reading plain back is;
    }

-- an item that was read, printed otherwise
pub reads_other : {I : Type 0} {form : I → Bool} {words : I → List Text} (reading : List Text → Option I) → ((x : I) → form x ≡ true → are_plain (words x) ≡ true)
    → ((x : I) → form x ≡ true → reading (words x) ≡ Some x) → {line : Text} (x : I) → option_and_then reading (words_in line) ≡ Some x → inside (line_of 0 (words x)) ≢ line → ReadsLine form words line None
reads_other {I} {form} {words} reading plain back {line} x e other = record {
  some = λ y f. absurd (none-some y f);
  all = λ y is.
      let same : x ≡ y = same_Some x y (sym e ∙ read_back reading plain back is) in
      absurd (other (ap (λ (z : I). inside (line_of 0 (words z))) same ∙ inside_words (words y) (plain y is.form) ∙ sym is.text));
}
