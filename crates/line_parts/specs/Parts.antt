-- Parts of a text that are read from its lines. (Own)
use Rattle.std.specs.Prelude.{◌≡◌, ◌≢◌, ◌++◌, Bool, true, false, ◌&&◌, List, [], Option, Some, None}
use Rattle.text_forms.specs.Lines.{joined_lines}
use Rattle.text_model.specs.Words.{Text}
use Rattle.line_giver.specs.Giving.{Giving, HasPassed, lines_of_giving}
use Rattle.line_giver.specs.OfList.{whole_lines}
use Rattle.line_parts.specs.Shapes.{Shape, is_next}

-- the lines of words, none of which is too long
abbrev pub lines_of : List (List Text) → List (Option Text)
lines_of words = whole_lines (joined_lines words)

-- one item and another one have their forms
abbrev pub both_have : {A B : Type 0} → (A → Bool) → (B → Bool) → A × B → Bool
both_have form form' x = form x.0 && form' x.1

-- the lines of one item, then those of another one
abbrev pub words_of_both : {A B : Type 0} → (A → List (List Text)) → (B → List (List Text)) → A × B → List (List Text)
words_of_both words words' x = words x.0 ++ words' x.1

-- the lines of an item are left, and then more that may follow them
pub record Comes {I : Type 0} (shape : Shape) (has_form : I → Bool) (words : I → List (List Text)) (all : Option (List (Option Text))) (x : I) (more : List (Option Text)) : Type 0 where
  pub form : has_form x ≡ true
  pub apart : is_next shape.stops more ≡ false
  pub left : all ≡ Some (lines_of (words x) ++ more)

-- a part was read, if its lines came next
pub record IsRead {I Stream : Type 0} (shape : Shape) (has_form : I → Bool) (words : I → List (List Text))
    (before after : Stream → List (Option Text) → Type 0) (old new : Giving) (read : Option I) : Type 0 where
  -- an item that was read has the form, and its lines were passed
  pub form : (x : I) → read ≡ Some x → has_form x ≡ true
  pub passed : (x : I) → read ≡ Some x → HasPassed before after old new (lines_of (words x))
  -- else no line was passed, if the part is firm; one that may have no lines is always read
  pub none : read ≡ None → shape.is_firm ≡ true → HasPassed before after old new []
  pub some : shape.is_optional ≡ true → read ≢ None
  -- an item whose lines come next is read
  pub all : (x : I) (more : List (Option Text)) → Comes shape has_form words (lines_of_giving old) x more → read ≡ Some x
