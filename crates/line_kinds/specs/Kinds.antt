-- Lines that are printed from items of a kind. (Own)
use Rattle.std.specs.Prelude.{◌≡◌, Bool, true, List, [], ◌∷◌, Option, Some, None, map}
use Rattle.text_forms.specs.Lines.{joined}
use Rattle.text_model.specs.Words.{Text}
use Rattle.line_giver.specs.Giving.{Giving, IsThrough, lines_of_giving}

module _ {I : Type 0} (has_form : I → Bool) (words_of : I → List Text) where
  -- the line of an item that has its form
  pub record IsLineOf (line : Text) (x : I) : Type 0 where
    pub form : has_form x ≡ true
    pub text : line ≡ joined (words_of x)

  -- a line reads as this item, or as none
  pub record ReadsLine (line : Text) (read : Option I) : Type 0 where
    -- an item that was read has the form, and the line is its line
    pub some : (x : I) → read ≡ Some x → IsLineOf line x
    -- the line of an item that has the form is read as that item
    pub all : (x : I) → IsLineOf line x → read ≡ Some x

  -- their lines, none of which is too long
  abbrev pub lines_of_items : List I → List (Option Text)
  lines_of_items xs = map (λ x. Some (joined (words_of x))) xs

  -- the line that is next is seen, and is of no item; or no line is left
  pub record StopsAt (g : Giving) : Type 0 where
    pub other : (x : I) → has_form x ≡ true → g.seen ≡ Some (joined (words_of x)) ∷ [] → ⊥
    pub end : g.seen ≡ [] → IsThrough (lines_of_giving g)

  -- the line that is next is seen: it is of this item, or of none
  abbrev pub SeesItem : Giving → Option I → Type 0
  SeesItem g (Some x) = (has_form x ≡ true) × (g.seen ≡ Some (joined (words_of x)) ∷ [])
  SeesItem g None = StopsAt g
