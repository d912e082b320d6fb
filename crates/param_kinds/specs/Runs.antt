-- Several lines that are read as one item. (Own)
use Rattle.std.specs.Prelude.{◌≡◌, Bool, true, List, [], ◌∷◌, ◌++◌, Option, Some, None, map}
use Rattle.line_giver.specs.Giving.{Giving, HasPassed, IsThrough, lines_of_giving}
use Rattle.text_forms.specs.Lines.{joined, joined_lines}
use Rattle.text_model.specs.Words.{Text}

-- the line that was seen is the line of an item, or of none
abbrev pub IsSeen : {I : Type 0} → (I → Bool) → (I → List Text) → Giving → Option I → Type 0
IsSeen form words g (Some x) = (form x ≡ true) × (g.seen ≡ Some (joined (words x)) ∷ [])
IsSeen {I} form words g None = (x : I) → form x ≡ true → g.seen ≡ Some (joined (words x)) ∷ [] → ⊥

module _ {I : Type 0} (has_form : I → Bool) (lines_of : I → List (List Text)) where
  -- the lines of an item, none of which is too long
  abbrev pub whole : I → List (Option Text)
  whole x = map Some (joined_lines (lines_of x))

  -- after these lines something else comes, or the end
  pub record Breaks (front : List (Option Text)) (g : Giving) : Type 0 where
    -- whatever follows, no item's lines come first; at the end nothing follows
    pub none : (x : I) → has_form x ≡ true → (after rest : List (Option Text)) → (g.seen ≡ [] → after ≡ [])
        → front ++ (g.seen ++ after) ≡ whole x ++ rest → ⊥
    pub end : g.seen ≡ [] → IsThrough (lines_of_giving g)

  -- the lines that came were those of this item, and were passed;
  -- or they were those of no item, and some of them were passed
  abbrev pub ReadsLines : {Stream : Type 0} → (Stream → List (Option Text) → Type 0) → (Stream → List (Option Text) → Type 0) → Giving → Giving → Option I → Type 0
  ReadsLines passed passed' old new (Some x) = (has_form x ≡ true) × HasPassed passed passed' old new (whole x)
  ReadsLines passed passed' old new None = (front : List (Option Text)) × HasPassed passed passed' old new front × Breaks front new
