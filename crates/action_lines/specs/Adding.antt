-- The fields of an object, added some after others. (Own)
use Rattle.std.specs.Prelude.{◌≡◌, Bool, true, false, ◌||◌, List, [], ◌∷◌, ◌++◌, codes, flat_map}
use Rattle.text_forms.specs.ActionText.{listed}
use Rattle.text_model.specs.Words.{Text}

-- a comma, if a field is before
abbrev pub comma : Bool → Text
comma true = codes ","
comma false = []

-- fields, with a comma before each but the first of all
abbrev pub continued : Bool → List Text → Text
continued true fields = flat_map (λ f. codes "," ++ f) fields
continued false fields = listed fields

-- whether there is one
abbrev pub are_some : List Text → Bool
are_some [] = false
are_some (f ∷ fs) = true

-- fields were added to a text: whether one was before, and whether one is now
pub record Adds (old : Text) (begun : Bool) (fields : List Text) (new : Text) (now : Bool) : Type 0 where
  pub text : new ≡ old ++ continued begun fields
  pub begun_now : now ≡ (begun || are_some fields)
