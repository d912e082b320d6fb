-- Compact JSON, whose texts have nothing to escape. (RFC 8259)
use Rattle.std.specs.Prelude.{List, [], ◌∷◌, ◌++◌, flat_map}
use Rattle.text_model.specs.Words.{Text}

-- texts one after another
abbrev pub joined : List Text → Text
joined texts = flat_map (λ text. text) texts

-- a string
abbrev pub quoted : Text → Text
quoted text = 34 ∷ text ++ 34 ∷ []

-- the first, and each other after a comma
abbrev pub with_commas : List Text → Text
with_commas [] = []
with_commas (first ∷ others) = first ++ flat_map (λ other. 44 ∷ other) others

-- an array of these values
abbrev pub array : List Text → Text
array values = 91 ∷ with_commas values ++ 93 ∷ []

-- a member of an object: its name and its value
abbrev pub member : Text → Text → Text
member name value = quoted name ++ 58 ∷ value

-- an object of these members
abbrev pub object : List Text → Text
object members = 123 ∷ with_commas members ++ 125 ∷ []
