-- What gives lines one after another. (Own)
use Rattle.std.specs.Prelude.{List, [], ◌∷◌, Option, Some, None}

-- the line that was given, if there is one, and those that are left
abbrev pub given_then : {A : Type 0} → Option A → List A → List A
given_then None left = []
given_then (Some line) left = line ∷ left
