-- With what the lines of a snapshot and of its parts begin, and which lines may follow them. (Own)
use Rattle.std.specs.Prelude.{true, false, [], ◌∷◌, codes}
use Rattle.text_model.specs.Words.{Text}
use Rattle.line_parts.specs.Shapes.{Shape}
use Rattle.certificate_lists.specs.Rows.{snapshot_stops}

-- a part whose first line begins with this text; any line may follow it
abbrev pub begun_shape : Text → Shape
begun_shape name = record { starts = name ∷ []; stops = []; is_optional = false; is_firm = false; fits = true }

-- any number of them: no line after them begins so; where they are not read some may be passed
abbrev pub each_shape : Text → Shape
each_shape name = record { starts = name ∷ []; stops = name ∷ []; is_optional = false; is_firm = false; fits = true }

-- from the first line to the action of the last proposal
abbrev pub snapshot_shape : Shape
snapshot_shape = record { starts = codes "certificate " ∷ []; stops = snapshot_stops; is_optional = false; is_firm = false; fits = true }
