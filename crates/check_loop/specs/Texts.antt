-- Lines that are cut into texts, each up to a line `end`. (Own)
-- A line is its bytes without the line feed, and none if it is too long.
use Rattle.std.specs.Prelude.{◌≡◌, ℕ, List, [], ◌∷◌, Option, Some, filter, if◌then◌else◌, map}
use Rattle.std.specs.List.{onto_first}
use Rattle.certificate_model.specs.Checked.{certificates_in}
use Rattle.ended_lines.specs.Ended.{has_end, is_end_line}

-- lines as texts, each up to its `end`; a rest is one more
abbrev pub texts_in : List (Option (List ℕ)) → List (List (Option (List ℕ)))
texts_in [] = []
texts_in (l ∷ ls) = if is_end_line l then (l ∷ []) ∷ texts_in ls else onto_first l (texts_in ls)

-- those whose `end` is there
abbrev pub ended_texts : List (Option (List ℕ)) → List (List (Option (List ℕ)))
ended_texts lines = filter has_end (texts_in lines)

-- where no line is too long, they are the certificates
abbrev pub TextsAreCertificates : Type 0
TextsAreCertificates = (lines : List (List ℕ)) → texts_in (map Some lines) ≡ map (map Some) (certificates_in lines)
