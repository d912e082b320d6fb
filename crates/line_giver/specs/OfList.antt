-- The lines of a list. (Own)
use Rattle.std.specs.Prelude.{ℕ, Bool, if◌then◌else◌, List, [], ◌∷◌, Option, Some, drop, map, take}
use Rattle.std.specs.Global.{Vec}
use Rattle.line_giver.specs.Giving.{Giving}

-- the bytes of each
abbrev pub texts_of : List (Vec ℕ) → List (List ℕ)
texts_of lines = map (λ line. line.items) lines

-- lines, none of which is too long
abbrev pub whole_lines : List (List ℕ) → List (Option (List ℕ))
whole_lines lines = map Some lines

-- the first line, if there is one
abbrev pub first_text : List (List ℕ) → List ℕ
first_text [] = []
first_text (line ∷ lines) = line

-- what is left of a list, whose first line may have been seen
abbrev pub giving_in : List (List ℕ) → Bool → Giving
giving_in lines is_seen = record {
  text = first_text lines;
  seen = (if is_seen then take 1 (whole_lines lines) else []);
  after = Some (if is_seen then drop 1 (whole_lines lines) else whole_lines lines);
}
