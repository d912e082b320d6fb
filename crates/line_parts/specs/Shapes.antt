-- With what the lines of a part of a text begin, and which lines may follow them. (Own)
use Rattle.std.specs.Prelude.{◌++◌, ◌==◌, Bool, true, false, ◌&&◌, not, List, [], ◌∷◌, Option, Some, None}
use Rattle.std.specs.List.{list_all, list_any}
use Rattle.text_model.specs.Words.{Text}

-- ---- lines and what they begin with

-- a text begins with another one
abbrev pub begins_with : Text → Text → Bool
begins_with [] line = true
begins_with (c ∷ cs) [] = false
begins_with (c ∷ cs) (b ∷ bs) = (c == b) && begins_with cs bs

-- a text begins with one of these
abbrev pub begins_with_one : List Text → Text → Bool
begins_with_one names line = list_any (λ (name : Text). begins_with name line) names

-- the first line is whole and begins with one of these
abbrev pub is_next : List Text → List (Option Text) → Bool
is_next names [] = false
is_next names (None ∷ lines) = false
is_next names (Some line ∷ lines) = begins_with_one names line

-- one of two texts begins with the other one
abbrev pub are_alike : Text → Text → Bool
are_alike [] d = true
are_alike (c ∷ cs) [] = true
are_alike (c ∷ cs) (d ∷ ds) = (c == d) && are_alike cs ds

-- no line begins with one of these and with one of those
abbrev pub are_apart : List Text → List Text → Bool
are_apart names others = list_all (λ (name : Text). list_all (λ (other : Text). not (are_alike name other)) others) names

-- ---- shapes

-- what is known of the lines of a part, whatever its item is
pub record Shape : Type 0 where
  -- with one of these its first line begins
  pub starts : List Text
  -- with none of these the line after it may begin
  pub stops : List Text
  -- it may have no lines; then every text has it
  pub is_optional : Bool
  -- where it is not read, no line is passed
  pub is_firm : Bool
  -- its own parts can be told apart
  pub fits : Bool

-- lines have the start of a shape
abbrev pub has_start : Shape → List (Option Text) → Bool
has_start s [] = s.is_optional
has_start s (line ∷ lines) = is_next s.starts (line ∷ lines)

-- one line, which begins with this text
abbrev pub one_shape : Text → Shape
one_shape name = record { starts = name ∷ []; stops = []; is_optional = false; is_firm = true; fits = true }

-- names, if this holds
abbrev pub names_if : Bool → List Text → List Text
names_if true names = names
names_if false names = []

-- one part, then another one
abbrev pub then_shape : Shape → Shape → Shape
then_shape a b = record {
  starts = a.starts ++ names_if a.is_optional b.starts;
  stops = b.stops ++ names_if b.is_optional a.stops;
  is_optional = a.is_optional && b.is_optional;
  is_firm = a.is_firm && b.is_optional;
  fits = a.fits && b.fits && are_apart a.stops b.starts;
}

-- any number of parts
abbrev pub many_shape : Shape → Shape
many_shape a = record {
  starts = a.starts;
  stops = a.starts ++ a.stops;
  is_optional = true;
  is_firm = true;
  fits = a.fits && a.is_firm && not a.is_optional && are_apart a.stops a.starts;
}
