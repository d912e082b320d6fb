-- One line that is passed. (Own)
use Rattle.std.specs.Prelude.{◌≡◌, ℕ, Bool, true, false, List, [], ◌∷◌, Option, Result, Ok, Err}
use Rattle.byte_lines.specs.declared.lines.LineFault.{LineFault}
use Rattle.line_giver.specs.Giving.{Giving, HasPassed, IsThrough, lines_of_giving}
use Rattle.ended_lines.specs.Ended.{is_end_line}
use Rattle.ended_lines.specs.declared.pass.Passed.{Passed}
use Rattle.ended_lines.specs.declared.pass.Passed.TheVariants.{Other, Last, Nothing}

module _ {Stream : Type 0} (before after : Stream → List (Option (List ℕ)) → Type 0) (old new : Giving) where
  -- one line was passed, and whether it is `end`
  pub record PassesLine (is_last : Bool) : Type 0 where
    pub line : Option (List ℕ)
    pub passed : HasPassed before after old new (line ∷ [])
    pub is : is_end_line line ≡ is_last

  -- no line was passed
  pub record PassesNothing (why : Type 0) : Type 0 where
    pub passed : HasPassed before after old new []
    pub is : why

  -- one line was passed, or none is left, or there was an error
  abbrev pub PassesOne : Result Passed LineFault → Type 0
  PassesOne (Ok Other) = PassesLine false
  PassesOne (Ok Last) = PassesLine true
  PassesOne (Ok Nothing) = PassesNothing (IsThrough (lines_of_giving new))
  PassesOne (Err fault) = PassesNothing (new.seen ≡ [])
