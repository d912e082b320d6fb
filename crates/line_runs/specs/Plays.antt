-- What a command does with what its lines say, and at the end of its input. (Own)
use Rattle.std.specs.Prelude.{ℕ, ◌++◌, List, [], Option, Result, Ok, Err, filter_map, fold, option_map}
use Rattle.std.specs.List.{enumerate_from}

-- one step of a command: it goes on in a new state with a text, or stops for a cause
pub data Turn (Stand Cause : Type 0) : Type 0 where
  Goes : Stand → List ℕ → Turn Stand Cause
  Stops : Cause → Turn Stand Cause

-- a command: what a line says to it, what it does with that, and what it does at the end
pub record Play (Said Stand Cause : Type 0) : Type 0 where
  -- what a line says, if anything; `None` is a line that is too long
  pub says : Option (List ℕ) → Option Said
  -- what the command does with what the line of this number says
  pub turn : Stand → ℕ → Said → Turn Stand Cause
  -- and at the end, after so many lines
  pub last : Stand → ℕ → Turn (Unit {0}) Cause

-- what lines say, each with its number; the first line has the number n
abbrev pub records_from : {Said : Type 0} → (Option (List ℕ) → Option Said) → ℕ → List (Option (List ℕ)) → List (ℕ × Said)
records_from says n lines =
    filter_map (λ (line : ℕ × Option (List ℕ)). option_map (λ r. (line.0, r)) (says line.1)) (enumerate_from n lines)

-- all text, and the state of the command, or the cause for which it stopped
pub record Played (Stand Cause : Type 0) : Type 0 where
  pub text : List ℕ
  pub stand : Result Stand Cause

-- the text so far, then a step
abbrev pub after_turn : {Stand Cause : Type 0} → List ℕ → Turn Stand Cause → Played Stand Cause
after_turn text (Goes s more) = record { text = text ++ more; stand = Ok s }
after_turn text (Stops cause) = record { text = text; stand = Err cause }

-- a step of a command, if it has not stopped
abbrev pub turned : {Stand Next Cause : Type 0} → (Stand → Turn Next Cause) → List ℕ → Result Stand Cause → Played Next Cause
turned step text (Ok s) = after_turn text (step s)
turned step text (Err cause) = record { text = text; stand = Err cause }

-- with what one more line says
abbrev pub with_record : {Said Stand Cause : Type 0} → Play Said Stand Cause → Played Stand Cause → ℕ × Said → Played Stand Cause
with_record p x r = turned (λ s. p.turn s r.0 r.1) x.text x.stand

-- what is said, line after line, from a state on
abbrev pub played : {Said Stand Cause : Type 0} → Play Said Stand Cause → Stand → List (ℕ × Said) → Played Stand Cause
played p s records = fold (with_record p) (record { text = []; stand = Ok s }) records

-- with the end, after so many lines
abbrev pub ended : {Said Stand Cause : Type 0} → Play Said Stand Cause → ℕ → Played Stand Cause → Played (Unit {0}) Cause
ended p n x = turned (λ s. p.last s n) x.text x.stand
