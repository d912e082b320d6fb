-- What the answer to the next text leaves. (Own)
use Rattle.std.specs.Prelude.{◌≡◌, ◌⊎◌, ◌↔◌, ℕ, ◌≤◌, ◌<◌, ◌++◌, Bool, true, false, List, [], Option, Some, None, Result, Ok, Err, IsTrue}
use Rattle.byte_lines.specs.Faults.{CountsFaults}
use Rattle.byte_lines.specs.Progress.{HasRead}
use Rattle.byte_lines.specs.Reader.{Reader}
use Rattle.byte_lines.specs.declared.lines.LineFault.{LineFault}
use Rattle.byte_lines.specs.declared.lines.LineFault.TheVariants.{ReadFault, TooMuch, NoMemory}
use Rattle.ended_lines.specs.Ended.{has_end}
use Rattle.ended_source.specs.Ended.{IsCalm, IsClosed}

-- a text was passed up to its `end`, or up to the end of the source
abbrev pub IsPassed : Reader → List (Option (List ℕ)) → Type 0
IsPassed r text = IsClosed text ⊎ (IsTrue r.ended × (has_end text ≡ false))

-- the lines of a text that were passed before a fault: none is `end`
pub record IsBroken (r r' : Reader) (text : List (Option (List ℕ))) : Type 0 where
  pub unended : has_end text ≡ false
  pub ahead : r'.ahead ≡ []
  pub goes : r'.ended ≡ false
  pub went : r.ended ≡ false

module _ (IsRight : List (Option (List ℕ)) → Type 0) (bytes : List ℕ) (given : List (Option (List ℕ))) (r r' : Reader) (left : Option (List ℕ)) where
  -- a text was passed and answered
  pub record IsAnswered (answer : Bool) : Type 0 where
    pub text : List (Option (List ℕ))
    pub read : HasRead bytes r' left (given ++ text)
    pub right : (answer ≡ true) ↔ IsRight text
    pub some : text ≡ [] → ⊥
    pub went : r.ended ≡ false
    pub passed : IsPassed r' text
    pub calm : IsCalm r'

  -- no line was left
  pub record IsThrough : Type 0 where
    pub read : HasRead bytes r' left given
    pub ended : IsTrue r'.ended
    pub calm : IsCalm r'

  -- a read failed, or the stream is too long
  pub record IsFailed (within : Type 0) : Type 0 where
    pub text : List (Option (List ℕ))
    pub read : HasRead bytes r' left (given ++ text)
    pub broken : IsBroken r r' text
    pub limit : within

  -- memory ran out
  pub record IsLeft : Type 0 where
    pub text : List (Option (List ℕ))
    pub read : HasRead bytes r' left (given ++ text)
    pub within : r'.taken ≤ r'.stream_max
    pub again : IsTrue r.ended → IsTrue r'.ended

  -- by the answer
  abbrev pub IsNext : Result (Option Bool) LineFault → Type 0
  IsNext (Ok (Some answer)) = IsAnswered answer
  IsNext (Ok None) = IsThrough
  IsNext (Err ReadFault) = IsFailed (r'.taken ≤ r'.stream_max)
  IsNext (Err TooMuch) = IsFailed (r'.stream_max < r'.taken)
  IsNext (Err NoMemory) = IsLeft

-- what it leaves of a reader and its source, whatever the source has
pub record HasNext (IsRight : List (Option (List ℕ)) → Type 0) (r r' : Reader) (left left' : Option (List ℕ)) (failed failed' : ℕ) (result : Result (Option Bool) LineFault) : Type 0 where
  pub next : (bytes : List ℕ) (given : List (Option (List ℕ))) → HasRead bytes r left given → IsNext IsRight bytes given r r' left' result
  pub line_max : r'.line_max ≡ r.line_max
  pub stream_max : r'.stream_max ≡ r.stream_max
  pub calm : (done : Option Bool) → result ≡ Ok done → IsCalm r'
  pub counts : CountsFaults (result ≡ Err ReadFault) failed failed'
