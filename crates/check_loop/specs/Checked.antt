-- What a run that answers texts wrote, by how it ended. (Own)
use Rattle.std.specs.Prelude.{◌≡◌, ◌⊎◌, ◌↔◌, ℕ, ◌<◌, ◌++◌, Bool, true, List, [], ◌∷◌, Option, Some, Result, Ok, Err, length, take}
use Rattle.std.specs.List.{AllZip}
use Rattle.std.specs.Io.KnownBytes.{append_known}
use Rattle.byte_lines.specs.Pieces.{lines_of, whole_of}
use Rattle.byte_lines.specs.Reader.{heeded, part_max}
use Rattle.certificate_model.specs.Checked.{answers_text}
use Rattle.text_model.specs.Words.{Text}
use Rattle.tx_records.specs.declared.limits.TheConstants.{LINE_LIMIT, STREAM_LIMIT}
use Rattle.check_loop.specs.declared.fault.CheckFault.{CheckFault}
use Rattle.check_loop.specs.declared.fault.CheckFault.TheVariants as faults
use Rattle.check_loop.specs.Texts.{ended_texts, texts_in}

-- a prefix of the text was taken
abbrev pub IsPartTaken : Option (List ℕ) → Text → Option (List ℕ) → Type 0
IsPartTaken taken text taken' = (n : ℕ) × (taken' ≡ append_known taken (take n text))

-- the first text is a prefix of the second
abbrev pub IsFront : Text → Text → Type 0
IsFront front text = (rest : Text) × (text ≡ front ++ rest)

module _ (IsRight : List (Option Text) → Type 0) where
  -- yes to each right text, no to each other
  abbrev pub AreAnswers : List (List (Option Text)) → List Bool → Type 0
  AreAnswers texts answers = AllZip (λ text answer. (answer ≡ true) ↔ IsRight text) texts answers

  -- the answers to these texts were written, numbered from 1
  pub record HasAnswered (texts : List (List (Option Text))) (written : Text) : Type 0 where
    pub answers : List Bool
    pub are : AreAnswers texts answers
    pub text : written ≡ answers_text 1 answers

  -- a prefix of the answers to the first of these texts was written
  pub record HasBegun (texts : List (List (Option Text))) (written : Text) : Type 0 where
    pub first : List (List (Option Text))
    pub later : List (List (Option Text))
    pub cut : texts ≡ first ++ later
    pub text : Text
    pub answered : HasAnswered first text
    pub front : IsFront written text

  -- a prefix of the answers to the texts whose `end` came whole
  -- or, if no byte is left, to all texts
  abbrev pub IsPart : List ℕ → List ℕ → Text → Type 0
  IsPart came rest written =
      HasBegun (ended_texts (lines_of LINE_LIMIT (whole_of came))) written ⊎ ((rest ≡ []) × HasBegun (texts_in (lines_of LINE_LIMIT came)) written)

  -- writing broke off within the answer to the last of these texts, and nothing came beyond the
  -- part that has its last line
  pub record BreaksOff (came written : List ℕ) : Type 0 where
    pub upto : List ℕ
    pub ahead : List ℕ
    pub cut : came ≡ upto ++ ahead
    pub less : length ahead < part_max
    pub before : List (List (Option Text))
    pub last : List (Option Text)
    pub texts : texts_in (lines_of LINE_LIMIT upto) ≡ before ++ last ∷ []
    pub first : Text
    pub answered : HasAnswered before first
    pub after : IsFront first written
    pub all : Text
    pub with_last : HasAnswered (before ++ last ∷ []) all
    pub within : IsFront written all

  -- what each result says: of the source `came` was read, `rest` is left, `written` was written
  abbrev pub Ends : List ℕ → List ℕ → Text → Result (Unit {0}) CheckFault → Type 0
  Ends came rest written (Ok done) = (rest ≡ []) × HasAnswered (texts_in (lines_of LINE_LIMIT came)) written
  Ends came rest written (Err faults.ReadFault) = HasAnswered (ended_texts (lines_of LINE_LIMIT (whole_of came))) written
  -- the lines are those within the limit of the stream
  Ends came rest written (Err faults.TooMuch) = HasAnswered (ended_texts (lines_of LINE_LIMIT (whole_of (heeded STREAM_LIMIT came)))) written
  Ends came rest written (Err faults.WriteFault) = IsPart came rest written × BreaksOff came written
  Ends came rest written (Err faults.NoMemory) = IsPart came rest written

  -- how a run ended, if the bytes of its source are known: the sink took what was written
  pub record IsChecked (bytes : List ℕ) (left had has : Option (List ℕ)) (result : Result (Unit {0}) CheckFault) : Type 0 where
    pub came : List ℕ
    pub rest : List ℕ
    pub cut : bytes ≡ came ++ rest
    pub told : left ≡ Some rest
    pub written : Text
    pub wrote : has ≡ append_known had written
    pub ending : Ends came rest written result
    -- the result is TooMuch if and only if the stream went on past its limit
    pub too_much : (result ≡ Err faults.TooMuch) ↔ (STREAM_LIMIT < length came)
