-- Streams that differ only in positive pulses, and texts that differ only in counted numbers. (Own)
use Rattle.std.specs.Prelude.{◌≡◌, ◌⊎◌, ℕ, List, Option, Some, None, flat_map}
use Rattle.std.specs.List.{AllZip}
use Rattle.tx_records.specs.declared.record.Reading.{Reading}
use Rattle.tx_records.specs.declared.record.Reading.TheVariants.{Read}
use Rattle.run_model.specs.Laws as records
use Rattle.text_model.specs.Replies.{words_of_block}
use Rattle.text_model.specs.Words.{Text, line_of}

-- ---- what is read

-- two readings that differ at most in a positive pulse
abbrev pub IsSameButPulse : Reading → Reading → Type 0
IsSameButPulse (Read r) (Read s) = records.IsSameButPulse r s
IsSameButPulse x y = x ≡ y

-- two readings of lines of the same number that differ at most in a positive pulse
abbrev pub IsReadSameButPulse : ℕ × Reading → ℕ × Reading → Type 0
IsReadSameButPulse x y = (x.0 ≡ y.0) × IsSameButPulse x.1 y.1

-- ---- what is written

-- the words of two lines of blocks with the same slot, epoch and number of frozen entries
-- their numbers of counted entries may differ
pub record AreOfOneBlock (x y : List Text) : Type 0 where
  pub slot : ℕ
  pub epoch : ℕ
  pub entries : ℕ
  pub counted : ℕ
  pub other : ℕ
  pub first : x ≡ words_of_block slot epoch counted entries
  pub second : y ≡ words_of_block slot epoch other entries

-- the words of two lines that differ at most in the counted number: equal, or of one block
abbrev pub IsSameButCounted : List Text → List Text → Type 0
IsSameButCounted x y = (x ≡ y) ⊎ AreOfOneBlock x y

-- a line of a text: the number of the record's line, and the words
abbrev pub Line : Type 0
Line = ℕ × List Text

-- two lines of the same number that differ at most in the counted number
abbrev pub IsLineSameButCounted : Line → Line → Type 0
IsLineSameButCounted x y = (x.0 ≡ y.0) × IsSameButCounted x.1 y.1

-- the bytes of lines
abbrev pub text_of : List Line → Text
text_of lines = flat_map (λ (l : Line). line_of l.0 l.1) lines

-- two texts that are the same except for counted numbers: their lines are, one by one
pub record IsTextSameButCounted (s t : Text) : Type 0 where
  pub lines : List Line
  pub others : List Line
  pub first : s ≡ text_of lines
  pub second : t ≡ text_of others
  pub alike : AllZip IsLineSameButCounted lines others

-- two runs that both have no text, or texts that are the same except for counted numbers
abbrev pub AreAlikeButCounted : Option Text → Option Text → Type 0
AreAlikeButCounted None None = Unit {0}
AreAlikeButCounted None (Some t) = ⊥
AreAlikeButCounted (Some s) None = ⊥
AreAlikeButCounted (Some s) (Some t) = IsTextSameButCounted s t
