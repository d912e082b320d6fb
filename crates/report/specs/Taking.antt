-- What a taker of lines reports, one line after another. (Own)
use Rattle.std.specs.Prelude.{◌≡◌, ◌⊎◌, ℕ, List, [], ◌∷◌, Result, Err, OnErr, OnOk}
use Rattle.byte_lines.specs.Faults.{CountsFaults}
use Rattle.byte_lines.specs.declared.sink.SinkFault.{SinkFault}
use Rattle.byte_lines.specs.declared.sink.SinkFault.TheVariants.{WriteFault}
use Rattle.text_model.specs.Words.{Text, line_of}

-- the report after lines, each given by its words; `add` adds one line
abbrev pub with_lines : {T : Type 0} → (T → Text → T) → ℕ → T → List (List Text) → T
with_lines add n t [] = t
with_lines add n t (words ∷ lines) = with_lines add n (add t (line_of n words)) lines

-- the report after no line, a part of the first, or the first and a prefix of the others
abbrev pub IsFront : {T : Type 0} → (T → Text → T) → (T → Text → T → Type 0) → ℕ → T → List (List Text) → T → Type 0
IsFront add IsPart n t [] t' = t' ≡ t
IsFront add IsPart n t (words ∷ lines) t' =
    (t' ≡ t) ⊎ (IsPart t (line_of n words) t') ⊎ (IsFront add IsPart n (add t (line_of n words)) lines t')

-- lines were handed over: the reports before and after, and the counts of faults
pub record HasPut {T : Type 0} (add : T → Text → T) (IsPart : T → Text → T → Type 0) (n : ℕ) (t : T) (lines : List (List Text)) (t' : T) (faults faults' : ℕ) (result : Result (Unit {0}) SinkFault) : Type 0 where
  -- all of them
  pub ok : OnOk result (t' ≡ with_lines add n t lines)
  -- a prefix of them
  pub err : OnErr result (IsFront add IsPart n t lines t')
  pub counts : CountsFaults (result ≡ Err WriteFault) faults faults'
