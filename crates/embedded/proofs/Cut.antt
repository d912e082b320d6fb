-- The lines of a text, of which none is too long, are the texts that were read of it.
use Rattle.std.proofs.Common.{◌↔◌, ◌<◌, ◌≤◌, IsTrue, Result, Ok, Err, append-nil, arith, ◌≡◌, ℕ, ◌++◌, true, false, List, [], ◌∷◌, Option, Some, None, ap, map, option_map, refl, subst, sym, true≢false, ◌∙◌}
use Rattle.std.specs.List.{list_any}
use Rattle.std.specs.Prelude.{IfOk, is_none, unwrap_or}
use Rattle.line_giver.specs.OfList.{whole_lines}
use Rattle.text_model.specs.Words.{Text}
use Rattle.byte_lines.specs.Answers.{line_given}
use Rattle.byte_lines.specs.declared.lines.Line.TheVariants as lines
use Rattle.byte_lines.specs.Laws.{EndGivesAll, GivesFirstOfAll}
use Rattle.byte_lines.specs.Pieces.{lines_of}
use Rattle.byte_lines.specs.Progress.{HasRead}
use Rattle.byte_lines.specs.Reader.{Reader}
use Rattle.byte_lines.specs.declared.lines.Line.{Line}
use Rattle.byte_lines.specs.declared.lines.LineFault.{LineFault}
use Rattle.byte_lines.specs.declared.lines.LineFault.TheVariants.{TooMuch}
use Rattle.std.specs.Global.{Vec}
use Rattle.tx_records.specs.declared.limits.TheConstants.{LINE_LIMIT}
use Rattle.line_giver.specs.OfList.{texts_of}
use Rattle.embedded.specs.Only as only
use Rattle.checkpoint_model.specs.Resumed.{IsCheckpoint, IsNoCheckpoint}
use Rattle.resume_loop.specs.Heads.{IsNoCheckpointOf}
use Rattle.resume_loop.specs.Resumed.{lines_in}
use Rattle.run_model.specs.World.{World}
use Rattle.embedded.specs.Resumed.{BeginsAt, IsCut, Resumes}
use Rattle.embedded.specs.declared.fault.CheckpointFault.{CheckpointFault}
use Rattle.embedded.specs.declared.fault.CheckpointFault.TheVariants as faults

-- a line that is not too long is its text
texts_back : (texts : List Text) → map (λ (line : Option Text). unwrap_or line []) (whole_lines texts) ≡ texts
texts_back [] = refl
texts_back (t ∷ ts) = ap (λ (us : List Text). t ∷ us) (texts_back ts)

same_texts : (a b : List Text) → whole_lines a ≡ whole_lines b → a ≡ b
same_texts a b same = sym (texts_back a) ∙ ap (map (λ (line : Option Text). unwrap_or line [])) same ∙ texts_back b

-- none of them is too long
none_long : (texts : List Text) → list_any is_none (whole_lines texts) ≡ false
none_long [] = refl
none_long (t ∷ ts) = none_long ts

-- one is
one_long : (texts : List Text) (later : List (Option Text)) → list_any is_none ((whole_lines texts ++ None ∷ []) ++ later) ≡ true
one_long [] later = refl
one_long (t ∷ ts) later = one_long ts later

pub too_long : (text : List ℕ) (before : List Text) (later : List (Option Text)) → lines_in text ≡ (whole_lines before ++ None ∷ []) ++ later → IsCut text None
too_long text before later same lines whole =
    true≢false (sym (one_long before later) ∙ ap (list_any is_none) (sym same ∙ whole) ∙ none_long lines)

-- ---- as a checkpoint

module _ (text : List ℕ) (lines : List Text) (cut : IsCut text (Some lines)) where
  pub begins_at : (w : World) (line : ℕ) → IsCheckpoint lines w line → only.IsOfNoOther lines w line → BeginsAt text (record { world = Some w; line = line; text = [] })
  begins_at w line is no_other = record {
    world = w;
    line = line;
    is = record { texts = lines; whole = cut; is = is };
    only = λ v l other. no_other v l (subst (λ (ls : List Text). IsCheckpoint ls v l) (same_texts other.texts lines (sym other.whole ∙ cut)) other.is);
    stands = refl;
  }

  pub begins_none : IsNoCheckpoint lines → IsNoCheckpointOf (lines_in text)
  begins_none none w line is = none w line (subst (λ (ls : List Text). IsCheckpoint ls w line) (same_texts is.texts lines (sym is.whole ∙ cut)) is.is)

-- a line that is too long is in no checkpoint
pub long_is_none : (text : List ℕ) → IsCut text None → IsNoCheckpointOf (lines_in text)
long_is_none text long w line is = long is.texts is.whole

-- what a state of these lines says of the text
pub resumes_with : {State : Type 0} (world : State → World) (text : List ℕ) (lines : List Text) → IsCut text (Some lines) → (result : Result (State × ℕ) CheckpointFault)
    → IfOk result (λ r. IsCheckpoint lines (world r.0) r.1) → IfOk result (λ r. only.IsOfNoOther lines (world r.0) r.1)
    → IfOk result (λ r. Resumes text (Ok (record { world = Some (world r.0); line = r.1; text = [] })))
resumes_with world text lines cut (Ok r) is no_other = begins_at text lines cut (world r.0) r.1 is no_other
resumes_with world text lines cut (Err fault) is no_other = tt

-- the lines that were read, as they are handed on
pub cut_by : (text : List ℕ) (read : Option (Vec (Vec ℕ))) (lines : Vec (Vec ℕ)) (given : List (Vec ℕ)) → read ≡ Some lines → given ≡ lines.items
    → IsCut text (option_map (λ (ls : Vec (Vec ℕ)). texts_of ls.items) read) → IsCut text (Some (texts_of given))
cut_by text read lines given is same cut =
    subst (λ (ls : List (Vec ℕ)). IsCut text (Some (texts_of ls))) (sym same) (subst (λ (r : Option (Vec (Vec ℕ))). IsCut text (option_map (λ (ls : Vec (Vec ℕ)). texts_of ls.items) r)) is cut)

pub none_by : (text : List ℕ) (read : Option (Vec (Vec ℕ))) → read ≡ None → IsCut text (option_map (λ (ls : Vec (Vec ℕ)). texts_of ls.items) read) → IsCut text None
none_by text read is cut = subst (λ (r : Option (Vec (Vec ℕ))). IsCut text (option_map (λ (ls : Vec (Vec ℕ)). texts_of ls.items) r)) is cut

-- no ledger begins with the fault
pub fault_is : (text : List ℕ) (fault : CheckpointFault) → (fault ≡ faults.Bad → IsNoCheckpointOf (lines_in text)) → Resumes text (Err fault)
fault_is text faults.Bad bad = bad refl
fault_is text faults.NoMemory bad = tt

-- ---- by a reader

-- the answer of a line
abbrev pub given : Line → Result Line LineFault
given line = Ok line

-- the stream is not over its limit
within : (most taken : ℕ) (line : Line) → ((given line ≡ Err TooMuch) ↔ (most < taken)) → taken ≤ most
within most taken line over =
    let not : most < taken → ⊥ = λ less. (let same = over.1 less in cc) in
    omega (arith, not)

-- the lines that a reader gave before one that is too long
pub long_cut : (text : List ℕ) (r : Reader) (left : Option (List ℕ)) (before : List Text) (line : Line) → line ≡ lines.TooLong → GivesFirstOfAll
    → HasRead text r left (whole_lines before ++ line_given (given line) r) → r.line_max ≡ LINE_LIMIT → ((given line ≡ Err TooMuch) ↔ (r.stream_max < r.taken)) → IsCut text None
long_cut text r left before line is law read max over =
    let same : HasRead text r left (whole_lines before ++ None ∷ []) = subst (λ (l : Line). HasRead text r left (whole_lines before ++ line_given (given l) r)) is read in
    let first = law text r left (whole_lines before ++ None ∷ []) same (within r.stream_max r.taken line over) in
    too_long text before first.0 (subst (λ (m : ℕ). lines_of m text ≡ (whole_lines before ++ None ∷ []) ++ first.0) max first.1)

-- and before its end
pub whole_cut : (text : List ℕ) (r : Reader) (left : Option (List ℕ)) (before : List Text) (line : Line) → line ≡ lines.End → EndGivesAll
    → HasRead text r left (whole_lines before ++ line_given (given line) r) → r.line_max ≡ LINE_LIMIT → (given line ≡ Ok lines.End → IsTrue r.ended) → ((given line ≡ Err TooMuch) ↔ (r.stream_max < r.taken)) → IsCut text (Some before)
whole_cut text r left before line is law read max end over =
    let same : HasRead text r left (whole_lines before ++ []) = subst (λ (l : Line). HasRead text r left (whole_lines before ++ line_given (given l) r)) is read in
    let all = law text r left (whole_lines before ++ []) same (end (ap given is)) (within r.stream_max r.taken line over) in
    subst (λ (m : ℕ). lines_of m text ≡ whole_lines before) max (sym all.0 ∙ append-nil (whole_lines before))

-- one more
one_more : (ls : List (Vec ℕ)) (line : Vec ℕ) → whole_lines (texts_of (ls ++ line ∷ [])) ≡ whole_lines (texts_of ls) ++ Some line.items ∷ []
one_more [] line = refl
one_more (l ∷ ls) line = ap (λ (rest : List (Option Text)). Some l.items ∷ rest) (one_more ls line)

pub read_more : (text : List ℕ) (r : Reader) (left : Option (List ℕ)) (ls ls' : List (Vec ℕ)) (v : Vec ℕ) (line : Line) → line ≡ lines.Whole
    → HasRead text r left (whole_lines (texts_of ls) ++ line_given (given line) r) → ls' ≡ ls ++ v ∷ [] → v.items ≡ r.text → HasRead text r left (whole_lines (texts_of ls'))
read_more text r left ls ls' v line is read pushed same =
    subst (λ (g : List (Option Text)). HasRead text r left g)
    (ap (λ (l : Line). whole_lines (texts_of ls) ++ line_given (given l) r) is
    ∙ ap (λ (t : Text). whole_lines (texts_of ls) ++ Some t ∷ []) (sym same)
    ∙ sym (one_more ls v)
    ∙ ap (λ (all : List (Vec ℕ)). whole_lines (texts_of all)) (sym pushed))
    read
