-- Gathered lines give their text.
use Rattle.std.proofs.Common.{◌≡◌, ℕ, List, [], ◌∷◌, ◌++◌, Option, Result, Ok, Err, refl, sym, ap, subst, ◌∙◌, append_assoc, drop, take, inl, inr}
use Rattle.std.specs.Prelude.{OnErr, OnOk, flat_map}
use Rattle.std.specs.Io.KnownBytes.{append_known}
use Rattle.std.proofs.lemmas.List.{append-nil}
use Rattle.line_runs.specs.Batches.{Gathered, IsFront, IsGatheredPart, TellsAll, TellsPart, with_gathered}
use Rattle.line_runs.proofs.Gathers.{line_told}
use Rattle.line_runs.proofs.Fronts.{front_behind, front_more, front_take, took_both, took_none}
use Rattle.bare_lines.specs.Bare.{bare, bare_part}
use Rattle.bare_lines.proofs.Joined.{bare_joined}
use Rattle.bare_lines.specs.of_report.Taking as taking
use Rattle.bare_lines.specs.of_text_forms.Lines.{joined, text_of_bare}
use Rattle.bare_lines.specs.of_text_model.Runs.{text_of_lines}
use Rattle.bare_lines.specs.of_text_model.Words.{Text, line_of}
use Rattle.gathered_lines.specs.Through.{HaveWords, IsLinePart, Waiting, with_line}

abbrev pub All : Gathered → Gathered → List ℕ → Type 0
All g g' text = TellsAll g.taken g'.taken g.batch g'.batch text

abbrev pub Part : Gathered → Gathered → List ℕ → Type 0
Part g g' text = TellsPart g.taken g'.taken g.batch g'.batch text

-- no lines, no text
pub none_told : (g : Gathered) → All g g []
none_told g = record { handed = []; took = took_none g.taken; all = sym (append-nil g.batch) }

pub no_part : (g : Gathered) (text : List ℕ) → Part g g text
no_part g text = record { handed = []; took = took_none g.taken; front = (text, refl) }

-- a text, and then another
pub both_told : (g m g' : Gathered) (a b : List ℕ) → All g m a → All m g' b → All g g' (a ++ b)
both_told g m g' a b first second = record {
  handed = first.handed ++ second.handed;
  took = second.took ∙ ap (λ (t : Option (List ℕ)). append_known t second.handed) first.took ∙ took_both g.taken first.handed second.handed;
  all =
      append_assoc first.handed second.handed g'.batch
      ∙ ap (λ (t : List ℕ). first.handed ++ t) second.all
      ∙ sym (append_assoc first.handed m.batch b)
      ∙ ap (λ (t : List ℕ). t ++ b) first.all
      ∙ append_assoc g.batch a b;
}

pub then_part : (g m g' : Gathered) (a b : List ℕ) → All g m a → Part m g' b → Part g g' (a ++ b)
then_part g m g' a b first second = record {
  handed = first.handed ++ second.handed;
  took = second.took ∙ ap (λ (t : Option (List ℕ)). append_known t second.handed) first.took ∙ took_both g.taken first.handed second.handed;
  front =
      let front : IsFront (first.handed ++ (second.handed ++ g'.batch)) (first.handed ++ (m.batch ++ b)) = front_behind first.handed (second.handed ++ g'.batch) (m.batch ++ b) second.front in
      subst (λ (t : List ℕ). IsFront t (g.batch ++ (a ++ b))) (sym (append_assoc first.handed second.handed g'.batch))
      (subst (λ (t : List ℕ). IsFront (first.handed ++ (second.handed ++ g'.batch)) t) (sym (append_assoc first.handed m.batch b) ∙ ap (λ (t : List ℕ). t ++ b) first.all ∙ append_assoc g.batch a b) front);
}

pub more_part : (g g' : Gathered) (a b : List ℕ) → Part g g' a → Part g g' (a ++ b)
more_part g g' a b part = record {
  handed = part.handed;
  took = part.took;
  front = front_more (part.handed ++ g'.batch) (g.batch ++ a) (g.batch ++ (a ++ b)) part.front (b, sym (append_assoc g.batch a b));
}

line_part : (g g' : Gathered) (line : List ℕ) → IsGatheredPart g line g' → Part g g' line
line_part g g' line (inl (n, is)) =
    subst (λ (x : Gathered). Part g x line) (sym is)
    (record {
      handed = take n g.batch;
      took = refl;
      front = subst (λ (t : List ℕ). IsFront t (g.batch ++ line)) (sym (append-nil (take n g.batch))) (front_more (take n g.batch) g.batch (g.batch ++ line) (front_take n g.batch) (line, refl));
    })
line_part g g' line (inr is) = subst (λ (x : Gathered). Part g x line) (sym is) (no_part g line)

-- ---- lines that are gathered, each as it is or cut

module _ (cut : List ℕ → List ℕ) where
  abbrev add : Waiting → List ℕ → Waiting
  add w line = with_line w (cut line)

  abbrev IsCutPart : Waiting → List ℕ → Waiting → Type 0
  IsCutPart w line w' = IsLinePart w (cut line) w'

  abbrev cut_text : ℕ → List (List Text) → Text
  cut_text n lines = flat_map (λ words. cut (line_of n words)) lines

  lines_told : (n : ℕ) (w : Waiting) (lines : List (List Text)) → All w.gathered (taking.with_lines add n w lines).gathered (cut_text n lines)
  lines_told n w [] = none_told w.gathered
  lines_told n w (words ∷ lines) =
      both_told w.gathered (with_gathered w.gathered (cut (line_of n words))) (taking.with_lines add n (add w (line_of n words)) lines).gathered (cut (line_of n words)) (cut_text n lines)
      (line_told w.gathered (cut (line_of n words))) (lines_told n (add w (line_of n words)) lines)

  cut_all : (n : ℕ) (w w' : Waiting) (lines : List (List Text)) → w' ≡ taking.with_lines add n w lines → All w.gathered w'.gathered (cut_text n lines)
  cut_all n w w' lines is = subst (λ (x : Waiting). All w.gathered x.gathered (cut_text n lines)) (sym is) (lines_told n w lines)

  cut_part : (n : ℕ) (w w' : Waiting) (lines : List (List Text)) → taking.IsFront add IsCutPart n w lines w' → Part w.gathered w'.gathered (cut_text n lines)
  cut_part n w w' [] is = subst (λ (x : Waiting). Part w.gathered x.gathered []) (sym is) (no_part w.gathered [])
  cut_part n w w' (words ∷ lines) (inl is) = subst (λ (x : Waiting). Part w.gathered x.gathered (cut (line_of n words) ++ cut_text n lines)) (sym is) (no_part w.gathered (cut (line_of n words) ++ cut_text n lines))
  cut_part n w w' (words ∷ lines) (inr (inl part)) = more_part w.gathered w'.gathered (cut (line_of n words)) (cut_text n lines) (line_part w.gathered w'.gathered (cut (line_of n words)) part.0)
  cut_part n w w' (words ∷ lines) (inr (inr later)) =
      then_part w.gathered (with_gathered w.gathered (cut (line_of n words))) w'.gathered (cut (line_of n words)) (cut_text n lines) (line_told w.gathered (cut (line_of n words)))
      (cut_part n (add w (line_of n words)) w' lines later)

  -- the references stay
  abbrev Same : Waiting → Waiting → Type 0
  Same w w' = (w'.batch_name ≡ w.batch_name) × (w'.sink_name ≡ w.sink_name)

  all_same : (n : ℕ) (w : Waiting) (lines : List (List Text)) → Same w (taking.with_lines add n w lines)
  all_same n w [] = (refl, refl)
  all_same n w (words ∷ lines) = all_same n (add w (line_of n words)) lines

  front_same : (n : ℕ) (w w' : Waiting) (lines : List (List Text)) → taking.IsFront add IsCutPart n w lines w' → Same w w'
  front_same n w w' [] is = subst (λ (x : Waiting). Same w x) (sym is) (refl, refl)
  front_same n w w' (words ∷ lines) (inl is) = subst (λ (x : Waiting). Same w x) (sym is) (refl, refl)
  front_same n w w' (words ∷ lines) (inr (inl part)) = (part.1, part.2)
  front_same n w w' (words ∷ lines) (inr (inr later)) = front_same n (add w (line_of n words)) w' lines later

  cut_names : {E : Type 0} (n : ℕ) (w w' : Waiting) (lines : List (List Text)) (r : Result (Unit {0}) E) → OnOk r (w' ≡ taking.with_lines add n w lines)
      → OnErr r (taking.IsFront add IsCutPart n w lines w') → (w'.batch_name ≡ w.batch_name) × (w'.sink_name ≡ w.sink_name)
  cut_names n w w' lines (Ok done) all part = subst (λ (x : Waiting). Same w x) (sym all) (all_same n w lines)
  cut_names n w w' lines (Err e) all part = front_same n w w' lines part

-- ---- each as it is

pub told_all : (n : ℕ) (w w' : Waiting) (lines : List (List Text)) → w' ≡ taking.with_lines with_line n w lines
    → TellsAll w.gathered.taken w'.gathered.taken w.gathered.batch w'.gathered.batch (text_of_lines n lines)
told_all n w w' lines is = cut_all (λ line. line) n w w' lines is

pub told_part : (n : ℕ) (w w' : Waiting) (lines : List (List Text)) → taking.IsFront with_line IsLinePart n w lines w'
    → TellsPart w.gathered.taken w'.gathered.taken w.gathered.batch w'.gathered.batch (text_of_lines n lines)
told_part n w w' lines front = cut_part (λ line. line) n w w' lines front

pub names_stay : {E : Type 0} (n : ℕ) (w w' : Waiting) (lines : List (List Text)) (r : Result (Unit {0}) E) → OnOk r (w' ≡ taking.with_lines with_line n w lines)
    → OnErr r (taking.IsFront with_line IsLinePart n w lines w') → (w'.batch_name ≡ w.batch_name) × (w'.sink_name ≡ w.sink_name)
names_stay n w w' lines r all part = cut_names (λ line. line) n w w' lines r all part

-- ---- each without its number

-- so have two lists
pub have_both : (xs ys : List (List Text)) → HaveWords xs → HaveWords ys → HaveWords (xs ++ ys)
have_both [] ys have more = more
have_both ([] ∷ xs) ys have more = absurd have
have_both ((word ∷ words) ∷ xs) ys have more = have_both xs ys have more

bare_text : (lines : List (List Text)) → HaveWords lines → cut_text (λ line. drop 2 line) 0 lines ≡ text_of_bare lines
bare_text [] have = refl
bare_text ([] ∷ lines) have = absurd have
bare_text ((word ∷ words) ∷ lines) have =
    ap (λ (t : List ℕ). t ++ cut_text (λ line. drop 2 line) 0 lines) (bare_joined word words)
    ∙ ap (λ (t : List ℕ). (joined (word ∷ words) ++ 10 ∷ []) ++ t) (bare_text lines have)

pub bare_all : (w w' : Waiting) (lines : List (List Text)) → HaveWords lines → w' ≡ taking.with_lines (bare with_line) 0 w lines
    → TellsAll w.gathered.taken w'.gathered.taken w.gathered.batch w'.gathered.batch (text_of_bare lines)
bare_all w w' lines have is =
    subst (λ (t : List ℕ). All w.gathered w'.gathered t) (bare_text lines have) (cut_all (λ line. drop 2 line) 0 w w' lines is)

pub bare_front : (w w' : Waiting) (lines : List (List Text)) → HaveWords lines → taking.IsFront (bare with_line) (bare_part IsLinePart) 0 w lines w'
    → TellsPart w.gathered.taken w'.gathered.taken w.gathered.batch w'.gathered.batch (text_of_bare lines)
bare_front w w' lines have front =
    subst (λ (t : List ℕ). Part w.gathered w'.gathered t) (bare_text lines have) (cut_part (λ line. drop 2 line) 0 w w' lines front)

pub bare_names : {E : Type 0} (w w' : Waiting) (lines : List (List Text)) (r : Result (Unit {0}) E) → OnOk r (w' ≡ taking.with_lines (bare with_line) 0 w lines)
    → OnErr r (taking.IsFront (bare with_line) (bare_part IsLinePart) 0 w lines w') → (w'.batch_name ≡ w.batch_name) × (w'.sink_name ≡ w.sink_name)
bare_names w w' lines r all part = cut_names (λ line. drop 2 line) 0 w w' lines r all part

-- whatever a fault is, this holds
pub on_err_any : {V E P : Type 0} (r : Result V E) → P → OnErr r P
on_err_any (Ok v) p = tt
on_err_any (Err e) p = p
