-- Lines in memory that were read up to the first `end`.
use Rattle.std.proofs.Common.{◌≡◌, ℕ, ◌++◌, Bool, false, List, [], ◌∷◌, Option, Some, None, ◌==◌, true, suc, ap, append-nil, arith, drop, eqb-true, length, map, refl, subst, sym, true≢false, ◌∙◌}
use Rattle.std.specs.Global.{Vec}
use Rattle.std.specs.Prelude.{unwrap_or}
use Rattle.checkpoint_model.specs.Resumed.{IsCheckpoint, IsNoCheckpoint}
use Rattle.ended_lines.specs.Ended.{up_to_end}
use Rattle.ended_lines.proofs.Passing.{text_is_first}
use Rattle.line_giver.specs.OfList.{giving_in, texts_of, whole_lines}
use Rattle.resume_loop.specs.Heads.{IsCheckpointOf, IsReadAs, ReadsCheckpoint}
use Rattle.resume_loop.proofs.Ends.{ends_once}
use Rattle.run_model.specs.World.{World}
use Rattle.checkpoint.specs.Only.{IsOfNoOther}

-- ---- lists

-- a line that is not too long is its text
texts_back : (texts : List (List ℕ)) → map (λ (line : Option (List ℕ)). unwrap_or line []) (whole_lines texts) ≡ texts
texts_back [] = refl
texts_back (t ∷ ts) = ap (λ (us : List (List ℕ)). t ∷ us) (texts_back ts)

same_texts : (a b : List (List ℕ)) → whole_lines a ≡ whole_lines b → a ≡ b
same_texts a b same = sym (texts_back a) ∙ ap (map (λ (line : Option (List ℕ)). unwrap_or line [])) same ∙ texts_back b

-- nothing comes behind all lines
nothing_behind : (lines : List (Option (List ℕ))) (rest : List (List ℕ)) → lines ≡ lines ++ whole_lines rest → rest ≡ []
nothing_behind [] [] same = refl
nothing_behind [] (t ∷ ts) same = let n : 0 ≡ suc (length (whole_lines ts)) = ap length same in absurd (omega (arith, n))
nothing_behind (l ∷ ls) rest same = nothing_behind ls rest (ap (λ (t : List (Option (List ℕ))). drop 1 t) same)

-- whether there are lines
pub no_lines : (lines : List (Vec ℕ)) → (length lines == 0) ≡ true → texts_of lines ≡ []
no_lines [] none = refl
no_lines (l ∷ ls) none = let n : suc (length ls) ≡ 0 = eqb-true (suc (length ls)) 0 none in absurd (omega (arith, n))

pub some_lines : (lines : List (Vec ℕ)) → (length lines == 0) ≡ false → texts_of lines ≡ [] → ⊥
some_lines [] some none = true≢false some
some_lines (l ∷ ls) some none = let n : suc (length (texts_of ls)) ≡ 0 = ap length none in omega (arith, n)

-- ---- what was read

-- lines were given, these are left, and this was read of them
abbrev pub Reads : {State : Type 0} → (State → World) → List (List ℕ) → List (List ℕ) → Bool → Option (State × ℕ) → Type 0
Reads world texts rest seen read =
    ReadsCheckpoint world
    (λ (s : List (List ℕ)) before. whole_lines s ≡ before ++ whole_lines texts)
    (λ (s : List (List ℕ)) before. whole_lines s ≡ before ++ whole_lines rest)
    (giving_in texts false)
    (giving_in rest seen)
    read

module _ {State : Type 0} (world : State → World) (texts rest : List (List ℕ)) (seen : Bool) (read : Option (State × ℕ)) (h : Reads world texts rest seen read) where
  -- the lines of a checkpoint were passed, all of them
  all_passed : (w : World) (line : ℕ) → IsCheckpoint texts w line → h.lines ≡ whole_lines texts
  all_passed w line is =
      text_is_first h.lines (whole_lines texts) h.text refl
      ∙ ap (λ (ts : List (List ℕ)). up_to_end (whole_lines ts)) is.text
      ∙ (ends_once w line).front
      ∙ ap whole_lines (sym is.text)

  -- as these lines it is one
  passed_of : (w : World) (line : ℕ) → IsCheckpoint texts w line → IsCheckpointOf h.lines w line
  passed_of w line is = record { texts = texts; whole = all_passed w line is; is = is }

  -- the lines are those that were passed, and those that are left
  passed_and_left : whole_lines texts ≡ h.lines ++ whole_lines rest
  passed_and_left = h.text.passed.of_stream texts [] refl

  -- a checkpoint has nothing behind it
  pub nothing_left : (w : World) (line : ℕ) → IsCheckpoint texts w line → rest ≡ []
  nothing_left w line is =
      nothing_behind (whole_lines texts) rest (passed_and_left ∙ ap (λ (ls : List (Option (List ℕ))). ls ++ whole_lines rest) (all_passed w line is))

  -- what was read of the lines that were passed
  read_is : {r : Option (State × ℕ)} → read ≡ r → IsReadAs world (Some (whole_lines texts)) h.lines r
  read_is same = subst (λ (r : Option (State × ℕ)). IsReadAs world (Some (whole_lines texts)) h.lines r) same h.is

  -- nothing was read
  pub none_read : read ≡ None → IsNoCheckpoint texts
  none_read none w line is = read_is none refl w line (passed_of w line is)

  -- all lines were read
  pub all_read : (x : State) (line : ℕ) → read ≡ Some (x, line) → rest ≡ [] → IsCheckpoint texts (world x) line
  all_read x line some none =
      let cp = (read_is some).0 in
      let same : whole_lines texts ≡ whole_lines cp.texts =
      passed_and_left
      ∙ ap (λ (ts : List (List ℕ)). h.lines ++ whole_lines ts) none
      ∙ append-nil h.lines
      ∙ cp.whole in
      subst (λ (ts : List (List ℕ)). IsCheckpoint ts (world x) line) (sym (same_texts texts cp.texts same)) cp.is

  -- they are of no other World
  pub no_other : (x : State) (line : ℕ) → read ≡ Some (x, line) → IsOfNoOther texts (world x) line
  no_other x line some v l is = (read_is some).1 refl v l (passed_of v l is)
