-- What the lines that a reader gave say, by the bytes that came.
use Rattle.std.proofs.Common.{◌≡◌, ℕ, ◌+◌, ◌<◌, ◌≤◌, ◌⊎◌, false, List, [], ◌++◌, Option, Some, length, drop, sym, ap, subst, ◌∙◌, append_assoc, arith, inl, inr}
use Rattle.std.specs.Prelude.{IsTrue}
use Rattle.std.proofs.Math.Seq.{drop-append_seam}
use Rattle.std.proofs.lemmas.List.{append-nil, append_cancel_right, take_all}
use Rattle.byte_lines.specs.Laws.{BreakGivesWhole, EndGivesAll, GivesFirst, NothingBeyond}
use Rattle.byte_lines.specs.Pieces.{lines_of, whole_of}
use Rattle.byte_lines.specs.Progress.{HasRead}
use Rattle.byte_lines.specs.Reader.{Reader, heeded, part_max}
use Rattle.line_runs.specs.Plays.{records_from}
use Rattle.line_runs.specs.Runs.{ReadTo, Run, StandFirst, records_in}
use Rattle.line_runs.proofs.Fronts.{records_both}

module _ {Said Stand Cause : Type 0} (run : Run Said Stand Cause) (bytes : List ℕ) (given more : List (Option (List ℕ))) (r : Reader) (left : Option (List ℕ))
    (read : HasRead bytes r left (given ++ more)) (passed : run.passed ≡ length given) (line_max : r.line_max ≡ run.line_max) (stream_max : r.stream_max ≡ run.stream_max) where
  abbrev records : List (ℕ × Said)
  records = records_from run.play.says (run.passed + 1) more

  records_are : (xs : List ℕ) (later : List (Option (List ℕ))) → lines_of r.line_max xs ≡ (given ++ more) ++ later
      → records_in run xs ≡ records ++ records_from run.play.says ((run.passed + 1) + length more) later
  records_are xs later lines =
      ap (λ (ls : List (Option (List ℕ))). records_from run.play.says (run.passed + 1) ls)
      (ap (λ n. drop n (lines_of run.line_max xs)) passed
      ∙ ap (λ n. drop (length given) (lines_of n xs)) (sym line_max)
      ∙ ap (λ (ls : List (Option (List ℕ))). drop (length given) ls) (lines ∙ append_assoc given more later)
      ∙ drop-append_seam given (more ++ later))
      ∙ records_both run.play.says (run.passed + 1) more later

  records_all : (xs : List ℕ) → lines_of r.line_max xs ≡ given ++ more → records_in run xs ≡ records
  records_all xs lines = records_are xs [] (lines ∙ sym (append-nil (given ++ more))) ∙ append-nil records

  all_heeded : r.taken ≤ r.stream_max → heeded r.stream_max read.came ≡ read.came
  all_heeded within = take_all r.stream_max read.came (omega (arith, within, read.taken))

  begins_by : (came : List ℕ)
      → ((later : List (Option (List ℕ))) × (lines_of r.line_max (whole_of came) ≡ (given ++ more) ++ later)) ⊎ ((read.rest ≡ []) × (lines_of r.line_max came ≡ given ++ more))
      → StandFirst run came read.rest records
  begins_by came (inl h) = inl (records_from run.play.says ((run.passed + 1) + length more) h.0, records_are (whole_of came) h.0 h.1)
  begins_by came (inr h) = inr (h.0, [], records_all came h.1 ∙ sym (append-nil records))

  pub begins : GivesFirst → r.taken ≤ r.stream_max → StandFirst run read.came read.rest records
  begins law within =
      begins_by read.came (subst (λ (came : List ℕ).
      ((later : List (Option (List ℕ))) × (lines_of r.line_max (whole_of came) ≡ (given ++ more) ++ later)) ⊎ ((read.rest ≡ []) × (lines_of r.line_max came ≡ given ++ more)))
      (all_heeded within) (law bytes r left (given ++ more) read))

  -- where reading broke off
  pub whole : BreakGivesWhole → r.ended ≡ false → r.ahead ≡ [] → records_in run (whole_of (heeded run.stream_max read.came)) ≡ records
  whole law going looked =
      ap (λ n. records_in run (whole_of (heeded n read.came))) (sym stream_max)
      ∙ records_all (whole_of (heeded r.stream_max read.came)) (sym (law bytes r left (given ++ more) read going looked))

  pub whole_came : BreakGivesWhole → r.ended ≡ false → r.ahead ≡ [] → r.taken ≤ r.stream_max → records_in run (whole_of read.came) ≡ records
  whole_came law going looked within =
      ap (λ (came : List ℕ). records_in run (whole_of came)) (sym (all_heeded within))
      ∙ records_all (whole_of (heeded r.stream_max read.came)) (sym (law bytes r left (given ++ more) read going looked))

  -- at the end
  pub record IsAll : Type 0 where
    pub none : read.rest ≡ []
    pub all : records_in run read.came ≡ records
    pub many : length (lines_of run.line_max read.came) ≡ r.number

  pub all_read : EndGivesAll → IsTrue r.ended → r.taken ≤ r.stream_max → IsAll
  all_read law ended within =
      let h = law bytes r left (given ++ more) read ended within in
      let lines : lines_of r.line_max read.came ≡ given ++ more = ap (λ (xs : List ℕ). lines_of r.line_max xs) h.1 ∙ sym h.0 in record {
        none = h.2;
        all = records_all read.came lines;
        many = ap (λ n. length (lines_of n read.came)) (sym line_max) ∙ ap length lines ∙ sym read.numbered;
      }

  -- nothing came beyond the last line
  pub read_to : NothingBeyond → r.begun ≡ Some [] → length r.ahead < part_max → r.taken ≤ r.stream_max → ReadTo run read.came read.rest records
  read_to law begun less within =
      let h = law bytes r left (given ++ more) read begun within in record {
        upto = h.0;
        ahead = r.ahead;
        cut = h.1;
        less = less;
        whole = h.3;
        all = sym (records_all h.0 (sym h.2));
      }

  -- the same of whatever came and is left, by what the source tells
  pub read_to_told : ReadTo run read.came read.rest records → (came rest : List ℕ) → bytes ≡ came ++ rest → left ≡ Some rest → ReadTo run came rest records
  read_to_told to came rest cut told =
      let ends : read.rest ≡ rest = let both : Some read.rest ≡ Some rest = sym read.told ∙ told in cc in
      let same : read.came ≡ came =
      append_cancel_right read.came came rest (ap (λ (l : List ℕ). read.came ++ l) (sym ends) ∙ sym read.cut ∙ cut) in
      subst (λ (l : List ℕ). ReadTo run came l records) ends (subst (λ (l : List ℕ). ReadTo run l read.rest records) same to)
