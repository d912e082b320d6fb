-- How a run of `resume` ended, by what was read up to the first `end`.
use Rattle.std.proofs.Common.{◌≡◌, ◌⊎◌, ◌↔◌, ℕ, ◌<◌, ◌≤◌, ◌++◌, false, List, [], Option, Some, None, Ok, Err, IsTrue, ap, arith, inl, inr, length, refl, subst, sym, ◌∙◌}
use Rattle.std.proofs.lemmas.List.{append-nil, take_all}
use Rattle.byte_lines.specs.Laws.{BreakGivesWhole, EndGivesAll, GivesFirst, GivesFirstOfAll}
use Rattle.byte_lines.specs.Pieces.{lines_of, whole_of}
use Rattle.byte_lines.specs.Progress.{HasRead}
use Rattle.byte_lines.specs.Reader.{Reader, heeded}
use Rattle.byte_lines.specs.declared.lines.LineFault.{LineFault}
use Rattle.byte_lines.specs.declared.lines.LineFault.TheVariants.{ReadFault, TooMuch, NoMemory}
use Rattle.ended_lines.specs.Ended.{has_end}
use Rattle.line_runs.specs.Runs.{IsRunOf, Run}
use Rattle.line_runs.specs.Turns.{fault_of_line}
use Rattle.line_runs.specs.declared.fault.RunFault.TheVariants as faults
use Rattle.run_model.specs.World.{World}
use Rattle.text_model.specs.Words.{Text}
use Rattle.tx_records.specs.declared.limits.TheConstants.{LINE_LIMIT, STREAM_LIMIT}
use Rattle.tx_records.specs.declared.record.Reading.{Reading}
use Rattle.resume_loop.specs.Plays.{Resumed, ResumeResult, resumed_play}
use Rattle.resume_loop.specs.Reading.{ReadsHead}
use Rattle.resume_loop.specs.Resumed.{EndsBefore, IsRefused, IsResumed, lines_in}
use Rattle.resume_loop.specs.declared.fault.NoCheckpoint.{NoCheckpoint}

-- from where a resume goes on
abbrev pub run_from : Reader → World → ℕ → Run Reading Resumed NoCheckpoint
run_from r w line = record {
  play = resumed_play;
  first = record { world = w; passed = r.number; line = line };
  passed = r.number;
  line_max = r.line_max;
  stream_max = r.stream_max;
}

module _ {State : Type 0} (world : State → World) (bytes : List ℕ) (r : Reader) (left : Option (List ℕ)) where
  -- there is a World to go on from
  pub goes_on : GivesFirstOfAll → (s : State) (line : ℕ) (left' had has : Option (List ℕ)) (result : ResumeResult)
      → ReadsHead world bytes r left (Ok (Some (s, line))) → IsRunOf (run_from r (world s) line) bytes left' had has result → IsResumed bytes left' had has result
  goes_on law s line left' had has result read run =
      let first = law bytes r left read.head read.given read.is.4 in
      inl (record {
        head = read.head;
        later = first.0;
        first = ap (λ (n : ℕ). lines_of n bytes) (sym read.line_max) ∙ first.1;
        front = read.is.0;
        ended = read.is.1;
        world = world s;
        line = line;
        is = read.is.2;
        only = read.is.3;
        run =
            subst (λ (x : ℕ × ℕ × ℕ). IsRunOf (record { play = resumed_play; first = record { world = world s; passed = x.0; line = line }; passed = x.0; line_max = x.1; stream_max = x.2 }) bytes left' had has result)
            (ap (λ (n : ℕ). (n, r.line_max, r.stream_max)) read.given.numbered ∙ ap (λ (n : ℕ). (length read.head, n, r.stream_max)) read.line_max ∙ ap (λ (n : ℕ). (length read.head, LINE_LIMIT, n)) read.stream_max) run;
      })

  -- all that came is within the limit of the stream
  all_heeded : (came : List ℕ) → r.taken ≡ length came → r.taken ≤ r.stream_max → heeded r.stream_max came ≡ came
  all_heeded came taken within = take_all r.stream_max came (omega (arith, taken, within))

  within_limit : (came : List ℕ) → r.taken ≡ length came → r.stream_max ≡ STREAM_LIMIT → r.taken ≤ r.stream_max → STREAM_LIMIT < length came → ⊥
  within_limit came taken max within over = omega (arith, taken, max, within, over)

  -- there is none
  refused_by : EndGivesAll → (head : List (Option Text)) → r.line_max ≡ LINE_LIMIT → (read : HasRead bytes r left head) → IsTrue r.ended → r.taken ≤ r.stream_max
      → (read.rest ≡ []) × (lines_in read.came ≡ head)
  refused_by law head max read ends within =
      let all = law bytes r left head read ends within in
      (all.2, ap (λ (n : ℕ). lines_of n read.came) (sym max) ∙ ap (λ (x : List ℕ). lines_of r.line_max x) all.1 ∙ sym all.0)

  -- these lines came first
  abbrev CameFirst : ℕ → List (Option Text) → List ℕ → List ℕ → Type 0
  CameFirst max head came rest = ((later : List (Option Text)) × (lines_of max (whole_of came) ≡ head ++ later)) ⊎ ((rest ≡ []) × (lines_of max came ≡ head))

  taken_first : (head : List (Option Text)) (came rest : List ℕ) → CameFirst LINE_LIMIT head came rest
      → (later : List (Option Text)) × ((lines_in (whole_of came) ≡ head ++ later) ⊎ ((rest ≡ []) × (lines_in came ≡ head ++ later)))
  taken_first head came rest (inl h) = (h.0, inl h.1)
  taken_first head came rest (inr h) = ([], inr (h.0, h.1 ∙ sym (append-nil head)))

  first_of : GivesFirst → (head : List (Option Text)) (read : HasRead bytes r left head) → r.line_max ≡ LINE_LIMIT → heeded r.stream_max read.came ≡ read.came → CameFirst LINE_LIMIT head read.came read.rest
  first_of law head read max heeds =
      subst (λ (n : ℕ). CameFirst n head read.came read.rest) max
      (subst (λ (x : List ℕ). CameFirst r.line_max head x read.rest) heeds (law bytes r left head read))

  -- the lines up to the first `end` are no checkpoint
  refused : GivesFirst → EndGivesAll → (read : ReadsHead world bytes r left (Ok None)) → IsRefused read.given.came read.given.rest
  refused first all read =
      let h = read.given in
      let heeds : heeded r.stream_max h.came ≡ h.came = all_heeded h.came h.taken read.is.3 in
      record {
        head = read.head;
        later = (taken_first read.head h.came h.rest (first_of first read.head h read.line_max heeds)).0;
        first = (taken_first read.head h.came h.rest (first_of first read.head h read.line_max heeds)).1;
        front = read.is.0;
        through = λ none. refused_by all read.head read.line_max h (read.is.2 none) read.is.3;
        none = read.is.1;
      }

  -- before the end and with no whole line left the lines are all whole ones that came
  unended : BreakGivesWhole → (head : List (Option Text)) → r.line_max ≡ LINE_LIMIT → r.stream_max ≡ STREAM_LIMIT → (read : HasRead bytes r left head) → r.ended ≡ false → r.ahead ≡ [] → has_end head ≡ false
      → has_end (lines_in (whole_of (heeded STREAM_LIMIT read.came))) ≡ false
  unended law head line_max stream_max read ends dry none =
      ap has_end (
      ap (λ (n : ℕ). lines_in (whole_of (heeded n read.came))) (sym stream_max)
      ∙ ap (λ (n : ℕ). lines_of n (whole_of (heeded r.stream_max read.came))) (sym line_max)
      ∙ sym (law bytes r left head read ends dry))
      ∙ none

  module _ (had : Option (List ℕ)) where
    -- nothing was written
    begun_not : (result : ResumeResult) (head : List (Option Text)) (read : HasRead bytes r left head) → EndsBefore read.came read.rest result → (result ≡ Err faults.TooMuch) ↔ (STREAM_LIMIT < length read.came)
        → IsResumed bytes left had had result
    begun_not result head read ending too_much = inr (record {
      came = read.came;
      rest = read.rest;
      cut = read.cut;
      told = read.told;
      nothing = refl;
      ending = ending;
      too_much = too_much;
    })

    pub stopped : GivesFirst → EndGivesAll → ReadsHead world bytes r left (Ok None) → (cause : NoCheckpoint) → IsResumed bytes left had had (Err (faults.Stop cause))
    stopped first all read cause =
        let h = read.given in
        begun_not (Err (faults.Stop cause)) read.head h (refused first all read) (λ e. cc, λ over. absurd (within_limit h.came h.taken read.stream_max read.is.3 over))

    pub faulted : BreakGivesWhole → (fault : LineFault) → ReadsHead world bytes r left (Err fault) → IsResumed bytes left had had (Err (fault_of_line fault))
    faulted law ReadFault read =
        let h = read.given in
        let whole = unended law read.head read.line_max read.stream_max h read.is.2 read.is.1 read.is.0 in
        let heeds : heeded STREAM_LIMIT h.came ≡ h.came = ap (λ (n : ℕ). heeded n h.came) (sym read.stream_max) ∙ all_heeded h.came h.taken read.is.3 in
        begun_not (Err faults.ReadFault) read.head h (subst (λ (x : List ℕ). has_end (lines_in (whole_of x)) ≡ false) heeds whole)
        (λ e. cc, λ over. absurd (within_limit h.came h.taken read.stream_max read.is.3 over))
    faulted law TooMuch read =
        let h = read.given in
        begun_not (Err faults.TooMuch) read.head h (unended law read.head read.line_max read.stream_max h read.is.2 read.is.1 read.is.0)
        (λ e. omega (arith, h.taken, read.stream_max, read.is.3), λ over. refl)
    faulted law NoMemory read =
        let h = read.given in
        begun_not (Err faults.NoMemory) read.head h tt (λ e. cc, λ over. absurd (within_limit h.came h.taken read.stream_max read.is over))
