-- Texts that were answered so far, and how a run ends.
use Rattle.std.proofs.Common.{◌≡◌, ◌⊎◌, ◌↔◌, inl, inr, ℕ, ◌+◌, ◌++◌, ◌≤◌, ◌<◌, Bool, true, false, true≢false, List, [], ◌∷◌, Option, Some, None, Result, Ok, Err, IsTrue, drop, filter, length, take, refl, ap, sym, ◌∙◌, subst, arith, append-nil, append_assoc}
use Rattle.std.specs.Io.KnownBytes.{append_known}
use Rattle.std.proofs.lemmas.List.{length-append, take-append-drop, take_all}
use Rattle.byte_lines.specs.Laws.{BreakGivesWhole, EndGivesAll, GivesFirst, NothingBeyond, TakesAddUp}
use Rattle.byte_lines.specs.Pieces.{lines_of, whole_of}
use Rattle.byte_lines.specs.Progress.{HasRead}
use Rattle.byte_lines.specs.Reader.{Reader, heeded}
use Rattle.byte_lines.specs.declared.lines.LineFault.{LineFault}
use Rattle.byte_lines.specs.declared.lines.LineFault.TheVariants as line_faults
use Rattle.certificate_model.specs.Checked.{answer_text, answers_text}
use Rattle.ended_lines.specs.Ended.{has_end}
use Rattle.ended_source.specs.Ended.{IsCalm, IsClosed}
use Rattle.text_model.specs.Words.{Text, line_of}
use Rattle.tx_records.specs.declared.limits.TheConstants.{LINE_LIMIT, STREAM_LIMIT}
use Rattle.check_loop.specs.Checked.{AreAnswers, BreaksOff, HasAnswered, HasBegun, IsChecked, IsFront, IsPart, IsPartTaken}
use Rattle.byte_lines.specs.declared.sink.SinkFault.{SinkFault}
use Rattle.byte_lines.specs.declared.sink.SinkFault.TheVariants as sink_faults
use Rattle.check_loop.specs.Faults.{fault_of_line, fault_of_sink}
use Rattle.check_loop.specs.Next.{HasNext, IsAnswered, IsBroken, IsFailed, IsLeft, IsNext, IsPassed, IsThrough}
use Rattle.check_loop.specs.Texts.{ended_texts, texts_in}
use Rattle.check_loop.specs.declared.fault.CheckFault.{CheckFault}
use Rattle.check_loop.specs.declared.fault.CheckFault.TheVariants as faults
use Rattle.check_loop.proofs.Cuts.{IsCut, answers_more, cut_all, cut_last, cut_more, cut_none, ended_all, ended_front, zip_more}

-- the answers to all texts that were read
pub record Stands (IsRight : List (Option (List ℕ)) → Type 0) (bytes : List ℕ) (r : Reader) (left had has : Option (List ℕ)) (n : ℕ) : Type 0 where
  pub given : List (Option (List ℕ))
  pub read : HasRead bytes r left given
  pub texts : List (List (Option (List ℕ)))
  pub all : texts_in given ≡ texts
  pub closed : r.ended ≡ false → IsCut given texts
  pub answers : List Bool
  pub are : AreAnswers IsRight texts answers
  pub number : n ≡ 1 + length answers
  pub wrote : has ≡ append_known had (answers_text 1 answers)

-- the limits of the reader are those of records
pub record IsLimited (r : Reader) : Type 0 where
  pub line_max : r.line_max ≡ LINE_LIMIT
  pub stream_max : r.stream_max ≡ STREAM_LIMIT

-- they stay
pub limits_by : {r r' : Reader} → IsLimited r → r'.line_max ≡ r.line_max → r'.stream_max ≡ r.stream_max → IsLimited r'
limits_by limits line stream = record { line_max = line ∙ limits.line_max; stream_max = stream ∙ limits.stream_max }

-- what was taken, with no byte more
nothing_more : (had : Option (List ℕ)) → had ≡ append_known had []
nothing_more None = refl
nothing_more (Some bytes) = ap Some (sym (append-nil bytes))

-- before the first text
pub stands_first : {IsRight : List (Option (List ℕ)) → Type 0} {bytes : List ℕ} {r : Reader} {left had : Option (List ℕ)} → HasRead bytes r left [] → Stands IsRight bytes r left had had 1
stands_first {had = had} read = record {
  given = [];
  read = read;
  texts = [];
  all = refl;
  closed = λ e. cut_none;
  answers = [];
  are = tt;
  number = refl;
  wrote = nothing_more had;
}

-- ---- the texts after one more

-- the reader ended, or not
by_end : (r : Reader) → IsTrue r.ended → r.ended ≡ false → ⊥
by_end r t f = true≢false (sym t ∙ f)

module _ {IsRight : List (Option (List ℕ)) → Type 0} {bytes : List ℕ} {r r' : Reader} {left left' had has : Option (List ℕ)} {n : ℕ} (s : Stands IsRight bytes r left had has n) {answer : Bool}
    (a : IsAnswered IsRight bytes s.given r r' left' answer) where
  -- the lines that were read are these texts
  pub texts_more : IsPassed r' a.text → texts_in (s.given ++ a.text) ≡ s.texts ++ a.text ∷ []
  texts_more (inl closed) = cut_all (cut_more a.text (s.closed a.went) closed)
  texts_more (inr ended) = cut_last a.text (s.closed a.went) ended.1 a.some

  closed_more : IsPassed r' a.text → r'.ended ≡ false → IsCut (s.given ++ a.text) (s.texts ++ a.text ∷ [])
  closed_more (inl closed) e = cut_more a.text (s.closed a.went) closed
  closed_more (inr ended) e = absurd (by_end r' ended.0 e)

  pub are_more : AreAnswers IsRight (s.texts ++ a.text ∷ []) (s.answers ++ answer ∷ [])
  are_more = zip_more (λ (t : List (Option (List ℕ))) (b : Bool). (b ≡ true) ↔ IsRight t) s.texts s.answers a.text answer s.are a.right

  -- the answers, with the line of the last one
  pub line_more : answers_text 1 (s.answers ++ answer ∷ []) ≡ answers_text 1 s.answers ++ line_of n (answer_text answer ∷ [])
  line_more = answers_more 1 s.answers answer ∙ ap (λ (k : ℕ). answers_text 1 s.answers ++ line_of k (answer_text answer ∷ [])) (sym s.number)

  -- the answer was written
  pub stands_more : {has' : Option (List ℕ)} → TakesAddUp → has' ≡ append_known has (line_of n (answer_text answer ∷ [])) → Stands IsRight bytes r' left' had has' (n + 1)
  stands_more {has'} takes put = record {
    given = s.given ++ a.text;
    read = a.read;
    texts = s.texts ++ a.text ∷ [];
    all = texts_more a.passed;
    closed = closed_more a.passed;
    answers = s.answers ++ answer ∷ [];
    are = are_more;
    number = (let one : length (s.answers ++ answer ∷ []) ≡ length s.answers + 1 = length-append s.answers (answer ∷ []) in omega (arith, s.number, one));
    wrote = takes had has has' (answers_text 1 s.answers) (line_of n (answer_text answer ∷ [])) s.wrote put ∙ ap (append_known had) (sym line_more);
  }

-- ---- endings

-- what came is within the limit of the stream
heeds_all : {bytes : List ℕ} {r : Reader} {left : Option (List ℕ)} {given : List (Option (List ℕ))} (read : HasRead bytes r left given) → IsLimited r → r.taken ≤ r.stream_max → heeded r.stream_max read.came ≡ read.came
heeds_all {r = r} read limits within = take_all r.stream_max read.came (omega (arith, read.taken))

not_too_much : {bytes : List ℕ} {r : Reader} {left : Option (List ℕ)} {given : List (Option (List ℕ))} (read : HasRead bytes r left given) → IsLimited r → r.taken ≤ r.stream_max → STREAM_LIMIT < length read.came → ⊥
not_too_much {r = r} read limits within more =
    let over : r.stream_max < length read.came = subst (λ (k : ℕ). k < length read.came) (sym limits.stream_max) more in
    omega (arith, read.taken)

module _ {bytes : List ℕ} {r' : Reader} {left' : Option (List ℕ)} {lines : List (Option (List ℕ))} (read : HasRead bytes r' left' lines) (limits : IsLimited r') where
  -- the lines of what came, at the end
  lines_at_end : EndGivesAll → IsTrue r'.ended → r'.taken ≤ r'.stream_max → lines_of LINE_LIMIT read.came ≡ lines
  lines_at_end all t within =
      let g = all bytes r' left' lines read t within in
      ap (lines_of LINE_LIMIT) g.1 ∙ ap (λ (m : ℕ). lines_of m bytes) (sym limits.line_max) ∙ sym g.0

module _ (IsRight : List (Option (List ℕ)) → Type 0) {bytes : List ℕ} {r' : Reader} {left' : Option (List ℕ)} {lines : List (Option (List ℕ))} (read : HasRead bytes r' left' lines) (limits : IsLimited r') where
  -- the first of the texts were answered in part, where the reader ended
  part_at_end : {written : Text} {first : List (List (Option (List ℕ)))} {text : Text} (rest : List (List (Option (List ℕ)))) → EndGivesAll → IsTrue r'.ended → r'.taken ≤ r'.stream_max → texts_in lines ≡ first ++ rest → HasAnswered IsRight first text → IsFront written text
      → IsPart IsRight read.came read.rest written
  part_at_end {written} {first} {text} rest all t within cut answered front =
      inr ((all bytes r' left' lines read t within).2, record { first = first; later = rest; cut = ap texts_in (lines_at_end read limits all t within) ∙ cut; text = text; answered = answered; front = front })

  -- or before, by the lines that a reader gives first
  part_given : {written : Text} {first : List (List (Option (List ℕ)))} {text : Text} (rest : List (List (Option (List ℕ)))) (behind : List (Option (List ℕ)) → List (List (Option (List ℕ)))) → r'.taken ≤ r'.stream_max
      → ((later : List (Option (List ℕ))) → ended_texts (lines ++ later) ≡ first ++ behind later) → texts_in lines ≡ first ++ rest → HasAnswered IsRight first text → IsFront written text
      → ((later : List (Option (List ℕ))) × (lines_of r'.line_max (whole_of (heeded r'.stream_max read.came)) ≡ lines ++ later)) ⊎ ((read.rest ≡ []) × (lines_of r'.line_max (heeded r'.stream_max read.came) ≡ lines))
      → IsPart IsRight read.came read.rest written
  part_given {written} {first} {text} rest behind within ended cut answered front (inl g) =
      inl (record {
        first = first;
        later = behind g.0;
        cut =
            ap (λ (m : ℕ). ended_texts (lines_of m (whole_of read.came))) (sym limits.line_max)
            ∙ ap (λ (b : List ℕ). ended_texts (lines_of r'.line_max (whole_of b))) (sym (heeds_all read limits within))
            ∙ ap ended_texts g.1
            ∙ ended g.0;
        text = text;
        answered = answered;
        front = front;
      })
  part_given {written} {first} {text} rest behind within ended cut answered front (inr g) =
      inr (
        g.0,
        record {
          first = first;
          later = rest;
          cut =
              ap (λ (m : ℕ). texts_in (lines_of m read.came)) (sym limits.line_max)
              ∙ ap (λ (b : List ℕ). texts_in (lines_of r'.line_max b)) (sym (heeds_all read limits within))
              ∙ ap texts_in g.1
              ∙ cut;
          text = text;
          answered = answered;
          front = front;
        },
      )

-- a front of a text that is written is one of a longer text
front_all : (text : Text) → IsFront text text
front_all text = ([], sym (append-nil text))

-- the answers so far
so_far : {IsRight : List (Option (List ℕ)) → Type 0} {bytes : List ℕ} {r : Reader} {left had has : Option (List ℕ)} {n : ℕ} (s : Stands IsRight bytes r left had has n) → HasAnswered IsRight s.texts (answers_text 1 s.answers)
so_far s = record { answers = s.answers; are = s.are; text = refl }

module _ {IsRight : List (Option (List ℕ)) → Type 0} {bytes : List ℕ} {r r' : Reader} {left left' had has : Option (List ℕ)} {n : ℕ} (s : Stands IsRight bytes r left had has n) (limits : IsLimited r') where
  -- no line was left
  pub run_done : EndGivesAll → IsThrough IsRight bytes s.given r r' left' → IsChecked IsRight bytes left' had has (Ok tt)
  run_done all t = record {
    came = t.read.came;
    rest = t.read.rest;
    cut = t.read.cut;
    told = t.read.told;
    written = answers_text 1 s.answers;
    wrote = s.wrote;
    ending = (
      (all bytes r' left' s.given t.read t.ended t.calm.within).2,
      subst (λ (ts : List (List (Option (List ℕ)))). HasAnswered IsRight ts (answers_text 1 s.answers)) (sym (ap texts_in (lines_at_end t.read limits all t.ended t.calm.within) ∙ s.all)) (so_far s),
    );
    too_much = (λ e. cc, λ more. absurd (not_too_much t.read limits t.calm.within more));
  }

  -- the texts whose `end` came, after a fault of the source
  broken_texts : {within : Type 0} → BreakGivesWhole → (f : IsFailed IsRight bytes s.given r r' left' within) → ended_texts (lines_of LINE_LIMIT (whole_of (heeded r'.stream_max f.read.came))) ≡ s.texts
  broken_texts whole f =
      ap (λ (m : ℕ). ended_texts (lines_of m (whole_of (heeded r'.stream_max f.read.came)))) (sym limits.line_max)
      ∙ ap ended_texts (sym (whole bytes r' left' (s.given ++ f.text) f.read f.broken.goes f.broken.ahead))
      ∙ ended_all f.text (s.closed f.broken.went) f.broken.unended

  -- a read failed
  pub run_read_fault : BreakGivesWhole → IsNext IsRight bytes s.given r r' left' (Err line_faults.ReadFault) → IsChecked IsRight bytes left' had has (Err faults.ReadFault)
  run_read_fault whole f = record {
    came = f.read.came;
    rest = f.read.rest;
    cut = f.read.cut;
    told = f.read.told;
    written = answers_text 1 s.answers;
    wrote = s.wrote;
    ending =
        subst (λ (ts : List (List (Option (List ℕ)))). HasAnswered IsRight ts (answers_text 1 s.answers))
        (sym (ap (λ (b : List ℕ). ended_texts (lines_of LINE_LIMIT (whole_of b))) (sym (heeds_all f.read limits f.limit)) ∙ broken_texts whole f)) (so_far s);
    too_much = (λ e. cc, λ more. absurd (not_too_much f.read limits f.limit more));
  }

  -- the stream is too long
  pub run_too_much : BreakGivesWhole → IsNext IsRight bytes s.given r r' left' (Err line_faults.TooMuch) → IsChecked IsRight bytes left' had has (Err faults.TooMuch)
  run_too_much whole f = record {
    came = f.read.came;
    rest = f.read.rest;
    cut = f.read.cut;
    told = f.read.told;
    written = answers_text 1 s.answers;
    wrote = s.wrote;
    ending =
        subst (λ (ts : List (List (Option (List ℕ)))). HasAnswered IsRight ts (answers_text 1 s.answers))
        (sym (ap (λ (m : ℕ). ended_texts (lines_of LINE_LIMIT (whole_of (heeded m f.read.came)))) (sym limits.stream_max) ∙ broken_texts whole f)) (so_far s);
    too_much = (λ e. subst (λ (k : ℕ). k < length f.read.came) limits.stream_max (subst (λ (k : ℕ). r'.stream_max < k) f.read.taken f.limit), λ more. refl);
  }

  -- the first texts were answered where memory ran out, by whether the reader had ended before
  part_left : (b : Bool) → r.ended ≡ b → EndGivesAll → GivesFirst → (f : IsLeft IsRight bytes s.given r r' left') → IsLimited r → r.taken ≤ r.stream_max → IsPart IsRight f.read.came f.read.rest (answers_text 1 s.answers)
  part_left false e all gives f before within =
      let cut = s.closed e in
      part_given IsRight f.read limits (texts_in f.text) (λ later. ended_texts (f.text ++ later)) f.within
      (λ later. ap ended_texts (append_assoc s.given f.text later) ∙ ended_front (f.text ++ later) cut)
      (cut.cut f.text) (so_far s) (front_all (answers_text 1 s.answers)) (gives bytes r' left' (s.given ++ f.text) f.read)
  part_left true e all gives f before within =
      let old = all bytes r left s.given s.read e within in
      let new = all bytes r' left' (s.given ++ f.text) f.read (f.again e) f.within in
      inr (
        new.2,
        record {
          first = s.texts;
          later = [];
          cut =
              ap (λ (b : List ℕ). texts_in (lines_of LINE_LIMIT b)) new.1
              ∙ ap (λ (m : ℕ). texts_in (lines_of m bytes)) (sym before.line_max)
              ∙ ap texts_in (sym old.0)
              ∙ s.all
              ∙ sym (append-nil s.texts);
          text = answers_text 1 s.answers;
          answered = (so_far s);
          front = front_all (answers_text 1 s.answers);
        },
      )

  -- memory ran out
  pub run_no_memory : EndGivesAll → GivesFirst → IsNext IsRight bytes s.given r r' left' (Err line_faults.NoMemory) → IsLimited r → r.taken ≤ r.stream_max → IsChecked IsRight bytes left' had has (Err faults.NoMemory)
  run_no_memory all gives f before within = record {
    came = f.read.came;
    rest = f.read.rest;
    cut = f.read.cut;
    told = f.read.told;
    written = answers_text 1 s.answers;
    wrote = s.wrote;
    ending = part_left r.ended refl all gives f before within;
    too_much = (λ e. cc, λ more. absurd (not_too_much f.read limits f.within more));
  }

  -- whatever the fault
  pub run_fault : (fault : LineFault) → BreakGivesWhole → EndGivesAll → GivesFirst → IsNext IsRight bytes s.given r r' left' (Err fault) → IsLimited r → r.taken ≤ r.stream_max
      → IsChecked IsRight bytes left' had has (Err (fault_of_line fault))
  run_fault line_faults.ReadFault whole all gives f before within = run_read_fault whole f
  run_fault line_faults.TooMuch whole all gives f before within = run_too_much whole f
  run_fault line_faults.NoMemory whole all gives f before within = run_no_memory all gives f before within

  module _ {answer : Bool} (a : IsAnswered IsRight bytes s.given r r' left' answer) where
    -- the answers with the last one
    answered_more : HasAnswered IsRight (s.texts ++ a.text ∷ []) (answers_text 1 (s.answers ++ answer ∷ []))
    answered_more = record { answers = s.answers ++ answer ∷ []; are = are_more s a; text = refl }

    -- a prefix of the last one is one of all
    front_cut : (k : ℕ) → IsFront (answers_text 1 s.answers ++ take k (line_of n (answer_text answer ∷ []))) (answers_text 1 (s.answers ++ answer ∷ []))
    front_cut k =
        let line : Text = line_of n (answer_text answer ∷ []) in (
          drop k line,
          line_more s a
              ∙ ap (λ (t : Text). answers_text 1 s.answers ++ t) (sym (take-append-drop k line))
              ∙ sym (append_assoc (answers_text 1 s.answers) (take k line) (drop k line)),
        )

    -- they were written in part, by how the text was passed
    part_more : EndGivesAll → GivesFirst → (k : ℕ) → IsPassed r' a.text → IsPart IsRight a.read.came a.read.rest (answers_text 1 s.answers ++ take k (line_of n (answer_text answer ∷ [])))
    part_more all gives k (inl closed) =
        let cut = cut_more a.text (s.closed a.went) closed in
        part_given IsRight a.read limits [] ended_texts a.calm.within (λ later. ended_front later cut) (cut_all cut ∙ sym (append-nil (s.texts ++ a.text ∷ []))) answered_more (front_cut k) (gives bytes r' left' (s.given ++ a.text) a.read)
    part_more all gives k (inr ended) =
        part_at_end IsRight a.read limits [] all ended.0 a.calm.within (texts_more s a (inr ended) ∙ sym (append-nil (s.texts ++ a.text ∷ []))) answered_more (front_cut k)

    -- nothing came beyond the part that has the last line
    broke : NothingBeyond → (k : ℕ) → BreaksOff IsRight a.read.came (answers_text 1 s.answers ++ take k (line_of n (answer_text answer ∷ [])))
    broke beyond k =
        let b = beyond bytes r' left' (s.given ++ a.text) a.read a.calm.begun a.calm.within in
        record {
          upto = b.0;
          ahead = r'.ahead;
          cut = b.1;
          less = a.calm.ahead;
          before = s.texts;
          last = a.text;
          texts = ap (λ (m : ℕ). texts_in (lines_of m b.0)) (sym limits.line_max) ∙ ap texts_in (sym b.2) ∙ texts_more s a a.passed;
          first = answers_text 1 s.answers;
          answered = so_far s;
          after = (take k (line_of n (answer_text answer ∷ [])), refl);
          all = answers_text 1 (s.answers ++ answer ∷ []);
          with_last = answered_more;
          within = front_cut k;
        }

    -- an answer was not written whole
    pub run_cut : {has' : Option (List ℕ)} (fault : SinkFault) → NothingBeyond → TakesAddUp → EndGivesAll → GivesFirst → IsPartTaken has (line_of n (answer_text answer ∷ [])) has' → IsChecked IsRight bytes left' had has' (Err (fault_of_sink fault))
    run_cut {has'} sink_faults.WriteFault beyond takes all gives part = record {
      came = a.read.came;
      rest = a.read.rest;
      cut = a.read.cut;
      told = a.read.told;
      written = answers_text 1 s.answers ++ take part.0 (line_of n (answer_text answer ∷ []));
      wrote = takes had has has' (answers_text 1 s.answers) (take part.0 (line_of n (answer_text answer ∷ []))) s.wrote part.1;
      ending = (part_more all gives part.0 a.passed, broke beyond part.0);
      too_much = (λ x. cc, λ more. absurd (not_too_much a.read limits a.calm.within more));
    }
    run_cut {has'} sink_faults.NoMemory beyond takes all gives part = record {
      came = a.read.came;
      rest = a.read.rest;
      cut = a.read.cut;
      told = a.read.told;
      written = answers_text 1 s.answers ++ take part.0 (line_of n (answer_text answer ∷ []));
      wrote = takes had has has' (answers_text 1 s.answers) (take part.0 (line_of n (answer_text answer ∷ []))) s.wrote part.1;
      ending = part_more all gives part.0 a.passed;
      too_much = (λ x. cc, λ more. absurd (not_too_much a.read limits a.calm.within more));
    }

-- no text more was read, and memory ran out
pub run_stopped : {IsRight : List (Option (List ℕ)) → Type 0} {bytes : List ℕ} {r : Reader} {left had has : Option (List ℕ)} {n : ℕ} (s : Stands IsRight bytes r left had has n) → IsLimited r → r.taken ≤ r.stream_max → EndGivesAll → GivesFirst
    → IsChecked IsRight bytes left had has (Err faults.NoMemory)
run_stopped {IsRight} {bytes} {r} {left} s limits within all gives =
    run_no_memory s limits all gives (record { text = []; read = subst (λ (l : List (Option (List ℕ))). HasRead bytes r left l) (sym (append-nil s.given)) s.read; within = within; again = λ t. t }) limits within

-- ---- by what the next answer leaves

module _ {IsRight : List (Option (List ℕ)) → Type 0} {bytes : List ℕ} {r r' : Reader} {left left' had has : Option (List ℕ)} {n f f' : ℕ} (s : Stands IsRight bytes r left had has n) (limits : IsLimited r) where
  -- the limits stay
  pub limits_on : {result : Result (Option Bool) LineFault} → HasNext IsRight r r' left left' f f' result → IsLimited r'
  limits_on e = limits_by limits e.line_max e.stream_max

  pub end_none : {o : Option Bool} → HasNext IsRight r r' left left' f f' (Ok o) → o ≡ None → EndGivesAll → IsChecked IsRight bytes left' had has (Ok tt)
  end_none e is all =
      let h : HasNext IsRight r r' left left' f f' (Ok None) = subst (λ (x : Option Bool). HasNext IsRight r r' left left' f f' (Ok x)) is e in
      run_done s (limits_on e) all (h.next bytes s.given s.read)

  pub end_fault : (fault : LineFault) → HasNext IsRight r r' left left' f f' (Err fault) → r.taken ≤ r.stream_max → BreakGivesWhole → EndGivesAll → GivesFirst → IsChecked IsRight bytes left' had has (Err (fault_of_line fault))
  end_fault fault e within whole all gives = run_fault s (limits_on e) fault whole all gives (e.next bytes s.given s.read) limits within

  module _ {o : Option Bool} {answer : Bool} (e : HasNext IsRight r r' left left' f f' (Ok o)) (is : o ≡ Some answer) where
    -- the text that was answered
    one : IsAnswered IsRight bytes s.given r r' left' answer
    one =
        let h : HasNext IsRight r r' left left' f f' (Ok (Some answer)) = subst (λ (x : Option Bool). HasNext IsRight r r' left left' f f' (Ok x)) is e in
        h.next bytes s.given s.read

    pub end_cut : {has' : Option (List ℕ)} (fault : SinkFault) → NothingBeyond → TakesAddUp → EndGivesAll → GivesFirst → IsPartTaken has (line_of n (answer_text answer ∷ [])) has' → IsChecked IsRight bytes left' had has' (Err (fault_of_sink fault))
    end_cut fault beyond takes all gives part = run_cut s (limits_on e) one fault beyond takes all gives part

    pub go_on : {has' : Option (List ℕ)} → TakesAddUp → has' ≡ append_known has (line_of n (answer_text answer ∷ [])) → Stands IsRight bytes r' left' had has' (n + 1)
    go_on takes put = stands_more s one takes put
