-- What was read of the first lines of a stream.
use Rattle.std.proofs.Common.{◌≡◌, ◌⊎◌, ℕ, ◌≤◌, ◌++◌, Bool, true, false, List, [], ◌∷◌, Option, Some, None, Result, Ok, Err, IsTrue, ap, append-nil, arith, inl, inr, length, option_map, refl, subst, sym, ◌∙◌, ◌↔◌}
use Rattle.std.specs.Prelude.{IfOk, IsSome, is_some, unwrap_or}
use Rattle.std.proofs.lemmas.Bool.{false≢true}
use Rattle.byte_lines.specs.Faults.{CountsFaults}
use Rattle.byte_lines.specs.Progress.{HasRead}
use Rattle.byte_lines.specs.Reader.{Reader}
use Rattle.byte_lines.specs.declared.lines.LineFault.{LineFault}
use Rattle.byte_lines.specs.declared.lines.LineFault.TheVariants.{ReadFault, TooMuch, NoMemory}
use Rattle.ended_lines.specs.Ended.{has_end, up_to_end}
use Rattle.ended_lines.proofs.Passing.{front_none, front_of_text}
use Rattle.ended_source.specs.Ended.{ArePassed, EndedText, EndsAt, IsAt, Standing, StandsAt, giving_at, passed_at, seen_at}
use Rattle.ended_source.specs.Faults.{fault_at}
use Rattle.ended_source.specs.declared.place.Place.{Place}
use Rattle.ended_source.specs.declared.place.Place.TheVariants as places
use Rattle.line_giver.specs.Giving.{IsThrough, PassesSome, known_after, lines_of_giving}
use Rattle.line_giver.specs.OfList.{whole_lines}
use Rattle.run_model.specs.World.{World}
use Rattle.text_model.specs.Words.{Text}
use Rattle.tx_records.specs.declared.limits.TheConstants.{LINE_LIMIT, STREAM_LIMIT}
use Rattle.resume_loop.specs.Heads.{IsCheckpointOf, IsNoCheckpointOf, ReadsCheckpoint}
use Rattle.resume_loop.specs.Reading.{IsHeadOf, ReadsHead, ReadsText, first_text, fresh_reader}
use Rattle.resume_loop.proofs.Ends.{ends_once, has_first}

-- ---- the place

-- the lines that were passed up to the end have the line `end`
pub through_of : (place : Place) (passed : List (Option Text)) → has_end passed ≡ true → ArePassed place passed → place ≡ places.Through
through_of places.Through passed has are = refl
through_of places.Open passed has are = absurd (false≢true (sym are ∙ has))
through_of places.Whole passed has are = absurd (false≢true (sym are ∙ has))
through_of places.TooLong passed has are = absurd (false≢true (sym are ∙ has))
through_of places.Ended passed has are = absurd (false≢true (sym are ∙ has))
through_of (places.Failed fault) passed has are = absurd (false≢true (sym are ∙ has))

-- then they are closed by it
closed_of : (place : Place) (passed : List (Option Text)) → has_end passed ≡ true → ArePassed place passed → up_to_end passed ≡ passed
closed_of places.Through passed has are = are.front
closed_of places.Open passed has are = absurd (false≢true (sym are ∙ has))
closed_of places.Whole passed has are = absurd (false≢true (sym are ∙ has))
closed_of places.TooLong passed has are = absurd (false≢true (sym are ∙ has))
closed_of places.Ended passed has are = absurd (false≢true (sym are ∙ has))
closed_of (places.Failed fault) passed has are = absurd (false≢true (sym are ∙ has))

-- a checkpoint has it
has_of_checkpoint : (lines : List (Option Text)) (w : World) (line : ℕ) → IsCheckpointOf lines w line → has_end lines ≡ true
has_of_checkpoint lines w line h =
    ap has_end (h.whole ∙ ap (λ (ts : List Text). whole_lines ts) h.is.text) ∙ (ends_once w line).ended

-- ---- what is known

-- it is known what was left, where the bytes of the source are
known_left : (o : Option (List ℕ)) (seen : List (Option Text)) (f : List ℕ → List (Option Text)) → IsSome o → IsSome (known_after seen (option_map f o))
known_left None seen f is = is
known_left (Some x) seen f is = refl

-- and what is left after some lines
known_then : (old new : Option (List (Option Text))) (lines : List (Option Text)) → old ≡ known_after lines new → IsSome old → IsSome new
known_then old None lines left is = absurd (false≢true (ap is_some (sym left) ∙ is))
known_then old (Some more) lines left is = refl

-- where nothing is left, nothing more is passed
none_more : (old new : Option (List (Option Text))) (lines : List (Option Text)) → old ≡ known_after lines new → IsSome old → IsThrough old → lines ≡ []
none_more None new lines left is through = absurd (false≢true is)
none_more (Some ls) None lines left is through = cc
none_more (Some ls) (Some more) [] left is through = refl
none_more (Some ls) (Some more) (l ∷ lines) left is through = absurd (cons_none (sym (ap (λ (o : Option (List (Option Text))). unwrap_or o []) left) ∙ through))
  where
    cons_none : {x : Option Text} {xs : List (Option Text)} → x ∷ xs ≡ [] → ⊥
    cons_none e = let n = ap length e in omega (arith, n)

module _ {State : Type 0} (world : State → World) (s : EndedText) (none_first : s.first ≡ []) where
  -- the lines of a text that begins a stream are those that were passed
  are_all : (m : Standing) (head : List (Option Text)) (at : IsAt s m head) → at.passed ≡ head
  are_all m head at = ap (λ (ls : List (Option Text)). ls ++ at.passed) (sym none_first) ∙ sym at.are

  passed_are : (m : Standing) (head : List (Option Text)) (at : IsAt s m head) → ArePassed m.place head
  passed_are m head at = subst (λ (ls : List (Option Text)). ArePassed m.place ls) (are_all m head at) at.text

  module _ (old : Standing) (start : IsAt s old []) (bytes : s.bytes ≡ old.left) where
    knows : IsSome s.bytes → IsSome (lines_of_giving (giving_at old))
    knows is = known_left old.left _ _ (subst (λ (o : Option (List ℕ)). IsSome o) bytes is)

    -- a checkpoint was read
    pub found : (new : Standing) (x : State) (line : ℕ) → ReadsCheckpoint world (passed_at old) (passed_at new) (giving_at old) (giving_at new) (Some (x, line)) → ReadsText world s new (Ok (Some (x, line)))
    found new x line h =
        let at : IsAt s new h.lines = h.text.passed.of_stream s [] start in record {
          head = h.lines;
          at = at;
          is = (
            through_of new.place h.lines (has_of_checkpoint h.lines (world x) line h.is.0) (passed_are new h.lines at),
            h.is.0,
            λ is. h.is.1 (knows is),
          );
        }

    -- the lines are none, and those that were left were passed
    pub none_found : (mid new : Standing) → ReadsCheckpoint world (passed_at old) (passed_at mid) (giving_at old) (giving_at mid) None
        → PassesSome (passed_at mid) (passed_at new) (giving_at mid) (giving_at new) → EndsAt new.place (Ok tt) → ReadsText world s new (Ok None)
    none_found mid new h more ends =
        let at : IsAt s new (h.lines ++ more.lines) = more.passed.of_stream s h.lines (h.text.passed.of_stream s [] start) in record {
          head = h.lines ++ more.lines;
          at = at;
          is = (ends, λ is. subst (λ (ls : List (Option Text)). IsNoCheckpointOf ls) (same at is (has_end h.lines) refl) (h.is (knows is)));
        }
      where
        same : IsAt s new (h.lines ++ more.lines) → IsSome s.bytes → (b : Bool) → has_end h.lines ≡ b → h.lines ≡ h.lines ++ more.lines
        same at is true has =
            sym (front_of_text h.lines more.lines h.text.ended.front has)
            ∙ closed_of new.place (h.lines ++ more.lines) (has_first h.lines more.lines has) (passed_are new (h.lines ++ more.lines) at)
        same at is false none =
            let known : IsSome (lines_of_giving (giving_at mid)) = known_then _ _ h.lines h.text.passed.left (knows is) in
            let nothing : more.lines ≡ [] = none_more _ _ more.lines more.passed.left known (h.text.ended.through none) in
            sym (ap (λ (ls : List (Option Text)). h.lines ++ ls) nothing ∙ append-nil h.lines)

    -- there was a fault
    pub faulted : (new : Standing) → PassesSome (passed_at old) (passed_at new) (giving_at old) (giving_at new) → ReadsText world s new (Err (fault_at new.place))
    faulted new some = record { head = some.lines; at = some.passed.of_stream s [] start; is = refl }

    -- or later
    pub faulted_later : (mid new : Standing) → PassesSome (passed_at old) (passed_at mid) (giving_at old) (giving_at mid) → PassesSome (passed_at mid) (passed_at new) (giving_at mid) (giving_at new)
        → (fault : LineFault) → EndsAt new.place (Err fault) → ReadsText world s new (Err fault)
    faulted_later mid new some more fault ends = record {
      head = some.lines ++ more.lines;
      at = more.passed.of_stream s some.lines (some.passed.of_stream s [] start);
      is = ends;
    }

  -- ---- the reader

  -- at a place where no line is seen
  given_at : (m : Standing) (head : List (Option Text)) (bytes : List ℕ) → seen_at m.place m.lines.text ≡ [] → HasRead bytes m.lines m.left (head ++ seen_at m.place m.lines.text) → HasRead bytes m.lines m.left head
  given_at m head bytes none read =
      subst (λ (ls : List (Option Text)). HasRead bytes m.lines m.left ls) (ap (λ (ls : List (Option Text)). head ++ ls) none ∙ append-nil head) read

  none_seen : (place : Place) (text : List ℕ) → (place ≡ places.Through) ⊎ (place ≡ places.Ended) → seen_at place text ≡ []
  none_seen place text (inl is) = ap (λ (p : Place). seen_at p text) is
  none_seen place text (inr is) = ap (λ (p : Place). seen_at p text) is

  -- the stream is within its limit, unless the place says so
  calm_at : (place : Place) (r : Reader) → (place ≡ places.Through) ⊎ (place ≡ places.Ended) → StandsAt place r → r.taken ≤ r.stream_max
  calm_at places.Through r is stands = stands.within
  calm_at places.Ended r is stands = stands.0.within
  calm_at places.Open r is stands = stands.within
  calm_at places.Whole r is stands = stands.within
  calm_at places.TooLong r is stands = stands.within
  calm_at (places.Failed fault) r (inl is) stands = cc
  calm_at (places.Failed fault) r (inr is) stands = cc

  -- at the end of all lines, if none of them is `end`
  ends_at : (place : Place) (r : Reader) (head : List (Option Text)) → (place ≡ places.Through) ⊎ (place ≡ places.Ended) → ArePassed place head → StandsAt place r → has_end head ≡ false → IsTrue r.ended
  ends_at places.Through r head is are stands none = absurd (false≢true (sym none ∙ are.has))
  ends_at places.Ended r head is are stands none = stands.1
  ends_at places.Open r head (inl is) are stands none = cc
  ends_at places.Open r head (inr is) are stands none = cc
  ends_at places.Whole r head (inl is) are stands none = cc
  ends_at places.Whole r head (inr is) are stands none = cc
  ends_at places.TooLong r head (inl is) are stands none = cc
  ends_at places.TooLong r head (inr is) are stands none = cc
  ends_at (places.Failed fault) r head (inl is) are stands none = cc
  ends_at (places.Failed fault) r head (inr is) are stands none = cc

  -- the lines up to the end are closed, or none of them is `end`
  front_at : (place : Place) (head : List (Option Text)) → ArePassed place head → up_to_end head ≡ head
  front_at place head are = by_end (has_end head) refl
    where
      by_end : (b : Bool) → has_end head ≡ b → up_to_end head ≡ head
      by_end true has = closed_of place head has are
      by_end false none = front_none head none

  -- a fault, after the lines that were passed and the one that is seen
  head_of_fault : (place : Place) (fault : LineFault) (text : List ℕ) (r : Reader) (head : List (Option Text)) → fault ≡ fault_at place → ArePassed place head → StandsAt place r
      → IsHeadOf world (head ++ seen_at place text) r (Err fault)
  head_of_fault place NoMemory text r head is are stands = within_at place is stands
    where
      within_at : (p : Place) → NoMemory ≡ fault_at p → StandsAt p r → r.taken ≤ r.stream_max
      within_at places.Open is stands = stands.within
      within_at places.Whole is stands = stands.within
      within_at places.TooLong is stands = stands.within
      within_at places.Through is stands = stands.within
      within_at places.Ended is stands = stands.0.within
      within_at (places.Failed ReadFault) is stands = cc
      within_at (places.Failed TooMuch) is stands = cc
      within_at (places.Failed NoMemory) is stands = stands
  head_of_fault (places.Failed ReadFault) ReadFault text r head is are stands = (ap has_end (append-nil head) ∙ are, stands.0, stands.1, stands.2)
  head_of_fault (places.Failed TooMuch) TooMuch text r head is are stands = (ap has_end (append-nil head) ∙ are, stands.0, stands.1, stands.2)
  head_of_fault (places.Failed TooMuch) ReadFault text r head is are stands = cc
  head_of_fault (places.Failed NoMemory) ReadFault text r head is are stands = cc
  head_of_fault (places.Failed ReadFault) TooMuch text r head is are stands = cc
  head_of_fault (places.Failed NoMemory) TooMuch text r head is are stands = cc
  head_of_fault places.Open ReadFault text r head is are stands = cc
  head_of_fault places.Open TooMuch text r head is are stands = cc
  head_of_fault places.Whole ReadFault text r head is are stands = cc
  head_of_fault places.Whole TooMuch text r head is are stands = cc
  head_of_fault places.TooLong ReadFault text r head is are stands = cc
  head_of_fault places.TooLong TooMuch text r head is are stands = cc
  head_of_fault places.Through ReadFault text r head is are stands = cc
  head_of_fault places.Through TooMuch text r head is are stands = cc
  head_of_fault places.Ended ReadFault text r head is are stands = cc
  head_of_fault places.Ended TooMuch text r head is are stands = cc

  module _ (m : Standing) (bytes : List ℕ) (line_max : s.line_max ≡ LINE_LIMIT) (stream_max : s.stream_max ≡ STREAM_LIMIT) (gave : s.bytes ≡ Some bytes) where
    known : IsSome s.bytes
    known = ap is_some gave

    -- what was read of the lines is what was read of the bytes
    pub reads_head : (result : Result (Option (State × ℕ)) LineFault) → ReadsText world s m result → ReadsHead world bytes m.lines m.left result
    reads_head (Ok (Some (x, line))) h = record {
      head = h.head;
      given = given_at m h.head bytes (none_seen m.place m.lines.text (inl h.is.0)) (h.at.read bytes gave);
      line_max = h.at.line_max ∙ line_max;
      stream_max = h.at.stream_max ∙ stream_max;
      is = (
        front_at m.place h.head (passed_are m h.head h.at),
        has_of_checkpoint h.head (world x) line h.is.1,
        h.is.1,
        h.is.2 known,
        calm_at m.place m.lines (inl h.is.0) h.at.stands,
      );
    }
    reads_head (Ok None) h = record {
      head = h.head;
      given = given_at m h.head bytes (none_seen m.place m.lines.text h.is.0) (h.at.read bytes gave);
      line_max = h.at.line_max ∙ line_max;
      stream_max = h.at.stream_max ∙ stream_max;
      is = (
        front_at m.place h.head (passed_are m h.head h.at),
        h.is.1 known,
        ends_at m.place m.lines h.head h.is.0 (passed_are m h.head h.at) h.at.stands,
        calm_at m.place m.lines h.is.0 h.at.stands,
      );
    }
    reads_head (Err fault) h = record {
      head = h.head ++ seen_at m.place m.lines.text;
      given = h.at.read bytes gave;
      line_max = h.at.line_max ∙ line_max;
      stream_max = h.at.stream_max ∙ stream_max;
      is = head_of_fault m.place fault m.lines.text m.lines h.head h.is (passed_are m h.head h.at) h.at.stands;
    }

  -- whatever the bytes are, what comes behind a text is within the limit
  pub within_head : (m : Standing) (result : Result (Option (State × ℕ)) LineFault) → ReadsText world s m result → IfOk result (λ _. m.lines.taken ≤ m.lines.stream_max)
  within_head m (Ok (Some (x, line))) h = calm_at m.place m.lines (inl h.is.0) h.at.stands
  within_head m (Ok None) h = calm_at m.place m.lines h.is.0 h.at.stands
  within_head m (Err fault) h = tt

  -- a read fault is answered if and only if it is kept
  same_fault : (place : Place) (fault : LineFault) → fault ≡ fault_at place → (fault ≡ ReadFault) ↔ (place ≡ places.Failed ReadFault)
  same_fault (places.Failed f) fault is = (λ e. ap places.Failed (sym is ∙ e), λ e. let same : f ≡ ReadFault = cc in is ∙ same)
  same_fault places.Open fault is = (λ e. cc, λ e. cc)
  same_fault places.Whole fault is = (λ e. cc, λ e. cc)
  same_fault places.TooLong fault is = (λ e. cc, λ e. cc)
  same_fault places.Through fault is = (λ e. cc, λ e. cc)
  same_fault places.Ended fault is = (λ e. cc, λ e. cc)

  not_failed : (place : Place) → (place ≡ places.Through) ⊎ (place ≡ places.Ended) → place ≡ places.Failed ReadFault → ⊥
  not_failed place (inl is) e = cc
  not_failed place (inr is) e = cc

  -- so faults are counted
  pub counts_head : (m : Standing) (result : Result (Option (State × ℕ)) LineFault) → ReadsText world s m result → CountsFaults (result ≡ Err ReadFault) s.failed m.failed
  counts_head m (Ok (Some (x, line))) h = record {
    rose = λ e. cc;
    stays = λ none. h.at.counts.stays (not_failed m.place (inl h.is.0));
    never_falls = h.at.counts.never_falls;
  }
  counts_head m (Ok None) h = record {
    rose = λ e. cc;
    stays = λ none. h.at.counts.stays (not_failed m.place h.is.0);
    never_falls = h.at.counts.never_falls;
  }
  counts_head m (Err fault) h =
      let same = same_fault m.place fault h.is in record {
        rose = λ e. h.at.counts.rose (same.0 (let f : fault ≡ ReadFault = cc in f));
        stays = λ none. h.at.counts.stays (λ kept. none (ap Err (same.1 kept)));
        never_falls = h.at.counts.never_falls;
      }

-- the same, of a text that is known by what was read of it
pub reads_bytes : {State : Type 0} {world : State → World} {s : EndedText} {m : Standing} {result : Result (Option (State × ℕ)) LineFault} → ReadsText world s m result
    → s.first ≡ [] → s.line_max ≡ LINE_LIMIT → s.stream_max ≡ STREAM_LIMIT → (bytes : List ℕ) → s.bytes ≡ Some bytes → ReadsHead world bytes m.lines m.left result
reads_bytes {State} {world} {s} {m} {result} h first line_max stream_max bytes gave = reads_head world s first m bytes line_max stream_max gave result h

pub reads_as : {State : Type 0} {world : State → World} {bytes : List ℕ} {r q : Reader} {left rest : Option (List ℕ)} {result : Result (Option (State × ℕ)) LineFault} → ReadsHead world bytes r left result
    → q ≡ r → rest ≡ left → ReadsHead world bytes q rest result
reads_as {State} {world} {bytes} {r} {q} {left} {rest} {result} h same_r same_left =
    subst (λ (x : Reader). ReadsHead world bytes x rest result) (sym same_r) (subst (λ (x : Option (List ℕ)). ReadsHead world bytes r x result) (sym same_left) h)

-- ---- the beginning

-- no line was passed of a stream before its first line
pub begins : (reader source : ℕ) (left : Option (List ℕ)) (failed : ℕ) (r : Reader) → r ≡ fresh_reader → ((bytes : List ℕ) → HasRead bytes r (Some bytes) [])
    → IsAt (first_text reader source left failed) (record { reader = reader; source = source; lines = r; place = places.Open; left = left; failed = failed }) []
begins reader source left failed r fresh unread = record {
  same_reader = refl;
  same_source = refl;
  line_max = ap (λ (x : Reader). x.line_max) fresh;
  stream_max = ap (λ (x : Reader). x.stream_max) fresh;
  read = λ bytes gave. subst (λ (o : Option (List ℕ)). HasRead bytes r o []) (sym gave) (unread bytes);
  passed = [];
  are = refl;
  text = refl;
  again = λ t. cc;
  stands = subst (λ (x : Reader). StandsAt places.Open x) (sym fresh) (record { begun = refl; ahead = omega arith; within = omega arith });
  counts = record { rose = λ e. cc; stays = λ none. refl; never_falls = omega arith };
}
