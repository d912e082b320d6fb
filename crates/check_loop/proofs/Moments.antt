-- What the reading of a text leaves of the reader, by the place where it ended.
use Rattle.std.proofs.Common.{◌≡◌, ◌⊎◌, ◌↔◌, inl, inr, ℕ, ◌++◌, ◌≤◌, ◌<◌, Bool, true, false, true≢false, List, [], ◌∷◌, Option, Some, None, Result, Ok, Err, IsTrue, option_map, refl, ap, sym, ◌∙◌, subst, append-nil, append_assoc, arith}
use Rattle.std.specs.Option.{ForSome}
use Rattle.std.specs.Result.{IsErrAnd}
use Rattle.std.proofs.lemmas.Bool.{false≢true}
use Rattle.std.proofs.lemmas.List.{append_cancel_left}
use Rattle.std.proofs.lemmas.Option.{none-some, same_Some}
use Rattle.byte_lines.specs.Faults.{CountsFaults}
use Rattle.byte_lines.specs.Progress.{HasRead}
use Rattle.byte_lines.specs.Reader.{Reader}
use Rattle.byte_lines.specs.declared.lines.Line.{Line}
use Rattle.byte_lines.specs.declared.lines.Line.TheVariants as lines
use Rattle.byte_lines.specs.declared.lines.LineFault.{LineFault}
use Rattle.byte_lines.specs.declared.lines.LineFault.TheVariants as faults
use Rattle.ended_lines.specs.Ended.{has_end, up_to_end}
use Rattle.ended_source.specs.Ended.{ArePassed, EndedText, EndsAt, IsAt, IsCalm, IsClosed, Standing, StandsAt, Tells, after_at, giving_at, passed_at, seen_at}
use Rattle.ended_source.specs.Faults.{fault_at}
use Rattle.ended_source.specs.declared.place.Place.{Place}
use Rattle.ended_source.specs.declared.place.Place.TheVariants.{Open, Whole, TooLong, Through, Ended, Failed}
use Rattle.line_giver.specs.Giving.{HasPassed, PassesSome, known_after, lines_of_giving}
use Rattle.line_giver.specs.Sourced.{lines_unless}
use Rattle.line_giver.proofs.Passing.{passes_both}
use Rattle.check_loop.specs.Next.{HasNext, IsAnswered, IsBroken, IsFailed, IsLeft, IsNext, IsPassed, IsThrough}

-- ---- the first moment

-- the text that begins where a reader is
abbrev pub text_at : Standing → Option (List ℕ) → List (Option (List ℕ)) → EndedText
text_at m bytes given = record {
  reader = m.reader;
  source = m.source;
  bytes = bytes;
  failed = m.failed;
  first = given;
  ended = m.lines.ended;
  line_max = m.lines.line_max;
  stream_max = m.lines.stream_max;
}

-- nothing of it is passed
pub begun : (m : Standing) (bytes : Option (List ℕ)) (given : List (Option (List ℕ))) → m.place ≡ Open → IsCalm m.lines → ForSome bytes (λ b. HasRead b m.lines m.left given) → IsAt (text_at m bytes given) m given
begun m bytes given opened calm read = record {
  same_reader = refl;
  same_source = refl;
  line_max = refl;
  stream_max = refl;
  read = λ b e. subst (λ (l : List (Option (List ℕ))). HasRead b m.lines m.left l) (sym (ap (λ (p : Place). given ++ seen_at p m.lines.text) opened ∙ append-nil given)) (read b e);
  passed = [];
  are = sym (append-nil given);
  text = subst (λ (p : Place). ArePassed p []) (sym opened) refl;
  again = λ t. t;
  stands = subst (λ (p : Place). StandsAt p m.lines) (sym opened) calm;
  counts = record { rose = λ failed. (let e : Open ≡ Failed faults.ReadFault = sym opened ∙ failed in cc); stays = λ _. refl; never_falls = omega arith };
}

-- ---- a fault

-- a Bool that does not become true was false
was_false : (a b : Bool) → (IsTrue a → IsTrue b) → b ≡ false → a ≡ false
was_false false b again is = refl
was_false true b again is = absurd (true≢false (sym (again refl) ∙ is))

module _ {bytes : List ℕ} {given : List (Option (List ℕ))} (s : EndedText) (m : Standing) (before : List (Option (List ℕ))) (p : Place) (at : m.place ≡ p) (known : s.bytes ≡ Some bytes) (first : s.first ≡ given) (was : IsAt s m before) where
  -- the lines that the reader gave of the text
  gave : HasRead bytes m.lines m.left (given ++ (was.passed ++ seen_at p m.lines.text))
  gave =
      subst (λ (l : List (Option (List ℕ))). HasRead bytes m.lines m.left l)
      (ap (λ (l : List (Option (List ℕ))). l ++ seen_at m.place m.lines.text) was.are
      ∙ ap (λ (l : List (Option (List ℕ))). l ++ was.passed ++ seen_at m.place m.lines.text) first
      ∙ ap (λ (q : Place). given ++ was.passed ++ seen_at q m.lines.text) at
      ∙ append_assoc given was.passed (seen_at p m.lines.text))
      (was.read bytes known)

  stood : StandsAt p m.lines
  stood = subst (λ (q : Place). StandsAt q m.lines) at was.stands

  texted : ArePassed p was.passed
  texted = subst (λ (q : Place). ArePassed q was.passed) at was.text

-- none of the lines is `end`, nor of no more
still_open : (passed : List (Option (List ℕ))) → has_end passed ≡ false → has_end (passed ++ []) ≡ false
still_open passed none = ap has_end (append-nil passed) ∙ none

-- the reading broke off at this place
pub failed : (IsRight : List (Option (List ℕ)) → Type 0) {bytes : List ℕ} {given : List (Option (List ℕ))} (r : Reader) (s : EndedText) (m : Standing) (before : List (Option (List ℕ))) (p : Place) → m.place ≡ p
    → s.bytes ≡ Some bytes → s.first ≡ given → s.ended ≡ r.ended → IsAt s m before → IsNext IsRight bytes given r m.lines m.left (Err (fault_at p))
failed IsRight r s m before Open at known first ended was = record {
  text = was.passed ++ [];
  read = gave s m before Open at known first was;
  within = (stood s m before Open at known first was).within;
  again = λ t. was.again (ended ∙ t);
}
failed IsRight r s m before Whole at known first ended was = record {
  text = was.passed ++ Some m.lines.text ∷ [];
  read = gave s m before Whole at known first was;
  within = (stood s m before Whole at known first was).within;
  again = λ t. was.again (ended ∙ t);
}
failed IsRight r s m before TooLong at known first ended was = record {
  text = was.passed ++ None ∷ [];
  read = gave s m before TooLong at known first was;
  within = (stood s m before TooLong at known first was).within;
  again = λ t. was.again (ended ∙ t);
}
failed IsRight r s m before Through at known first ended was = record {
  text = was.passed ++ [];
  read = gave s m before Through at known first was;
  within = (stood s m before Through at known first was).within;
  again = λ t. was.again (ended ∙ t);
}
failed IsRight r s m before Ended at known first ended was = record {
  text = was.passed ++ [];
  read = gave s m before Ended at known first was;
  within = (stood s m before Ended at known first was).0.within;
  again = λ t. was.again (ended ∙ t);
}
failed IsRight r s m before (Failed faults.ReadFault) at known first ended was =
    let stands = stood s m before (Failed faults.ReadFault) at known first was in
    record {
      text = was.passed ++ [];
      read = gave s m before (Failed faults.ReadFault) at known first was;
      broken = record {
        unended = still_open was.passed (texted s m before (Failed faults.ReadFault) at known first was);
        ahead = stands.0;
        goes = stands.1;
        went = was_false r.ended m.lines.ended (λ t. was.again (ended ∙ t)) stands.1;
      };
      limit = stands.2;
    }
failed IsRight r s m before (Failed faults.TooMuch) at known first ended was =
    let stands = stood s m before (Failed faults.TooMuch) at known first was in
    record {
      text = was.passed ++ [];
      read = gave s m before (Failed faults.TooMuch) at known first was;
      broken = record {
        unended = still_open was.passed (texted s m before (Failed faults.TooMuch) at known first was);
        ahead = stands.0;
        goes = stands.1;
        went = was_false r.ended m.lines.ended (λ t. was.again (ended ∙ t)) stands.1;
      };
      limit = stands.2;
    }
failed IsRight r s m before (Failed faults.NoMemory) at known first ended was = record {
  text = was.passed ++ [];
  read = gave s m before (Failed faults.NoMemory) at known first was;
  within = stood s m before (Failed faults.NoMemory) at known first was;
  again = λ t. was.again (ended ∙ t);
}

-- ---- no line is left

-- nothing was passed where all is given as before
none_passed : (given passed : List (Option (List ℕ))) → given ++ [] ≡ given ++ passed → passed ≡ []
none_passed given passed is = sym (append_cancel_left given [] passed is)

-- the first look sees no line
pub ended_here : {IsRight : List (Option (List ℕ)) → Type 0} {bytes : List ℕ} {given : List (Option (List ℕ))} (r : Reader) (s : EndedText) (m : Standing) → (m.place ≡ Through) ⊎ (m.place ≡ Ended)
    → s.bytes ≡ Some bytes → s.first ≡ given → IsAt s m (given ++ []) → IsNext IsRight bytes given r m.lines m.left (Ok None)
ended_here {IsRight} {bytes} {given} r s m (inl at) known first was =
    let none : was.passed ≡ [] = none_passed given was.passed (was.are ∙ ap (λ (l : List (Option (List ℕ))). l ++ was.passed) first) in
    let closed : IsClosed was.passed = texted s m (given ++ []) Through at known first was in
    absurd (false≢true (ap has_end (sym none) ∙ closed.has))
ended_here {IsRight} {bytes} {given} r s m (inr at) known first was =
    let none : was.passed ≡ [] = none_passed given was.passed (was.are ∙ ap (λ (l : List (Option (List ℕ))). l ++ was.passed) first) in
    let stands = stood s m (given ++ []) Ended at known first was in
    record {
      read =
          subst (λ (l : List (Option (List ℕ))). HasRead bytes m.lines m.left l) (ap (λ (l : List (Option (List ℕ))). given ++ (l ++ [])) none ∙ append-nil given)
          (gave s m (given ++ []) Ended at known first was);
      ended = stands.1;
      calm = stands.0;
    }

-- ---- a text was passed

-- a line is seen where the answer says so
some_seen : (m : Standing) (line : Line) → Tells m.place (Ok line) → (line ≡ lines.End → ⊥) → seen_at m.place m.lines.text ≡ [] → ⊥
some_seen m lines.Whole at other none =
    let e : Some m.lines.text ∷ [] ≡ [] = sym (ap (λ (p : Place). seen_at p m.lines.text) at) ∙ none in cc
some_seen m lines.TooLong at other none =
    let e : None ∷ [] ≡ [] = sym (ap (λ (p : Place). seen_at p m.lines.text) at) ∙ none in cc
some_seen m lines.End at other none = other refl

-- known lines with one that is seen
pub not_none : (seen ls all : List (Option (List ℕ))) → (seen ≡ [] → ⊥) → seen ++ ls ≡ all → all ≡ [] → ⊥
not_none [] ls all some is none = some refl
not_none (x ∷ xs) ls all some is none = let e : x ∷ (xs ++ ls) ≡ [] = is ∙ none in cc

-- at the end of a text that is known no line is left of it
end_known : (m : Standing) (bytes rest : List ℕ) → (m.place ≡ Through) ⊎ (m.place ≡ Ended) → m.left ≡ Some rest → lines_of_giving (giving_at m) ≡ Some []
end_known m bytes rest (inl at) left = ap (λ (p : Place). known_after (seen_at p m.lines.text) (option_map (λ x. after_at p m.lines.text (lines_unless m.lines.ended m.lines x)) m.left)) at
    ∙ ap (λ (o : Option (List ℕ)). known_after [] (option_map (λ x. []) o)) left
end_known m bytes rest (inr at) left = ap (λ (p : Place). known_after (seen_at p m.lines.text) (option_map (λ x. after_at p m.lines.text (lines_unless m.lines.ended m.lines x)) m.left)) at
    ∙ ap (λ (o : Option (List ℕ)). known_after [] (option_map (λ x. []) o)) left

-- a reader that ended before has no line to give
none_of_ended : (m : Standing) (b : Bool) (rest : List ℕ) → m.place ≡ Open → m.lines.ended ≡ b → b ≡ true → m.left ≡ Some rest → lines_of_giving (giving_at m) ≡ Some []
none_of_ended m false rest at is t left = absurd (false≢true t)
none_of_ended m true rest at is t left =
    ap (λ (p : Place). known_after (seen_at p m.lines.text) (option_map (λ x. after_at p m.lines.text (lines_unless m.lines.ended m.lines x)) m.left)) at
    ∙ ap (λ (o : Option (List ℕ)). known_after [] (option_map (λ x. up_to_end (lines_unless m.lines.ended m.lines x)) o)) left
    ∙ ap (λ (e : Bool). Some (up_to_end (lines_unless e m.lines rest))) is

-- either a Bool is true, or it is false
false_by : (b : Bool) → (IsTrue b → ⊥) → b ≡ false
false_by false none = refl
false_by true none = absurd (none refl)

-- how a text ended
passed_by : (s : EndedText) (m : Standing) (before : List (Option (List ℕ))) → (m.place ≡ Through) ⊎ (m.place ≡ Ended) → (was : IsAt s m before) → IsPassed m.lines was.passed
passed_by s m before (inl at) was = inl (subst (λ (q : Place). ArePassed q was.passed) at was.text)
passed_by s m before (inr at) was =
    let stands : IsCalm m.lines × IsTrue m.lines.ended = subst (λ (q : Place). StandsAt q m.lines) at was.stands in
    inr (stands.1, subst (λ (q : Place). ArePassed q was.passed) at was.text)

calm_by : (s : EndedText) (m : Standing) (before : List (Option (List ℕ))) → (m.place ≡ Through) ⊎ (m.place ≡ Ended) → IsAt s m before → IsCalm m.lines
calm_by s m before (inl at) was = subst (λ (q : Place). StandsAt q m.lines) at was.stands
calm_by s m before (inr at) was =
    let stands : IsCalm m.lines × IsTrue m.lines.ended = subst (λ (q : Place). StandsAt q m.lines) at was.stands in stands.0

-- at the end of a text no line is seen
unseen_by : (m : Standing) → (m.place ≡ Through) ⊎ (m.place ≡ Ended) → seen_at m.place m.lines.text ≡ []
unseen_by m (inl at) = ap (λ (p : Place). seen_at p m.lines.text) at
unseen_by m (inr at) = ap (λ (p : Place). seen_at p m.lines.text) at

-- known lines, of which one is seen
some_known : (seen all : List (Option (List ℕ))) (o : Option (List (Option (List ℕ)))) → known_after seen o ≡ Some all → (seen ≡ [] → ⊥) → all ≡ [] → ⊥
some_known seen all None is some none = none-some all is
some_known seen all (Some ls) is some none = not_none seen ls all some (same_Some (seen ++ ls) all is) none

-- a text was passed and answered: from the first moment on, past the first look, to the last
pub answered : {IsRight : List (Option (List ℕ)) → Type 0} {bytes : List ℕ} {given : List (Option (List ℕ))} (m0 m1 m3 : Standing) (line : Line) (answer : Bool)
    → m0.place ≡ Open → IsAt (text_at m0 (Some bytes) given) m0 given
    → HasPassed (passed_at m0) (passed_at m1) (giving_at m0) (giving_at m1) [] → Tells m1.place (Ok line) → (line ≡ lines.End → ⊥)
    → ((all : List (Option (List ℕ))) → lines_of_giving (giving_at m1) ≡ Some all → (answer ≡ true) ↔ IsRight all)
    → PassesSome (passed_at m1) (passed_at m3) (giving_at m1) (giving_at m3) → (m3.place ≡ Through) ⊎ (m3.place ≡ Ended)
    → IsNext IsRight bytes given m0.lines m3.lines m3.left (Ok (Some answer))
answered {IsRight} {bytes} {given} m0 m1 m3 line answer opened start look told other right more ends =
    let s : EndedText = text_at m0 (Some bytes) given in
    let at1 : IsAt s m1 (given ++ []) = look.of_stream s given start in
    let at3 : IsAt s m3 ((given ++ []) ++ more.lines) = more.passed.of_stream s (given ++ []) at1 in
    let read0 : HasRead bytes m0.lines m0.left (given ++ seen_at m0.place m0.lines.text) = start.read bytes refl in
    let read3 : HasRead bytes m3.lines m3.left (given ++ (at3.passed ++ seen_at m3.place m3.lines.text)) = gave s m3 ((given ++ []) ++ more.lines) m3.place refl refl refl at3 in
    let are : more.lines ≡ at3.passed = append_cancel_left given more.lines at3.passed (ap (λ (l : List (Option (List ℕ))). l ++ more.lines) (sym (append-nil given)) ∙ at3.are) in
    let known : lines_of_giving (giving_at m1) ≡ Some at3.passed =
    more.passed.left ∙ ap (known_after more.lines) (end_known m3 bytes read3.rest ends read3.told) ∙ ap Some (append-nil more.lines ∙ are) in
    let some : at3.passed ≡ [] → ⊥ = some_known (seen_at m1.place m1.lines.text) at3.passed (giving_at m1).after known (some_seen m1 line told other) in
    record {
      text = at3.passed;
      read = subst (λ (l : List (Option (List ℕ))). HasRead bytes m3.lines m3.left l) (ap (λ (l : List (Option (List ℕ))). given ++ (at3.passed ++ l)) (unseen_by m3 ends) ∙ ap (λ (l : List (Option (List ℕ))). given ++ l) (append-nil at3.passed)) read3;
      right = right at3.passed known;
      some = some;
      went = false_by m0.lines.ended (λ t. some (sym (same_Some [] at3.passed (sym (none_of_ended m0 m0.lines.ended read0.rest opened refl t read0.told) ∙ look.left ∙ ap (known_after []) known))));
      passed = passed_by s m3 ((given ++ []) ++ more.lines) ends at3;
      calm = calm_by s m3 ((given ++ []) ++ more.lines) ends at3;
    }

-- ---- all of it

-- a failed read, by the place
read_fault : (p : Place) → fault_at p ≡ faults.ReadFault → p ≡ Failed faults.ReadFault
read_fault Open e = cc
read_fault Whole e = cc
read_fault TooLong e = cc
read_fault Through e = cc
read_fault Ended e = cc
read_fault (Failed f) e = ap Failed e

-- the fault of an answer
same_fault : (r : Result (Option Bool) LineFault) (a b : LineFault) → r ≡ Err a → r ≡ Err b → a ≡ b
same_fault r a b e e' = cc

-- no read failed where a text ended
not_failed : (p : Place) → (p ≡ Through) ⊎ (p ≡ Ended) → p ≡ Failed faults.ReadFault → ⊥
not_failed p (inl at) e = let f : Through ≡ Failed faults.ReadFault = sym at ∙ e in cc
not_failed p (inr at) e = let f : Ended ≡ Failed faults.ReadFault = sym at ∙ e in cc

-- nothing is known of the stream
unknown : (m0 : Standing) (b : List ℕ) → None ≡ Some b → HasRead b m0.lines m0.left []
unknown m0 b e = absurd (none-some b e)

module _ {m0 m : Standing} (opened : m0.place ≡ Open) (calm : IsCalm m0.lines) (more : PassesSome (passed_at m0) (passed_at m) (giving_at m0) (giving_at m)) where
  -- the lines of a stream that is not known
  any : IsAt (text_at m0 None []) m ([] ++ more.lines)
  any = more.passed.of_stream (text_at m0 None []) [] (begun m0 None [] opened calm (unknown m0))

  pub same_reader : m.reader ≡ m0.reader
  same_reader = any.same_reader

  pub same_source : m.source ≡ m0.source
  same_source = any.same_source

  -- of a stream that is known
  pub start : (bytes : List ℕ) (given : List (Option (List ℕ))) → HasRead bytes m0.lines m0.left given → IsAt (text_at m0 (Some bytes) given) m0 given
  start bytes given read = begun m0 (Some bytes) given opened calm (λ b e. subst (λ x. HasRead x m0.lines m0.left given) (same_Some bytes b e) read)

  -- there was a fault
  pub by_fault : {IsRight : List (Option (List ℕ)) → Type 0} (fault : LineFault) → fault ≡ fault_at m.place → HasNext IsRight m0.lines m.lines m0.left m.left m0.failed m.failed (Err fault)
  by_fault {IsRight} fault is = record {
    next = λ bytes given read.
        let s : EndedText = text_at m0 (Some bytes) given in
        subst (λ (f : LineFault). IsNext IsRight bytes given m0.lines m.lines m.left (Err f)) (sym is)
        (failed IsRight m0.lines s m (given ++ more.lines) m.place refl refl refl refl (more.passed.of_stream s given (start bytes given read)));
    line_max = any.line_max;
    stream_max = any.stream_max;
    calm = λ d e. cc;
    counts = record {
      rose = λ e. any.counts.rose (read_fault m.place (sym is ∙ same_fault (Err fault) fault faults.ReadFault refl e));
      stays = λ none. any.counts.stays (λ at. none (ap Err (is ∙ ap fault_at at)));
      never_falls = any.counts.never_falls;
    };
  }

  -- by an answer that is no fault
  by_done : {IsRight : List (Option (List ℕ)) → Type 0} (what : Option Bool) → (m.place ≡ Through) ⊎ (m.place ≡ Ended)
      → ((bytes : List ℕ) (given : List (Option (List ℕ))) → HasRead bytes m0.lines m0.left given → IsNext IsRight bytes given m0.lines m.lines m.left (Ok what))
      → HasNext IsRight m0.lines m.lines m0.left m.left m0.failed m.failed (Ok what)
  by_done {IsRight} what at next = record {
    next = next;
    line_max = any.line_max;
    stream_max = any.stream_max;
    calm = λ d e. calm_by (text_at m0 None []) m ([] ++ more.lines) at any;
    counts = record { rose = λ e. cc; stays = λ none. any.counts.stays (not_failed m.place at); never_falls = any.counts.never_falls };
  }

-- no line was left
pub by_none : {IsRight : List (Option (List ℕ)) → Type 0} {m0 m1 : Standing} (line : Line) → m0.place ≡ Open → IsCalm m0.lines → HasPassed (passed_at m0) (passed_at m1) (giving_at m0) (giving_at m1) [] → Tells m1.place (Ok line) → line ≡ lines.End
    → HasNext IsRight m0.lines m1.lines m0.left m1.left m0.failed m1.failed (Ok None)
by_none {IsRight} {m0} {m1} line opened calm look told is =
    let more : PassesSome (passed_at m0) (passed_at m1) (giving_at m0) (giving_at m1) = record { lines = []; passed = look } in
    let at : (m1.place ≡ Through) ⊎ (m1.place ≡ Ended) = subst (λ (l : Line). Tells m1.place (Ok l)) is told in
    by_done opened calm more None at (λ bytes given read.
    ended_here m0.lines (text_at m0 (Some bytes) given) m1 at refl refl (look.of_stream (text_at m0 (Some bytes) given) given (start opened calm more bytes given read)))

-- a text was answered
pub by_answer : {IsRight : List (Option (List ℕ)) → Type 0} {m0 m1 m3 : Standing} (line : Line) (answer : Bool) → m0.place ≡ Open → IsCalm m0.lines
    → HasPassed (passed_at m0) (passed_at m1) (giving_at m0) (giving_at m1) [] → Tells m1.place (Ok line) → (line ≡ lines.End → ⊥)
    → ((all : List (Option (List ℕ))) → lines_of_giving (giving_at m1) ≡ Some all → (answer ≡ true) ↔ IsRight all)
    → PassesSome (passed_at m1) (passed_at m3) (giving_at m1) (giving_at m3) → (m3.place ≡ Through) ⊎ (m3.place ≡ Ended)
    → HasNext IsRight m0.lines m3.lines m0.left m3.left m0.failed m3.failed (Ok (Some answer))
by_answer {IsRight} {m0} {m1} {m3} line answer opened calm look told other right more at =
    let all : PassesSome (passed_at m0) (passed_at m3) (giving_at m0) (giving_at m3) = passes_both (record { lines = []; passed = look }) more in
    by_done opened calm all (Some answer) at (λ bytes given read.
    answered m0 m1 m3 line answer opened (start opened calm all bytes given read) look told other right more at)

-- ---- who lent the reader and the source has them back

-- an answer that is a fault
err_is : {A E : Type 0} (r : Result A E) (e : E) → IsErrAnd r (λ x. x ≡ e) → r ≡ Err e
err_is (Ok x) e is = absurd is
err_is (Err x) e is = ap Err is

pub by_fault_as : {IsRight : List (Option (List ℕ)) → Type 0} {r r' : Reader} {left left' : Option (List ℕ)} {f f' : ℕ} {result : Result (Option Bool) LineFault} {fault : LineFault}
    → HasNext IsRight r r' left left' f f' (Err fault) → IsErrAnd result (λ x. x ≡ fault) → HasNext IsRight r r' left left' f f' result
by_fault_as {IsRight} {r} {r'} {left} {left'} {f} {f'} {result} {fault} h is = subst (λ (x : Result (Option Bool) LineFault). HasNext IsRight r r' left left' f f' x) (sym (err_is result fault is)) h

pub back : {S : Type 0} (left_of : S → Option (List ℕ)) (failed_of : S → ℕ) {IsRight : List (Option (List ℕ)) → Type 0} {r : Reader} {left : Option (List ℕ)} {f n n' m m' : ℕ} (lines lines' : Reader) (s s' : S) {result : Result (Option Bool) LineFault}
    → HasNext IsRight r lines left (left_of s) f (failed_of s) result → n' ≡ n → m' ≡ m → (n ≡ n' → lines' ≡ lines) → (m ≡ m' → s' ≡ s) → HasNext IsRight r lines' left (left_of s') f (failed_of s') result
back left_of failed_of {IsRight} {r} {left} {f} lines lines' s s' {result} h same_n same_m to_lines to_s =
    subst (λ (x : Reader). HasNext IsRight r x left (left_of s') f (failed_of s') result) (sym (to_lines (sym same_n)))
    (subst (λ x. HasNext IsRight r lines left (left_of x) f (failed_of x) result) (sym (to_s (sym same_m))) h)
