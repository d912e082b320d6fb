-- What one step leaves of the lines up to the first `end`.
use Rattle.std.proofs.Common.{◌≡◌, ◌⊎◌, inl, inr, ℕ, ◌^◌, ◌-◌, ◌<◌, ◌≤◌, subst, ◌++◌, Bool, true, false, not, bytes_eq, codes, if◌then◌else◌, true≢false, List, [], ◌∷◌, Option, Some, None, Result, Ok, Err, IsTrue, length, option_map, refl, ap, sym, ◌∙◌, arith, append-nil, append_assoc}
use Rattle.std.proofs.lemmas.Bool.{cases_lt}
use Rattle.byte_lines.specs.Answers.{Advances, HasTaken, IsAnswer, IsStopped, line_given}
use Rattle.byte_lines.specs.Faults.{CountsFaults}
use Rattle.byte_lines.specs.Progress.{HasRead}
use Rattle.byte_lines.specs.Reader.{Reader}
use Rattle.byte_lines.specs.declared.lines.Line.{Line}
use Rattle.byte_lines.specs.declared.lines.Line.TheVariants as lines
use Rattle.byte_lines.specs.declared.lines.LineFault.{LineFault}
use Rattle.byte_lines.specs.declared.lines.LineFault.TheVariants as faults
use Rattle.ended_source.specs.declared.place.Place.{Place}
use Rattle.ended_source.specs.declared.place.Place.TheVariants.{Open, Whole, TooLong, Through, Ended, Failed}
use Rattle.ended_source.specs.Ended.{ArePassed, EndedText, IsAt, IsCalm, Standing, StandsAt, passed_at, after_at, faults_at, giving_at, place_after, place_of, seen_at}
use Rattle.ended_lines.specs.Ended.{has_end, is_end_line, up_to_end}
use Rattle.line_giver.specs.Giving.{HasPassed, IsThrough, known_after, lines_of_giving}
use Rattle.line_giver.specs.Sourced.{lines_unless}
use Rattle.line_giver.proofs.Passing.{passed_nothing}
use Rattle.ended_lines.proofs.Passing.{front_more, has_more}
use Rattle.line_giver.proofs.Reading.{ended_none, left_answered, none_left}

-- the place after an answer
abbrev pub place_told : Result Line LineFault → Place
place_told (Ok line) = place_of line
place_told (Err fault) = Failed fault

-- ---- the lines that are left

-- a line that may be `end`, and those that follow
cut : (b : Bool) (x : Option (List ℕ)) (ls : List (Option (List ℕ))) → (if b then x ∷ [] else x ∷ up_to_end ls) ≡ x ∷ (if b then [] else up_to_end ls)
cut true x ls = refl
cut false x ls = refl

-- once a line was answered, the lines left are that one and those after it
known_up : (result : Result Line LineFault) (new : Reader) (more : Option (List (Option (List ℕ)))) → (result ≡ Ok lines.End → IsThrough more)
    → option_map up_to_end (known_after (line_given result new) more) ≡ known_after (seen_at (place_told result) new.text) (option_map (after_at (place_told result) new.text) more)
known_up (Ok lines.Whole) new None none = refl
known_up (Ok lines.Whole) new (Some ls) none = ap Some (cut (is_end_line (Some new.text)) (Some new.text) ls)
known_up (Ok lines.TooLong) new None none = refl
known_up (Ok lines.TooLong) new (Some ls) none = refl
known_up (Ok lines.End) new None none = refl
known_up (Ok lines.End) new (Some ls) none = ap (λ (t : List (Option (List ℕ))). Some (up_to_end t)) (none refl)
known_up (Err faults.ReadFault) new None none = refl
known_up (Err faults.ReadFault) new (Some ls) none = refl
known_up (Err faults.TooMuch) new None none = refl
known_up (Err faults.TooMuch) new (Some ls) none = refl
known_up (Err faults.NoMemory) new None none = refl
known_up (Err faults.NoMemory) new (Some ls) none = refl

-- two maps, one after another
map_twice : (f : List (Option (List ℕ)) → List (Option (List ℕ))) (g : List ℕ → List (Option (List ℕ))) (o : Option (List ℕ)) → option_map (λ rest. f (g rest)) o ≡ option_map f (option_map g o)
map_twice f g None = refl
map_twice f g (Some rest) = refl

-- a list before nothing is itself
before_none : (o : Option (List (Option (List ℕ)))) → o ≡ known_after [] o
before_none None = refl
before_none (Some lines) = refl

-- a reader that ended gives no line
ended_through : (b : Bool) (r : Reader) (left : Option (List ℕ)) → b ≡ true → IsThrough (option_map (lines_unless b r) left)
ended_through b r None is = tt
ended_through true r (Some rest) is = refl
ended_through false r (Some rest) is = absurd (true≢false (sym is))

-- ---- what was passed

-- two faults that are one answer are one
same_err : (r : Result Line LineFault) (a b : LineFault) → r ≡ Err a → r ≡ Err b → a ≡ b
same_err r a b e e' = cc

-- the stream is within its limit, if the answer does not say otherwise
within : (old new : Reader) (fault : LineFault) → IsAnswer old new (Err fault) → (fault ≡ faults.TooMuch → ⊥) → new.taken ≤ new.stream_max
within old new fault a none = elim (cases_lt new.stream_max new.taken) [ inl lt ↦ absurd (none (same_err (Err fault) fault faults.TooMuch refl (a.too_much.1 lt))) | inr le ↦ le ]

-- after a line or the end
calm_after : (old new : Reader) (line : Line) → IsAnswer old new (Ok line) → IsCalm new
calm_after old new line a = record { begun = a.begun refl; ahead = a.ahead refl; within = elim (cases_lt new.stream_max new.taken) [ inl lt ↦ (let e : Ok line ≡ Err faults.TooMuch = a.too_much.1 lt in cc) | inr le ↦ le ] }

-- a fault of the source, by the place after it
told : (result : Result Line LineFault) → place_told result ≡ Failed faults.ReadFault → result ≡ Err faults.ReadFault
told (Ok lines.Whole) is = cc
told (Ok lines.TooLong) is = cc
told (Ok lines.End) is = cc
told (Err faults.ReadFault) is = refl
told (Err faults.TooMuch) is = cc
told (Err faults.NoMemory) is = cc

-- the count of faults after one more read
counts_after : (result : Result Line LineFault) (a b c : ℕ) → CountsFaults (Open ≡ Failed faults.ReadFault) a b → CountsFaults (result ≡ Err faults.ReadFault) b c
    → CountsFaults (place_told result ≡ Failed faults.ReadFault) a c
counts_after result a b c was is =
    let same : b ≡ a = was.stays (λ (e : Open ≡ Failed faults.ReadFault). cc) in
    let here : CountsFaults (result ≡ Err faults.ReadFault) a c = subst (λ (n : ℕ). CountsFaults (result ≡ Err faults.ReadFault) n c) same is in
    record { rose = λ failed. here.rose (told result failed); stays = λ none. here.stays (λ failed. none (ap place_told failed)); never_falls = here.never_falls }

-- the same count, at two places without a fault of the source
counts_still : {F G : Type 0} (a b : ℕ) → ¬ F → ¬ G → CountsFaults F a b → CountsFaults G a b
counts_still a b not_f not_g was = record { rose = λ g. absurd (not_g g); stays = λ _. was.stays not_f; never_falls = was.never_falls }

-- how the reader stands after an answer
stands_after : (old new : Reader) (result : Result Line LineFault) → IsAnswer old new result → StandsAt (place_told result) new
stands_after old new (Ok lines.Whole) a = calm_after old new lines.Whole a
stands_after old new (Ok lines.TooLong) a = calm_after old new lines.TooLong a
stands_after old new (Ok lines.End) a = (calm_after old new lines.End a, a.end refl)
stands_after old new (Err faults.ReadFault) a = (a.looked (inl refl), a.unfinished refl, within old new faults.ReadFault a (λ (e : faults.ReadFault ≡ faults.TooMuch). cc))
stands_after old new (Err faults.TooMuch) a = (a.looked (inr refl), a.unfinished refl, a.too_much.0 refl)
stands_after old new (Err faults.NoMemory) a = within old new faults.NoMemory a (λ (e : faults.NoMemory ≡ faults.TooMuch). cc)

-- no more lines are `end` after an answer
open_after : (result : Result Line LineFault) (passed : List (Option (List ℕ))) → has_end passed ≡ false → ArePassed (place_told result) passed
open_after (Ok lines.Whole) passed none = none
open_after (Ok lines.TooLong) passed none = none
open_after (Ok lines.End) passed none = none
open_after (Err fault) passed none = none

-- the line that is seen after an answer is the one that was given
seen_after : (result : Result Line LineFault) (new : Reader) → line_given result new ≡ seen_at (place_told result) new.text
seen_after (Ok lines.Whole) new = refl
seen_after (Ok lines.TooLong) new = refl
seen_after (Ok lines.End) new = refl
seen_after (Err fault) new = refl

-- a moment, by its parts
abbrev at : ℕ → ℕ → Reader → Place → Option (List ℕ) → ℕ → Standing
at n m r p o f = record { reader = n; source = m; lines = r; place = p; left = o; failed = f }

-- a call of the reader where no line was seen: nothing is passed
pub looked : {old new : Reader} {left left' : Option (List ℕ)} {m n f f' : ℕ} {place place' : Place} (result : Result Line LineFault)
    → ((bytes : List ℕ) (given : List (Option (List ℕ))) → HasRead bytes old left given → HasRead bytes new left' (given ++ line_given result new))
    → HasTaken old new left left' (line_given result new) → Advances old new result → IsAnswer old new result → (IsStopped old → (new ≡ old) × (left' ≡ left))
    → CountsFaults (result ≡ Err faults.ReadFault) f f' → place ≡ Open → place' ≡ place_told result
    → HasPassed (passed_at (at m n old place left f)) (passed_at (at m n new place' left' f')) (giving_at (at m n old place left f)) (giving_at (at m n new place' left' f')) []
looked {old} {new} {left} {left'} {m} {n} {f} {f'} {place} {place'} result reads took advances answer stops counts is is' =
    subst (λ (p : Place). HasPassed (passed_at (at m n old p left f)) (passed_at (at m n new place' left' f')) (giving_at (at m n old p left f)) (giving_at (at m n new place' left' f')) []) (sym is)
    (subst (λ (p : Place). HasPassed (passed_at (at m n old Open left f)) (passed_at (at m n new p left' f')) (giving_at (at m n old Open left f)) (giving_at (at m n new p left' f')) []) (sym is')
    (record {
      of_stream = λ s before was. record {
        same_reader = was.same_reader;
        same_source = was.same_source;
        line_max = advances.line_max ∙ was.line_max;
        stream_max = advances.stream_max ∙ was.stream_max;
        read = λ bytes e. subst (λ x. HasRead bytes new left' ((before ++ []) ++ x)) (seen_after result new) (reads bytes (before ++ []) (was.read bytes e));
        passed = was.passed;
        are = append-nil before ∙ was.are;
        text = open_after result was.passed was.text;
        again = λ t. subst (λ (r : Reader). IsTrue r.ended) (sym (stops (inl (was.again t))).0) (was.again t);
        stands = stands_after old new result answer;
        counts = counts_after result s.failed f f' was.counts counts;
      };
      left =
          sym (before_none (option_map (λ rest. up_to_end (lines_unless old.ended old rest)) left))
          ∙ map_twice up_to_end (lines_unless old.ended old) left
          ∙ ap (option_map up_to_end) (left_answered old new left left' (line_given result new) old.ended new.ended refl refl took advances.stream_max
          (λ t. let same = stops (inl t) in (same.0, same.1, ended_none new result (answer.end_again t))) (λ t. none_left new (answer.done t)))
          ∙ known_up result new (option_map (lines_unless new.ended new) left') (λ e. ended_through new.ended new left' (answer.end e))
          ∙ ap (known_after (seen_at (place_told result) new.text)) (sym (map_twice (after_at (place_told result) new.text) (lines_unless new.ended new) left'))
          ∙ before_none (lines_of_giving (giving_at (at m n new (place_told result) left' f')));
    }))

-- ---- a line that was seen is passed

-- the lines that are left once a whole line was passed
after_whole : (b : Bool) (text : List ℕ) (more : Option (List (Option (List ℕ)))) → bytes_eq text (codes "end") ≡ b
    → known_after (Some text ∷ []) (option_map (after_at Whole text) more) ≡ known_after (Some text ∷ []) (known_after (seen_at (if b then Through else Open) text) (option_map (after_at (if b then Through else Open) text) more))
after_whole true text None is = refl
after_whole true text (Some ls) is = rw is refl
after_whole false text None is = refl
after_whole false text (Some ls) is = rw is refl

-- the lines that were passed, with that one
closed_after : (b : Bool) (text : List ℕ) (passed : List (Option (List ℕ))) → bytes_eq text (codes "end") ≡ b → has_end passed ≡ false → ArePassed (if b then Through else Open) (passed ++ Some text ∷ [])
closed_after true text passed is none = record {
  front = front_more passed (Some text ∷ []) none ∙ rw is refl;
  has = has_more passed (Some text ∷ []) none ∙ rw is refl;
}
closed_after false text passed is none = has_more passed (Some text ∷ []) none ∙ rw is refl

-- the reader stands as before
calm_by : (b : Bool) (r : Reader) → IsCalm r → StandsAt (if b then Through else Open) r
calm_by true r calm = calm
calm_by false r calm = calm

-- no fault
by_no_fault : (b : Bool) → (if b then Through else Open) ≡ Failed faults.ReadFault → ⊥
by_no_fault true e = cc
by_no_fault false e = cc

-- no line is seen
by_unseen : (b : Bool) (text : List ℕ) → seen_at (if b then Through else Open) text ≡ []
by_unseen true text = refl
by_unseen false text = refl

-- the whole line that was seen is passed
pub whole_passed : {r : Reader} {left : Option (List ℕ)} {m n f : ℕ} {place place' : Place} → place ≡ Whole → place' ≡ place_after r.text
    → HasPassed (passed_at (at m n r place left f)) (passed_at (at m n r place' left f)) (giving_at (at m n r place left f)) (giving_at (at m n r place' left f)) (seen_at place r.text)
whole_passed {r} {left} {m} {n} {f} {place} {place'} is is' =
    let b : Bool = bytes_eq r.text (codes "end") in
    subst (λ (p : Place). HasPassed (passed_at (at m n r p left f)) (passed_at (at m n r place' left f)) (giving_at (at m n r p left f)) (giving_at (at m n r place' left f)) (seen_at p r.text)) (sym is)
    (subst (λ (p : Place). HasPassed (passed_at (at m n r Whole left f)) (passed_at (at m n r p left f)) (giving_at (at m n r Whole left f)) (giving_at (at m n r p left f)) (Some r.text ∷ [])) (sym is')
    (record {
      of_stream = λ s before was. record {
        same_reader = was.same_reader;
        same_source = was.same_source;
        line_max = was.line_max;
        stream_max = was.stream_max;
        read = λ bytes e. subst (λ (x : List (Option (List ℕ))). HasRead bytes r left x) (sym (ap (λ (x : List (Option (List ℕ))). (before ++ Some r.text ∷ []) ++ x) (by_unseen b r.text) ∙ append-nil (before ++ Some r.text ∷ []))) (was.read bytes e);
        passed = was.passed ++ Some r.text ∷ [];
        are = ap (λ (x : List (Option (List ℕ))). x ++ Some r.text ∷ []) was.are ∙ append_assoc s.first was.passed (Some r.text ∷ []);
        text = closed_after b r.text was.passed refl was.text;
        again = was.again;
        stands = calm_by b r was.stands;
        counts = counts_still s.failed f (λ (e : Whole ≡ Failed faults.ReadFault). cc) (by_no_fault b) was.counts;
      };
      left =
          ap (known_after (Some r.text ∷ [])) (map_twice (after_at Whole r.text) (lines_unless r.ended r) left)
          ∙ after_whole b r.text (option_map (lines_unless r.ended r) left) refl
          ∙ ap (λ (x : Option (List (Option (List ℕ)))). known_after (Some r.text ∷ []) (known_after (seen_at (if b then Through else Open) r.text) x)) (sym (map_twice (after_at (if b then Through else Open) r.text) (lines_unless r.ended r) left));
    }))

-- the line that was seen and is too long is passed
pub long_passed : {r : Reader} {left : Option (List ℕ)} {m n f : ℕ} {place : Place} → place ≡ TooLong
    → HasPassed (passed_at (at m n r place left f)) (passed_at (at m n r Open left f)) (giving_at (at m n r place left f)) (giving_at (at m n r Open left f)) (seen_at place r.text)
long_passed {r} {left} {m} {n} {f} {place} is =
    subst (λ (p : Place). HasPassed (passed_at (at m n r p left f)) (passed_at (at m n r Open left f)) (giving_at (at m n r p left f)) (giving_at (at m n r Open left f)) (seen_at p r.text)) (sym is)
    (record {
      of_stream = λ s before was. record {
        same_reader = was.same_reader;
        same_source = was.same_source;
        line_max = was.line_max;
        stream_max = was.stream_max;
        read = λ bytes e. subst (λ (x : List (Option (List ℕ))). HasRead bytes r left x) (sym (append-nil (before ++ None ∷ []))) (was.read bytes e);
        passed = was.passed ++ None ∷ [];
        are = ap (λ (x : List (Option (List ℕ))). x ++ None ∷ []) was.are ∙ append_assoc s.first was.passed (None ∷ []);
        text = has_more was.passed (None ∷ []) was.text ∙ refl;
        again = was.again;
        stands = was.stands;
        counts = counts_still s.failed f (λ (e : TooLong ≡ Failed faults.ReadFault). cc) (λ (e : Open ≡ Failed faults.ReadFault). cc) was.counts;
      };
      left = ap (known_after (None ∷ [])) (before_none (option_map (λ rest. up_to_end (lines_unless r.ended r rest)) left));
    })

-- where no line is seen, none is passed
pub none_passed : {r : Reader} {left : Option (List ℕ)} {m n f : ℕ} {place : Place} → seen_at place r.text ≡ []
    → HasPassed (passed_at (at m n r place left f)) (passed_at (at m n r place left f)) (giving_at (at m n r place left f)) (giving_at (at m n r place left f)) (seen_at place r.text)
none_passed {r} {left} {m} {n} {f} {place} none =
    subst (λ (x : List (Option (List ℕ))). HasPassed (passed_at (at m n r place left f)) (passed_at (at m n r place left f)) (giving_at (at m n r place left f)) (giving_at (at m n r place left f)) x) (sym none)
    passed_nothing
