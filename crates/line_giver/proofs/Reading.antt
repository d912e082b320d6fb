-- What a call for the next line leaves to a giver of lines.
use Rattle.std.proofs.Common.{◌≡◌, ℕ, zero, suc, subst, true≢false, ◌-◌, ◌++◌, Bool, true, false, List, [], ◌∷◌, Option, Some, None, Result, Ok, Err, length, take, option_map, refl, ap, sym, ◌∙◌, inl, arith, append-nil}
use Rattle.byte_lines.specs.Answers.{Advances, HasTaken, IsAnswer, IsStopped, line_given}
use Rattle.byte_lines.specs.Progress.{HasRead}
use Rattle.byte_lines.specs.Reader.{Reader, heeded, lines_left}
use Rattle.byte_lines.specs.declared.lines.Line.{Line}
use Rattle.byte_lines.specs.declared.lines.Line.TheVariants.{Whole, TooLong, End}
use Rattle.byte_lines.specs.declared.lines.LineFault.{LineFault}
use Rattle.line_giver.specs.Giving.{HasPassed, lines_of_giving, known_after, seen_line}
use Rattle.line_giver.specs.Sourced.{HasPassedOf, giving_of, lines_unless}

-- what a giver holds after the answer: the line that it looked at, if one came
abbrev pub held_after : Result Line LineFault → Line
held_after (Ok line) = line
held_after (Err fault) = End

-- the line that came is the one that is held
pub given_is_seen : (result : Result Line LineFault) (new : Reader) → line_given result new ≡ seen_line (held_after result) new.text
given_is_seen (Ok Whole) new = refl
given_is_seen (Ok TooLong) new = refl
given_is_seen (Ok End) new = refl
given_is_seen (Err fault) new = refl

-- the front of two lists
take_both : (k : ℕ) (xs ys : List ℕ) → take k (xs ++ ys) ≡ take k xs ++ take (k - length xs) ys
take_both zero xs ys = (let none : 0 ≡ 0 - length xs = omega arith in ap (λ (n : ℕ). take n ys) none)
take_both (suc k) [] ys = (let all : suc k ≡ suc k - 0 = omega arith in ap (λ (n : ℕ). take n ys) all)
take_both (suc k) (x ∷ xs) ys =
    ap (λ (t : List ℕ). x ∷ t) (take_both k xs ys) ∙ (let fewer : k - length xs ≡ suc k - suc (length xs) = omega arith in ap (λ (n : ℕ). x ∷ (take k xs ++ take n ys)) fewer)

-- the lines that were left are those that came and those still to come
left_going : (old new : Reader) (left : Option (List ℕ)) (rest : List ℕ) (given : List (Option (List ℕ))) → HasTaken old new left (Some rest) given → new.stream_max ≡ old.stream_max → new.ended ≡ false
    → option_map (lines_unless false old) left ≡ Some (given ++ lines_unless false new rest)
left_going old new left rest given took max ends =
    let fewer : (old.stream_max - old.taken) - length took.bytes ≡ new.stream_max - new.taken = omega (arith, took.count, max) in
    ap (option_map (lines_unless false old)) took.told
    ∙ ap (λ (x : List ℕ). Some (lines_left old x)) (take_both (old.stream_max - old.taken) took.bytes rest)
    ∙ ap (λ (n : ℕ). Some (lines_left old (heeded (old.stream_max - old.taken) took.bytes ++ take n rest))) fewer
    ∙ ap Some (took.lines (heeded (new.stream_max - new.taken) rest) (λ t. absurd (true≢false (sym t ∙ ends))))

-- the same at the end
left_ending : (old new : Reader) (left : Option (List ℕ)) (rest : List ℕ) (given : List (Option (List ℕ))) → HasTaken old new left (Some rest) given → rest ≡ [] → lines_left new [] ≡ []
    → option_map (lines_unless false old) left ≡ Some (given ++ [])
left_ending old new left rest given took none over =
    ap (option_map (lines_unless false old)) (took.told ∙ ap (λ (x : List ℕ). Some (took.bytes ++ x)) none)
    ∙ ap (λ (x : List ℕ). Some (lines_left old (heeded (old.stream_max - old.taken) x))) (append-nil took.bytes)
    ∙ ap (λ (x : List ℕ). Some (lines_left old x)) (sym (append-nil (heeded (old.stream_max - old.taken) took.bytes)))
    ∙ ap Some (took.lines [] (λ t. refl))
    ∙ ap (λ (x : List (Option (List ℕ))). Some (given ++ x)) over

-- a list before nothing is itself
before_none : (o : Option (List (Option (List ℕ)))) → o ≡ known_after [] o
before_none None = refl
before_none (Some lines) = refl

-- whatever came, by whether the reader ended before and ended now
pub left_answered : (old new : Reader) (left left' : Option (List ℕ)) (given : List (Option (List ℕ))) (was is : Bool) → old.ended ≡ was → new.ended ≡ is → HasTaken old new left left' given → new.stream_max ≡ old.stream_max
    → (was ≡ true → (new ≡ old) × (left' ≡ left) × (given ≡ [])) → (is ≡ true → lines_left new [] ≡ [])
    → option_map (lines_unless was old) left ≡ known_after given (option_map (lines_unless is new) left')
left_answered old new left left' given true is e e' took max stays over =
    let same = stays refl in
    let still : is ≡ true = sym e' ∙ ap (λ (r : Reader). r.ended) same.0 ∙ e in
    rw (same.2, same.1, same.0, still) (before_none (option_map (lines_unless true old) left))
left_answered old new left None given false is e e' took max stays over = ap (option_map (lines_unless false old)) took.told
left_answered old new left (Some rest) given false false e e' took max stays over = left_going old new left rest given took max e'
left_answered old new left (Some rest) given false true e e' took max stays over = left_ending old new left rest given took (took.drained e e') (over refl)

-- nothing is left of a reader that ended
pub none_left : (new : Reader) → (new.ahead ≡ []) × (new.begun ≡ Some []) → lines_left new [] ≡ []
none_left new empty = rw (empty.0, empty.1) refl

-- at the end no line was given
pub ended_none : (new : Reader) (result : Result Line LineFault) → result ≡ Ok End → line_given result new ≡ []
ended_none new result e = ap (λ (r : Result Line LineFault). line_given r new) e

-- a call of the reader where no line was held: nothing is passed
pub answered : {old new : Reader} {left left' : Option (List ℕ)} {m n : ℕ} {seen seen' : Line} (result : Result Line LineFault)
    → ((bytes : List ℕ) (given : List (Option (List ℕ))) → HasRead bytes old left given → HasRead bytes new left' (given ++ line_given result new))
    → HasTaken old new left left' (line_given result new) → Advances old new result → IsAnswer old new result → (IsStopped old → (new ≡ old) × (left' ≡ left))
    → seen ≡ End → held_after result ≡ seen'
    → HasPassed (λ s before. HasPassedOf s m n old seen left before) (λ s before. HasPassedOf s m n new seen' left' before) (giving_of old seen left) (giving_of new seen' left') []
answered {old} {new} {left} {left'} {m} {n} {seen} {seen'} result reads took advances answer stops none held = record {
  of_stream = λ s before was. record {
    same_reader = was.same_reader;
    same_source = was.same_source;
    read =
        subst (λ x. HasRead s.bytes new left' ((before ++ []) ++ x)) (given_is_seen result new ∙ ap (λ (l : Line). seen_line l new.text) held)
        (reads s.bytes (before ++ []) (subst (λ l. HasRead s.bytes old left (before ++ seen_line l old.text)) none was.read));
  };
  left =
      ap (λ (l : Line). lines_of_giving (giving_of old l left)) none
      ∙ sym (before_none (option_map (lines_unless old.ended old) left))
      ∙ left_answered old new left left' (line_given result new) old.ended new.ended refl refl took advances.stream_max
      (λ t. let same = stops (inl t) in (same.0, same.1, ended_none new result (answer.end_again t))) (λ t. none_left new (answer.done t))
      ∙ ap (λ (x : List (Option (List ℕ))). known_after x (option_map (lines_unless new.ended new) left')) (given_is_seen result new ∙ ap (λ (l : Line). seen_line l new.text) held)
      ∙ before_none (known_after (seen_line seen' new.text) (option_map (lines_unless new.ended new) left'));
}
