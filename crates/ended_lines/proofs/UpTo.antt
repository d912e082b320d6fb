-- What a giver of the lines up to the first `end` keeps, line by line.
use Rattle.std.proofs.Common.{◌≡◌, ℕ, ◌<◌, ◌++◌, Bool, true, false, not, List, [], ◌∷◌, Option, Some, None, bytes_eq, codes, cond, length, option_map, ◌⊎◌, inl, inr, refl, ap, sym, ◌∙◌, subst, true≢false, arith, append-nil, append_assoc}
use Rattle.std.proofs.lemmas.Bool.{false≢true}
use Rattle.byte_lines.specs.declared.lines.Line.{Line}
use Rattle.byte_lines.specs.declared.lines.Line.TheVariants.{Whole, TooLong, End}
use Rattle.line_giver.specs.Giving.{Giving, HasPassed, IsThrough, Sees, known_after, lines_of_giving, seen_line}
use Rattle.line_giver.proofs.Passing.{known_none, known_twice}
use Rattle.ended_lines.specs.Ended.{has_end, is_end_line, up_to_end}
use Rattle.ended_lines.specs.UpTo.{HasPassedUpTo, UpToOf, giving_up_to, is_ended, is_left_by_error, is_over_by, is_steady, seen_up_to, stand_after, stand_at}
use Rattle.ended_lines.specs.declared.up_to_end.Stand.{Stand}
use Rattle.ended_lines.specs.declared.up_to_end.Stand.TheVariants.{Open, AtEnd, Ended, Over, Failed}
use Rattle.ended_lines.proofs.Passing.{front_more, has_more}

-- ---- the lines that are left

-- a line that is seen, and the front of the others
one_left : (b : Bool) (line : Option (List ℕ)) (after : Option (List (Option (List ℕ)))) → is_end_line line ≡ b
    → known_after (line ∷ []) (option_map (λ ls. cond b [] (up_to_end ls)) after) ≡ option_map up_to_end (known_after (line ∷ []) after)
one_left b line None is = refl
one_left true line (Some rest) is = rw is refl
one_left false line (Some rest) is = rw is refl

-- none is seen
none_left : (o : Option (List (Option (List ℕ)))) → known_after [] (option_map up_to_end o) ≡ option_map up_to_end o
none_left o = known_none (option_map up_to_end o)

-- by whether the line that is seen is the `end`
other_by : (b : Bool) (line : Option (List ℕ)) (after : Option (List (Option (List ℕ)))) → is_end_line line ≡ b
    → known_after (cond (not b) (line ∷ []) []) (option_map up_to_end (cond (not b) after (known_after (line ∷ []) after))) ≡ option_map up_to_end (known_after (line ∷ []) after)
other_by true line after is = none_left (known_after (line ∷ []) after)
other_by false line after is = one_left false line after is

end_by : (b : Bool) (line : Option (List ℕ)) (after : Option (List (Option (List ℕ)))) → is_end_line line ≡ b
    → known_after (cond b (line ∷ []) []) (cond b (option_map (λ ls. []) after) (option_map up_to_end (known_after (line ∷ []) after))) ≡ option_map up_to_end (known_after (line ∷ []) after)
end_by true line after is = one_left true line after is
end_by false line after is = none_left (known_after (line ∷ []) after)

open_left : (text : List ℕ) (seen : List (Option (List ℕ))) (after : Option (List (Option (List ℕ)))) →
    lines_of_giving (giving_up_to Open (record { text = text; seen = seen; after = after })) ≡ option_map up_to_end (known_after seen after)
open_left text [] after = none_left (known_after [] after)
open_left text (line ∷ []) after = other_by (is_end_line line) line after refl
open_left text (line ∷ more ∷ ls) after = none_left (known_after (line ∷ more ∷ ls) after)

at_end_left : (text : List ℕ) (seen : List (Option (List ℕ))) (after : Option (List (Option (List ℕ)))) →
    lines_of_giving (giving_up_to AtEnd (record { text = text; seen = seen; after = after })) ≡ option_map up_to_end (known_after seen after)
at_end_left text [] after = none_left (known_after [] after)
at_end_left text (line ∷ []) after = end_by (is_end_line line) line after refl
at_end_left text (line ∷ more ∷ ls) after = none_left (known_after (line ∷ more ∷ ls) after)

-- before the `end` was passed, the front of the other giver's lines is left
pub front_left : (s : Stand) (g : Giving) → is_ended s ≡ false → lines_of_giving (giving_up_to s g) ≡ option_map up_to_end (lines_of_giving g)
front_left Open g not_ended = open_left g.text g.seen g.after
front_left AtEnd g not_ended = at_end_left g.text g.seen g.after
front_left Ended g not_ended = absurd (true≢false not_ended)
front_left Over g not_ended = none_left (lines_of_giving g)
front_left Failed g not_ended = none_left (lines_of_giving g)

-- ---- a step

-- what a step keeps
pub record GoesOn (s s' : Stand) (over' : Type 0) (g' : Giving) (f f' : ℕ) (lines : List (Option (List ℕ))) : Type 0 where
  pub front : (before : List (Option (List ℕ))) → up_to_end before ≡ before → has_end before ≡ is_ended s → up_to_end (before ++ lines) ≡ before ++ lines
  pub ended : (before : List (Option (List ℕ))) → has_end before ≡ is_ended s → has_end (before ++ lines) ≡ is_ended s'
  pub error : is_left_by_error s' g'
  pub limit : is_over_by s' over'
  pub steady : (n : ℕ) → is_steady s n f → is_steady s' n f'

module _ {Stream : Type 0} {p q : Stream → List (Option (List ℕ)) → Type 0} (over over' : Type 0) {g g' : Giving} (s s' : Stand) (f f' : ℕ) (lines : List (Option (List ℕ))) where
  goes_on : GoesOn s s' over' g' f f' lines → HasPassed p q g g' lines → (of : UpToOf Stream) (before : List (Option (List ℕ))) → HasPassedUpTo p over s g f of before → HasPassedUpTo q over' s' g' f' of (before ++ lines)
  goes_on on passed (inl at) before was = subst (λ t. q at.0 t) (append_assoc at.1 before lines) (passed.of_stream at.0 (at.1 ++ before) was)
  goes_on on passed (inr start) before was = record {
    left = was.left ∙ ap (known_after before) passed.left ∙ known_twice before lines (lines_of_giving g');
    front = on.front before was.front was.ended;
    ended = on.ended before was.ended;
    error = on.error;
    limit = on.limit;
    steady = on.steady start.1 was.steady;
  }

  -- with the name of the loan
  pub step_passes : (name name' : ℕ) → name' ≡ name → GoesOn s s' over' g' f f' lines → HasPassed p q g g' lines → lines_of_giving (giving_up_to s g) ≡ known_after lines (lines_of_giving (giving_up_to s' g'))
      → HasPassed {Stream = ℕ × UpToOf Stream} (λ of before. (name ≡ of.0) × HasPassedUpTo p over s g f of.1 before) (λ of before. (name' ≡ of.0) × HasPassedUpTo q over' s' g' f' of.1 before) (giving_up_to s g) (giving_up_to s' g') lines
  step_passes name name' same on passed left = record {
    of_stream = λ of before was. (same ∙ was.0, goes_on on passed of.1 before was.1);
    left = left;
  }

-- a look at the next line passes none
none_front : (before : List (Option (List ℕ))) → up_to_end before ≡ before → up_to_end (before ++ []) ≡ before ++ []
none_front before front = subst (λ t. up_to_end t ≡ t) (sym (append-nil before)) front

-- what a look keeps, by where it leaves the lines
pub look_goes_on : (s s' : Stand) (over' : Type 0) (g' : Giving) (f f' : ℕ) → is_ended s ≡ false → is_ended s' ≡ false → is_left_by_error s' g' → is_over_by s' over' → ((n : ℕ) → is_steady s n f → is_steady s' n f') → GoesOn s s' over' g' f f' []
look_goes_on s s' over' g' f f' was is error limit steady = record {
  front = λ before front none. none_front before front;
  ended = λ before none. ap has_end (append-nil before) ∙ none ∙ was ∙ sym is;
  error = error;
  limit = limit;
  steady = steady;
}

module _ {Stream : Type 0} {p q : Stream → List (Option (List ℕ)) → Type 0} {over over' : Type 0} {g g' : Giving} (s s' : Stand) (f f' name name' : ℕ) where
  -- a look of the other giver
  pub looks : name' ≡ name → is_ended s ≡ false → is_ended s' ≡ false → is_left_by_error s' g' → is_over_by s' over' → ((n : ℕ) → is_steady s n f → is_steady s' n f') → HasPassed p q g g' []
      → HasPassed {Stream = ℕ × UpToOf Stream} (λ of before. (name ≡ of.0) × HasPassedUpTo p over s g f of.1 before) (λ of before. (name' ≡ of.0) × HasPassedUpTo q over' s' g' f' of.1 before) (giving_up_to s g) (giving_up_to s' g') []
  looks same was is error limit steady passed =
      step_passes over over' s s' f f' [] name name' same (look_goes_on s s' over' g' f f' was is error limit steady) passed
      (front_left s g was ∙ ap (option_map up_to_end) passed.left ∙ ap (option_map up_to_end) (known_none (lines_of_giving g')) ∙ sym (front_left s' g' is) ∙ sym (known_none (lines_of_giving (giving_up_to s' g'))))

-- ---- a line that is seen

-- no `end` was passed, and there was no error
abbrev pub IsOpen : Stand → Type 0
IsOpen s = (s ≡ Open) ⊎ (s ≡ AtEnd)

pub open_is_unended : (s : Stand) → IsOpen s → is_ended s ≡ false
open_is_unended s (inl is) = ap is_ended is
open_is_unended s (inr is) = ap is_ended is

pub open_is_steady : (s : Stand) (n f : ℕ) → IsOpen s → is_steady s n f → f ≡ n
open_is_steady s n f (inl is) was = subst (λ (t : Stand). is_steady t n f) is was
open_is_steady s n f (inr is) was = subst (λ (t : Stand). is_steady t n f) is was

-- a line leaves the lines open
at_open : (b : Bool) → IsOpen (cond b AtEnd Open)
at_open true = inr refl
at_open false = inl refl

pub stand_is_open : (line : Line) (text : List ℕ) → IsOpen (stand_at line text)
stand_is_open Whole text = at_open (bytes_eq text (codes "end"))
stand_is_open TooLong text = inl refl
stand_is_open End text = inl refl

open_error : (s : Stand) (g : Giving) → IsOpen s → is_left_by_error s g
open_error s g (inl is) = subst (λ (t : Stand). is_left_by_error t g) (sym is) tt
open_error s g (inr is) = subst (λ (t : Stand). is_left_by_error t g) (sym is) tt

open_limit : (s : Stand) (over : Type 0) → IsOpen s → is_over_by s over
open_limit s over (inl is) = subst (λ (t : Stand). is_over_by t over) (sym is) tt
open_limit s over (inr is) = subst (λ (t : Stand). is_over_by t over) (sym is) tt

open_steady : (s : Stand) (n f : ℕ) → IsOpen s → f ≡ n → is_steady s n f
open_steady s n f (inl is) same = subst (λ (t : Stand). is_steady t n f) (sym is) same
open_steady s n f (inr is) same = subst (λ (t : Stand). is_steady t n f) (sym is) same

-- it is not over its limit then
abbrev is_over : Stand → Bool
is_over Over = true
is_over _ = false

pub open_not_over : (s : Stand) → IsOpen s → s ≡ Over → ⊥
open_not_over s (inl is) over = false≢true (ap is_over (sym is ∙ over))
open_not_over s (inr is) over = false≢true (ap is_over (sym is ∙ over))

module _ {Stream : Type 0} {p q : Stream → List (Option (List ℕ)) → Type 0} {over over' : Type 0} {g g' : Giving} (s : Stand) (f f' name name' : ℕ) where
  -- a look that came to a line, or to the end of the lines
  pub looks_at : name' ≡ name → IsOpen s → (line : Line) (text : List ℕ) → f' ≡ f → HasPassed p q g g' []
      → HasPassed {Stream = ℕ × UpToOf Stream} (λ of before. (name ≡ of.0) × HasPassedUpTo p over s g f of.1 before) (λ of before. (name' ≡ of.0) × HasPassedUpTo q over' (stand_at line text) g' f' of.1 before) (giving_up_to s g) (giving_up_to (stand_at line text) g') []
  looks_at same is line text stays passed =
      let at = stand_is_open line text in
      looks s (stand_at line text) f f' name name' same (open_is_unended s is) (open_is_unended (stand_at line text) at) (open_error (stand_at line text) g' at) (open_limit (stand_at line text) over' at)
      (λ n was. open_steady (stand_at line text) n f' at (stays ∙ open_is_steady s n f is was)) passed

-- what is seen is seen
sees_whole : (b : Bool) (text : List ℕ) (after : Option (List (Option (List ℕ)))) → bytes_eq text (codes "end") ≡ b → seen_up_to (cond b AtEnd Open) (record { text = text; seen = Some text ∷ []; after = after }) ≡ Some text ∷ []
sees_whole true text after is = rw is refl
sees_whole false text after is = rw is refl

sees_line : (line : Line) (g : Giving) → g.seen ≡ seen_line line g.text → seen_up_to (stand_at line g.text) g ≡ seen_line line g.text
sees_line Whole g is =
    subst (λ (t : List (Option (List ℕ))). seen_up_to (stand_at Whole g.text) (record { text = g.text; seen = t; after = g.after }) ≡ Some g.text ∷ []) (sym is)
    (sees_whole (bytes_eq g.text (codes "end")) g.text g.after refl)
sees_line TooLong g is = subst (λ (t : List (Option (List ℕ))). seen_up_to Open (record { text = g.text; seen = t; after = g.after }) ≡ None ∷ []) (sym is) refl
sees_line End g is = subst (λ (t : List (Option (List ℕ))). seen_up_to Open (record { text = g.text; seen = t; after = g.after }) ≡ []) (sym is) refl

through_front : (o : Option (List (Option (List ℕ)))) → IsThrough o → IsThrough (option_map up_to_end o)
through_front None through = tt
through_front (Some lines) through = ap up_to_end through

pub sees_up_to : (line : Line) (g : Giving) → Sees g line → Sees (giving_up_to (stand_at line g.text) g) line
sees_up_to line g sees = record {
  seen = sees_line line g sees.seen;
  through = λ e. subst IsThrough (sym (front_left (stand_at line g.text) g (open_is_unended (stand_at line g.text) (stand_is_open line g.text)))) (through_front (lines_of_giving g) (sees.through e));
}

-- ---- the line that is passed

-- one line is seen, and the stand tells whether it is the `end`
pub record SeesOne (s : Stand) (g : Giving) : Type 0 where
  pub line : Option (List ℕ)
  pub is : g.seen ≡ line ∷ []
  pub same : seen_up_to s g ≡ line ∷ []
  pub kind : ((s ≡ Open) × (is_end_line line ≡ false)) ⊎ ((s ≡ AtEnd) × (is_end_line line ≡ true))

other_one : (b : Bool) (line : Option (List ℕ)) (g : Giving) → is_end_line line ≡ b → g.seen ≡ line ∷ [] → seen_up_to Open g ≡ cond (not b) (line ∷ []) [] → 0 < length (cond (not b) (line ∷ []) []) → SeesOne Open g
other_one true line g end is same some = absurd (omega (arith, some))
other_one false line g end is same some = record { line = line; is = is; same = same; kind = inl (refl, end) }

end_one : (b : Bool) (line : Option (List ℕ)) (g : Giving) → is_end_line line ≡ b → g.seen ≡ line ∷ [] → seen_up_to AtEnd g ≡ cond b (line ∷ []) [] → 0 < length (cond b (line ∷ []) []) → SeesOne AtEnd g
end_one true line g end is same some = record { line = line; is = is; same = same; kind = inr (refl, end) }
end_one false line g end is same some = absurd (omega (arith, some))

open_one : (text : List ℕ) (seen : List (Option (List ℕ))) (after : Option (List (Option (List ℕ)))) → 0 < length (seen_up_to Open (record { text = text; seen = seen; after = after })) → SeesOne Open (record { text = text; seen = seen; after = after })
open_one text [] after some = absurd (omega (arith, some))
open_one text (line ∷ []) after some = other_one (is_end_line line) line (record { text = text; seen = line ∷ []; after = after }) refl refl refl some
open_one text (line ∷ more ∷ ls) after some = absurd (omega (arith, some))

at_end_one : (text : List ℕ) (seen : List (Option (List ℕ))) (after : Option (List (Option (List ℕ)))) → 0 < length (seen_up_to AtEnd (record { text = text; seen = seen; after = after })) → SeesOne AtEnd (record { text = text; seen = seen; after = after })
at_end_one text [] after some = absurd (omega (arith, some))
at_end_one text (line ∷ []) after some = end_one (is_end_line line) line (record { text = text; seen = line ∷ []; after = after }) refl refl refl some
at_end_one text (line ∷ more ∷ ls) after some = absurd (omega (arith, some))

pub sees_one : (s : Stand) (g : Giving) → 0 < length (giving_up_to s g).seen → SeesOne s g
sees_one Open g some = open_one g.text g.seen g.after some
sees_one AtEnd g some = at_end_one g.text g.seen g.after some
sees_one Ended g some = absurd (omega (arith, some))
sees_one Over g some = absurd (omega (arith, some))
sees_one Failed g some = absurd (omega (arith, some))

pub sees_some : (s : Stand) (g : Giving) → 0 < length (giving_up_to s g).seen → 0 < length g.seen
sees_some s g some =
    let one = sees_one s g some in
    subst (λ (t : List (Option (List ℕ))). 0 < length t) (sym one.is) (omega arith)

-- one line is its own front
front_last : (b : Bool) (line : Option (List ℕ)) → is_end_line line ≡ b → up_to_end (line ∷ []) ≡ line ∷ []
front_last true line is = rw is refl
front_last false line is = rw is refl

none_known : (after : Option (List (Option (List ℕ)))) → option_map (λ ls. []) (known_after [] after) ≡ known_after [] (option_map (λ (ls : List (Option (List ℕ))). []) after)
none_known None = refl
none_known (Some ls) = refl

-- nothing is left once the `end` was passed
none_after : (seen : List (Option (List ℕ))) (after : Option (List (Option (List ℕ)))) → seen ≡ [] → option_map (λ ls. []) (known_after seen after) ≡ known_after [] (option_map (λ (ls : List (Option (List ℕ))). []) after)
none_after seen after none = subst (λ (t : List (Option (List ℕ))). option_map (λ ls. []) (known_after t after) ≡ known_after [] (option_map (λ (ls : List (Option (List ℕ))). []) after)) (sym none) (none_known after)

module _ {Stream : Type 0} (p q : Stream → List (Option (List ℕ)) → Type 0) (over over' : Type 0) (g g' : Giving) (f f' name name' : ℕ) where
  abbrev Passes : Stand → Stand → List (Option (List ℕ)) → Type 0
  Passes s s' lines = HasPassed {Stream = ℕ × UpToOf Stream} (λ of before. (name ≡ of.0) × HasPassedUpTo p over s g f of.1 before) (λ of before. (name' ≡ of.0) × HasPassedUpTo q over' s' g' f' of.1 before) (giving_up_to s g) (giving_up_to s' g') lines

  passes_other : (line : Option (List ℕ)) → name' ≡ name → g'.seen ≡ [] → f' ≡ f → HasPassed p q g g' (line ∷ []) → is_end_line line ≡ false → Passes Open Open (line ∷ [])
  passes_other line same none stays passed is =
      step_passes over over' Open Open f f' (line ∷ []) name name' same
      (record {
        front = λ before front none. front_more before (line ∷ []) none ∙ ap (λ (t : List (Option (List ℕ))). before ++ t) (front_last false line is);
        ended = λ before none. has_more before (line ∷ []) none ∙ rw is refl;
        error = tt;
        limit = tt;
        steady = λ n was. stays ∙ was;
      })
      passed
      (front_left Open g refl ∙ ap (option_map up_to_end) passed.left ∙ sym (one_left false line (lines_of_giving g') is) ∙ ap (known_after (line ∷ [])) (sym (front_left Open g' refl)))

  passes_end : (line : Option (List ℕ)) → name' ≡ name → g'.seen ≡ [] → f' ≡ f → HasPassed p q g g' (line ∷ []) → is_end_line line ≡ true → Passes AtEnd Ended (line ∷ [])
  passes_end line same none stays passed is =
      step_passes over over' AtEnd Ended f f' (line ∷ []) name name' same
      (record {
        front = λ before front none. front_more before (line ∷ []) none ∙ ap (λ (t : List (Option (List ℕ))). before ++ t) (front_last true line is);
        ended = λ before none. has_more before (line ∷ []) none ∙ rw is refl;
        error = tt;
        limit = tt;
        steady = λ n was. stays ∙ was;
      })
      passed
      (front_left AtEnd g refl ∙ ap (option_map up_to_end) passed.left ∙ sym (one_left true line (lines_of_giving g') is) ∙ ap (known_after (line ∷ [])) (none_after g'.seen g'.after none))

  passes_by : (s : Stand) (line : Option (List ℕ)) → ((s ≡ Open) × (is_end_line line ≡ false)) ⊎ ((s ≡ AtEnd) × (is_end_line line ≡ true)) → name' ≡ name → g'.seen ≡ [] → f' ≡ f → HasPassed p q g g' (line ∷ []) → Passes s (stand_after s) (line ∷ [])
  passes_by s line (inl is) same none stays passed = subst (λ (t : Stand). Passes t (stand_after t) (line ∷ [])) (sym is.0) (passes_other line same none stays passed is.1)
  passes_by s line (inr is) same none stays passed = subst (λ (t : Stand). Passes t (stand_after t) (line ∷ [])) (sym is.0) (passes_end line same none stays passed is.1)

  -- the line that was seen is passed
  pub passes_seen : (s : Stand) → 0 < length (giving_up_to s g).seen → name' ≡ name → g'.seen ≡ [] → f' ≡ f → HasPassed p q g g' g.seen → Passes s (stand_after s) (giving_up_to s g).seen
  passes_seen s some same none stays passed =
      let one = sees_one s g some in
      subst (λ (t : List (Option (List ℕ))). Passes s (stand_after s) t) (sym one.same) (passes_by s one.line one.kind same none stays (subst (λ (t : List (Option (List ℕ))). HasPassed p q g g' t) one.is passed))
