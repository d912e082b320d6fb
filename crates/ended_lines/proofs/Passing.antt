-- Lines before the first `end`, and then more.
use Rattle.std.proofs.Common.{◌≡◌, ℕ, ◌++◌, ◌||◌, ◌⊎◌, Bool, true, false, List, [], ◌∷◌, Option, Some, None, Ok, cond, inl, inr, drop, length, suc, refl, ap, sym, ◌∙◌, subst, true≢false, arith, append-nil}
use Rattle.std.proofs.lemmas.Bool.{false≢true, or_parts}
use Rattle.std.proofs.lemmas.Option.{none-some, same_Some}
use Rattle.line_giver.specs.Giving.{Giving, HasPassed, IsThrough, PassesSome, known_after, lines_of_giving}
use Rattle.line_giver.proofs.Passing.{passed_both, passed_nothing}
use Rattle.ended_lines.specs.Ended.{HasPassedText, IsEnded, PassesNoEnd, PassesText, has_end, is_end_line, up_to_end}
use Rattle.ended_lines.specs.Steps.{PassesLine, PassesNothing, PassesOne}
use Rattle.ended_lines.specs.declared.pass.Passed.{Passed}
use Rattle.ended_lines.specs.declared.pass.Passed.TheVariants.{Last, Nothing}

-- ---- lists

-- lines with no `end`, and then more
pub front_more : (before lines : List (Option (List ℕ))) → has_end before ≡ false → up_to_end (before ++ lines) ≡ before ++ up_to_end lines
front_more [] lines none = refl
front_more (l ∷ ls) lines none =
    let parts = or_parts (is_end_line l) (has_end ls) none in
    rw parts.0 (ap (λ (t : List (Option (List ℕ))). l ∷ t) (front_more ls lines parts.1))

-- lines with no `end` are their own front
pub front_none : (lines : List (Option (List ℕ))) → has_end lines ≡ false → up_to_end lines ≡ lines
front_none lines none =
    ap up_to_end (sym (append-nil lines)) ∙ front_more lines [] none ∙ append-nil lines

-- whether more have the `end`
pub has_more : (before lines : List (Option (List ℕ))) → has_end before ≡ false → has_end (before ++ lines) ≡ has_end lines
has_more [] lines none = refl
has_more (l ∷ ls) lines none =
    let parts = or_parts (is_end_line l) (has_end ls) none in
    rw parts.0 (has_more ls lines parts.1)

-- the front of lines is not empty
front_some : (b : Bool) (l : Option (List ℕ)) (ls : List (Option (List ℕ))) → cond b (l ∷ []) (l ∷ ls) ≡ [] → ⊥
front_some true l ls e = let n : 1 ≡ 0 = ap length e in omega (arith, n)
front_some false l ls e = let n : suc (length ls) ≡ 0 = ap length e in omega (arith, n)

-- lines with an empty front are none
pub front_empty : (lines : List (Option (List ℕ))) → up_to_end lines ≡ [] → lines ≡ []
front_empty [] e = refl
front_empty (l ∷ ls) e = absurd (front_some (is_end_line l) l (up_to_end ls) e)

-- a front with the `end`, and whatever follows, by whether the first line is the `end`
front_by : (b : Bool) (l : Option (List ℕ)) (ls us vs : List (Option (List ℕ))) → cond b (l ∷ []) (l ∷ us) ≡ l ∷ ls → (b || has_end ls) ≡ true → (us ≡ ls → has_end ls ≡ true → vs ≡ ls)
    → cond b (l ∷ []) (l ∷ vs) ≡ l ∷ ls
front_by true l ls us vs front has later = front
front_by false l ls us vs front has later = ap (λ (t : List (Option (List ℕ))). l ∷ t) (later (ap (λ (t : List (Option (List ℕ))). drop 1 t) front) has)

-- a front with the `end`, and whatever follows
pub front_of_text : (lines more : List (Option (List ℕ))) → up_to_end lines ≡ lines → has_end lines ≡ true → up_to_end (lines ++ more) ≡ lines
front_of_text [] more front has = absurd (false≢true has)
front_of_text (l ∷ ls) more front has = front_by (is_end_line l) l ls (up_to_end ls) (up_to_end (ls ++ more)) front has (front_of_text ls more)

-- ---- texts

-- lines before a text that are no `end` belong to it
pub ended_more : (before lines : List (Option (List ℕ))) (left : Option (List (Option (List ℕ)))) → has_end before ≡ false → IsEnded lines left → IsEnded (before ++ lines) left
ended_more before lines left none is = record {
  front = front_more before lines none ∙ ap (λ (t : List (Option (List ℕ))). before ++ t) is.front;
  through = λ e. is.through (sym (has_more before lines none) ∙ e);
}

-- a text of lines that are known is their front
first_of : (lines all : List (Option (List ℕ))) (left : Option (List (Option (List ℕ)))) (b : Bool) → has_end lines ≡ b → IsEnded lines left → Some all ≡ known_after lines left → lines ≡ up_to_end all
first_of lines all None b has is was = absurd (none-some all (sym was))
first_of lines all (Some more) true has is was = sym (ap up_to_end (same_Some all (lines ++ more) was) ∙ front_of_text lines more is.front has)
first_of lines all (Some more) false has is was =
    let none : more ≡ [] = is.through has in
    sym (
    ap up_to_end (same_Some all (lines ++ more) was ∙ ap (λ (t : List (Option (List ℕ))). lines ++ t) none)
    ∙ front_more lines [] has
    ∙ append-nil lines)

module _ {Stream : Type 0} {p q r : Stream → List (Option (List ℕ)) → Type 0} {old mid new : Giving} where
  -- the lines before it were passed too
  pub text_more : (before lines : List (Option (List ℕ))) → has_end before ≡ false → HasPassed p q old mid before → HasPassedText q r mid new lines → HasPassedText p r old new (before ++ lines)
  text_more before lines none was is = record {
    passed = passed_both before lines was is.passed;
    ended = ended_more before lines (lines_of_giving new) none is.ended;
  }

module _ {Stream : Type 0} {p q : Stream → List (Option (List ℕ)) → Type 0} {old new : Giving} where
  -- the text that was passed is the front of the lines that were left
  pub text_is_first : (lines all : List (Option (List ℕ))) → HasPassedText p q old new lines → lines_of_giving old ≡ Some all → lines ≡ up_to_end all
  text_is_first lines all is was = first_of lines all (lines_of_giving new) (has_end lines) refl is.ended (sym was ∙ is.passed.left)

  -- in each case some lines were passed
  pub some_of_text : PassesText p q old new → PassesSome p q old new
  some_of_text is = record { lines = is.lines; passed = is.text.passed }

  pub some_of_none : PassesNoEnd p q old new → PassesSome p q old new
  some_of_none is = record { lines = is.lines; passed = is.passed }

-- ---- one line after another

-- lines were passed, none of which is `end`
pub record Unended {Stream : Type 0} (before after : Stream → List (Option (List ℕ)) → Type 0) (old new : Giving) : Type 0 where
  pub lines : List (Option (List ℕ))
  pub passed : HasPassed before after old new lines
  pub unended : has_end lines ≡ false

pub unended_nothing : {Stream : Type 0} {p : Stream → List (Option (List ℕ)) → Type 0} {old : Giving} → Unended p p old old
unended_nothing {Stream} {p} {old} = record { lines = []; passed = passed_nothing; unended = refl }

module _ {Stream : Type 0} {p q r : Stream → List (Option (List ℕ)) → Type 0} {old mid new : Giving} where
  -- no more lines were passed
  unended_still : (u : Unended p q old mid) → HasPassed q r mid new [] → HasPassed p r old new u.lines
  unended_still u passed = subst (λ t. HasPassed p r old new t) (append-nil u.lines) (passed_both u.lines [] u.passed passed)

  -- at the end of the lines
  pub all_passed : Unended p q old mid → PassesNothing q r mid new (IsThrough (lines_of_giving new)) → PassesText p r old new
  all_passed u last = record {
    lines = u.lines;
    text = record {
      passed = unended_still u last.passed;
      ended = record { front = front_none u.lines u.unended; through = λ e. last.is };
    };
  }

  -- at a fault
  pub fault_passed : Unended p q old mid → PassesNothing q r mid new (new.seen ≡ []) → PassesNoEnd p r old new
  fault_passed u last = record { lines = u.lines; passed = unended_still u last.passed; unended = u.unended; unseen = last.is }

  -- one more line was passed, which is not the `end`
  pub line_passed : Unended p q old mid → PassesLine q r mid new false → Unended p r old new
  line_passed u more = record {
    lines = u.lines ++ more.line ∷ [];
    passed = passed_both u.lines (more.line ∷ []) u.passed more.passed;
    unended = has_more u.lines (more.line ∷ []) u.unended ∙ rw more.is refl;
  }

  -- it is the `end`
  pub end_passed : Unended p q old mid → PassesLine q r mid new true → PassesText p r old new
  end_passed u more = record {
    lines = u.lines ++ more.line ∷ [];
    text = record {
      passed = passed_both u.lines (more.line ∷ []) u.passed more.passed;
      ended = record {
        front = front_more u.lines (more.line ∷ []) u.unended ∙ rw more.is refl;
        through = λ e. absurd (true≢false (sym (has_more u.lines (more.line ∷ []) u.unended ∙ rw more.is refl) ∙ e));
      };
    };
  }

  -- the line that was passed was the last, or none was left
  pub last_passed : (x : Passed) → (x ≡ Last) ⊎ (x ≡ Nothing) → Unended p q old mid → PassesOne q r mid new (Ok x) → PassesText p r old new
  last_passed x (inl is) u one = end_passed u (subst (λ (y : Passed). PassesOne q r mid new (Ok y)) is one)
  last_passed x (inr is) u one = all_passed u (subst (λ (y : Passed). PassesOne q r mid new (Ok y)) is one)
