-- What lines begin with.
use Rattle.std.proofs.Common.{◌≡◌, ◌++◌, ◌==◌, true, false, not, List, [], ◌∷◌, Option, Some, None, inl, inr, ◌⊎◌, refl, sym, ◌∙◌, true≢false}
use Rattle.std.proofs.lemmas.Bool.{false≢true, and_parts, eq-eqb, eqb-true, false_from_ne_true, not-true, or_cases, or_left, or_right}
use Rattle.std.specs.List.{list_all}
use Rattle.text_model.specs.Words.{Text}
use Rattle.line_parts.specs.Shapes.{Shape, are_alike, are_apart, begins_with, begins_with_one, has_start, is_next, many_shape}

-- two texts with which one line begins are alike
alike : (p q line : Text) → begins_with p line ≡ true → begins_with q line ≡ true → are_alike p q ≡ true
alike [] q line e f = refl
alike (c ∷ cs) [] line e f = refl
alike (c ∷ cs) (d ∷ ds) [] e f = absurd (false≢true e)
alike (c ∷ cs) (d ∷ ds) (b ∷ bs) e f =
    let left = and_parts (c == b) (begins_with cs bs) e in
    let right = and_parts (d == b) (begins_with ds bs) f in
    let same : c ≡ d = eqb-true c b left.0 ∙ sym (eqb-true d b right.0) in
    rw (eq-eqb c d same) (alike cs ds bs left.1 right.1)

-- a line begins with none of the texts that are apart from one with which it begins
apart_one : (p : Text) (qs : List Text) (line : Text) → list_all (λ (q : Text). not (are_alike p q)) qs ≡ true → begins_with_one qs line ≡ true → begins_with p line ≡ true → ⊥
apart_one p [] line a e f = false≢true e
apart_one p (q ∷ qs) line a e f =
    let parts = and_parts (not (are_alike p q)) (list_all (λ (r : Text). not (are_alike p r)) qs) a in
    let either : ((begins_with q line ≡ true) ⊎ (begins_with_one qs line ≡ true)) → ⊥ =
    elim [
      | inl here ↦ true≢false (sym (alike p q line f here) ∙ not-true (are_alike p q) parts.0)
      | inr later ↦ apart_one p qs line parts.1 later f
    ] in
    either (or_cases (begins_with q line) (begins_with_one qs line) e)

-- nor does it begin with one of several
apart_line : (ps qs : List Text) (line : Text) → are_apart ps qs ≡ true → begins_with_one qs line ≡ true → begins_with_one ps line ≡ true → ⊥
apart_line [] qs line a e f = false≢true f
apart_line (p ∷ ps) qs line a e f =
    let parts = and_parts (list_all (λ (q : Text). not (are_alike p q)) qs) (are_apart ps qs) a in
    let either : ((begins_with p line ≡ true) ⊎ (begins_with_one ps line ≡ true)) → ⊥ =
    elim [
      | inl here ↦ apart_one p qs line parts.0 e here
      | inr later ↦ apart_line ps qs line parts.1 e later
    ] in
    either (or_cases (begins_with p line) (begins_with_one ps line) f)

-- lines of which the first begins with one of these, and with none of those
pub apart_next : (ps qs : List Text) (lines : List (Option Text)) → are_apart ps qs ≡ true → is_next qs lines ≡ true → is_next ps lines ≡ false
apart_next ps qs [] a e = refl
apart_next ps qs (None ∷ lines) a e = refl
apart_next ps qs (Some line ∷ lines) a e = false_from_ne_true (begins_with_one ps line) (λ f. apart_line ps qs line a e f)

-- one of several
one_before : (ps qs : List Text) (line : Text) → begins_with_one ps line ≡ true → begins_with_one (ps ++ qs) line ≡ true
one_before [] qs line e = absurd (false≢true e)
one_before (p ∷ ps) qs line e =
    let either : ((begins_with p line ≡ true) ⊎ (begins_with_one ps line ≡ true)) → begins_with_one (p ∷ ps ++ qs) line ≡ true =
    elim [
      | inl here ↦ or_left (begins_with p line) (begins_with_one (ps ++ qs) line) here
      | inr later ↦ or_right (begins_with p line) (begins_with_one (ps ++ qs) line) (one_before ps qs line later)
    ] in
    either (or_cases (begins_with p line) (begins_with_one ps line) e)

one_after : (ps qs : List Text) (line : Text) → begins_with_one qs line ≡ true → begins_with_one (ps ++ qs) line ≡ true
one_after [] qs line e = e
one_after (p ∷ ps) qs line e = or_right (begins_with p line) (begins_with_one (ps ++ qs) line) (one_after ps qs line e)

pub next_before : (ps qs : List Text) (lines : List (Option Text)) → is_next ps lines ≡ true → is_next (ps ++ qs) lines ≡ true
next_before ps qs [] e = absurd (false≢true e)
next_before ps qs (None ∷ lines) e = absurd (false≢true e)
next_before ps qs (Some line ∷ lines) e = one_before ps qs line e

pub next_after : (ps qs : List Text) (lines : List (Option Text)) → is_next qs lines ≡ true → is_next (ps ++ qs) lines ≡ true
next_after ps qs [] e = absurd (false≢true e)
next_after ps qs (None ∷ lines) e = absurd (false≢true e)
next_after ps qs (Some line ∷ lines) e = one_after ps qs line e

-- none of several
pub none_next : (ps qs : List Text) (lines : List (Option Text)) → is_next (ps ++ qs) lines ≡ false → (is_next ps lines ≡ false) × (is_next qs lines ≡ false)
none_next ps qs lines e = (
  false_from_ne_true (is_next ps lines) (λ f. true≢false (sym (next_before ps qs lines f) ∙ e)),
  false_from_ne_true (is_next qs lines) (λ f. true≢false (sym (next_after ps qs lines f) ∙ e)),
)

-- what comes next is seen from the first line
next_first : (ps : List Text) (line : Option Text) (lines more : List (Option Text)) → is_next ps (line ∷ lines) ≡ is_next ps (line ∷ more)
next_first ps None lines more = refl
next_first ps (Some line) lines more = refl

-- the lines of a part, and then more: none of these comes next
pub none_follows : (s : Shape) (ps : List Text) (lines more : List (Option Text)) → has_start s lines ≡ true → are_apart ps s.starts ≡ true → (s.is_optional ≡ true → is_next ps more ≡ false) → is_next ps (lines ++ more) ≡ false
none_follows s ps [] more has apart last = last has
none_follows s ps (line ∷ lines) more has apart last = next_first ps line (lines ++ more) lines ∙ apart_next ps s.starts (line ∷ lines) apart has

-- the lines of a part that must have some, and then more: one of its starts comes next
pub some_follows : (s : Shape) (lines more : List (Option Text)) → has_start s lines ≡ true → s.is_optional ≡ false → is_next s.starts (lines ++ more) ≡ true
some_follows s [] more has must = absurd (true≢false (sym has ∙ must))
some_follows s (line ∷ lines) more has must = next_first s.starts line (lines ++ more) lines ∙ has

-- lines of a part, before lines of any number of them
pub start_of_many : (a : Shape) (lines more : List (Option Text)) → has_start a lines ≡ true → has_start (many_shape a) more ≡ true → has_start (many_shape a) (lines ++ more) ≡ true
start_of_many a [] more has has' = has'
start_of_many a (line ∷ lines) more has has' = next_first a.starts line (lines ++ more) lines ∙ has
