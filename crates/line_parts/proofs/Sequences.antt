-- One part after another.
use Rattle.std.proofs.Common.{◌≡◌, ◌++◌, Bool, true, false, ◌&&◌, List, Option, Some, None, refl, ap, ◌∙◌, subst, append_assoc}
use Rattle.std.proofs.lemmas.Bool.{and_parts, and_from}
use Rattle.std.proofs.lemmas.Option.{none-some, same_Some}
use Rattle.text_model.specs.Words.{Text}
use Rattle.line_giver.specs.Giving.{Giving, HasPassed, known_after, lines_of_giving}
use Rattle.line_parts.specs.Parts.{Comes, IsRead, both_have, lines_of, words_of_both}
use Rattle.line_parts.specs.Shapes.{Shape, are_apart, has_start, is_next, names_if, then_shape}
use Rattle.line_parts.proofs.Starts.{none_follows, none_next}
use Rattle.line_parts.proofs.Lefts.{left_after, lines_append, passed_words, some_none}

module _ {A B : Type 0} (a b : Shape) (form : A → Bool) (form' : B → Bool) (words : A → List (List Text)) (words' : B → List (List Text)) where
  -- both parts fit, and they are apart
  fit_both : (then_shape a b).fits ≡ true → (a.fits ≡ true) × (b.fits ≡ true) × (are_apart a.stops b.starts ≡ true)
  fit_both e =
      let all = and_parts (a.fits && b.fits) (are_apart a.stops b.starts) e in
      let both = and_parts a.fits b.fits all.0 in
      (both.0, both.1, all.1)

  -- both come: so does the first, and then the second with more
  first_comes : are_apart a.stops b.starts ≡ true → ((y : B) → form' y ≡ true → has_start b (lines_of (words' y)) ≡ true)
      → (left : Option (List (Option Text))) (x : A × B) (more : List (Option Text))
      → Comes (then_shape a b) (both_have form form') (words_of_both words words') left x more → Comes a form words left x.0 (lines_of (words' x.1) ++ more)
  first_comes apart starts left x more comes =
      let both = and_parts (form x.0) (form' x.1) comes.form in
      let none = none_next b.stops (names_if b.is_optional a.stops) more comes.apart in
      record {
        form = both.0;
        apart =
            none_follows b a.stops (lines_of (words' x.1)) more (starts x.1 both.1) apart
            (λ may. subst (λ o. is_next (names_if o a.stops) more ≡ false) may none.1);
        left =
            comes.left
            ∙ ap (λ (t : List (Option Text)). Some (t ++ more)) (lines_append (words x.0) (words' x.1))
            ∙ ap Some (append_assoc (lines_of (words x.0)) (lines_of (words' x.1)) more);
      }

  -- once the first is passed, the second comes
  second_comes : {old new : Option (List (Option Text))} (x : A × B) (more : List (Option Text))
      → old ≡ known_after (lines_of (words x.0)) new → Comes (then_shape a b) (both_have form form') (words_of_both words words') old x more → Comes b form' words' new x.1 more
  second_comes {old} {new} x more was comes = record {
    form = (and_parts (form x.0) (form' x.1) comes.form).1;
    apart = (none_next b.stops (names_if b.is_optional a.stops) more comes.apart).0;
    left =
        left_after old new (lines_of (words x.0)) (lines_of (words' x.1) ++ more) was
        (comes.left
        ∙ ap (λ (t : List (Option Text)). Some (t ++ more)) (lines_append (words x.0) (words' x.1))
        ∙ ap Some (append_assoc (lines_of (words x.0)) (lines_of (words' x.1)) more));
  }

  module _ {Stream : Type 0} {p q : Stream → List (Option Text) → Type 0} {old mid : Giving}
      (starts : (y : B) → form' y ≡ true → has_start b (lines_of (words' y)) ≡ true) (fits : (then_shape a b).fits ≡ true) where
    -- the first was not read
    pub then_no_first : (a.fits ≡ true → IsRead a form words p q old mid None) → IsRead (then_shape a b) (both_have form form') (words_of_both words words') p q old mid None
    then_no_first reads =
        let fit = fit_both fits in
        let first = reads fit.0 in
        record {
          form = λ x e. absurd (none-some x e);
          passed = λ x e. absurd (none-some x e);
          none = λ e firm. first.none refl (and_parts a.is_firm b.is_optional firm).0;
          some = λ may e. first.some (and_parts a.is_optional b.is_optional may).0 refl;
          all = λ x more comes. absurd (none-some x.0 (first.all x.0 (lines_of (words' x.1) ++ more) (first_comes fit.2 starts (lines_of_giving old) x more comes)));
        }

  module _ {Stream : Type 0} {p q r : Stream → List (Option Text) → Type 0} {old mid new : Giving}
      (starts : (y : B) → form' y ≡ true → has_start b (lines_of (words' y)) ≡ true) (fits : (then_shape a b).fits ≡ true) where
    -- the second was not read
    pub then_no_second : (x : A) → (a.fits ≡ true → IsRead a form words p q old mid (Some x)) → (b.fits ≡ true → IsRead b form' words' q r mid new None)
        → IsRead (then_shape a b) (both_have form form') (words_of_both words words') p r old new None
    then_no_second x reads reads' =
        let fit = fit_both fits in
        let first = reads fit.0 in
        let second = reads' fit.1 in
        record {
          form = λ y e. absurd (none-some y e);
          passed = λ y e. absurd (none-some y e);
          none = λ e firm. absurd (second.some (and_parts a.is_firm b.is_optional firm).1 refl);
          some = λ may e. second.some (and_parts a.is_optional b.is_optional may).1 refl;
          all = λ y more comes.
              let same : x ≡ y.0 = same_Some x y.0 (first.all y.0 (lines_of (words' y.1) ++ more) (first_comes fit.2 starts (lines_of_giving old) y more comes)) in
              let was : lines_of_giving old ≡ known_after (lines_of (words y.0)) (lines_of_giving mid) = (first.passed y.0 (ap Some same)).left in
              absurd (none-some y.1 (second.all y.1 more (second_comes y more was comes)));
        }

    -- both were read
    pub then_both : (x : A) (y : B) → (a.fits ≡ true → IsRead a form words p q old mid (Some x)) → (b.fits ≡ true → IsRead b form' words' q r mid new (Some y))
        → IsRead (then_shape a b) (both_have form form') (words_of_both words words') p r old new (Some (x, y))
    then_both x y reads reads' =
        let fit = fit_both fits in
        let first = reads fit.0 in
        let second = reads' fit.1 in
        record {
          form = λ z e. subst (λ (t : A × B). both_have form form' t ≡ true) (same_Some (x, y) z e) (and_from (form x) (form' y) (first.form x refl) (second.form y refl));
          passed = λ z e. subst (λ (t : A × B). HasPassed p r old new (lines_of (words_of_both words words' t))) (same_Some (x, y) z e) (passed_words (words x) (words' y) (first.passed x refl) (second.passed y refl));
          none = λ e firm. absurd (some_none (x, y) e);
          some = λ may e. some_none (x, y) e;
          all = λ z more comes.
              let same : x ≡ z.0 = same_Some x z.0 (first.all z.0 (lines_of (words' z.1) ++ more) (first_comes fit.2 starts (lines_of_giving old) z more comes)) in
              let was : lines_of_giving old ≡ known_after (lines_of (words z.0)) (lines_of_giving mid) = (first.passed z.0 (ap Some same)).left in
              let same' : y ≡ z.1 = same_Some y z.1 (second.all z.1 more (second_comes z more was comes)) in
              ap (λ (t : A). Some (t, y)) same ∙ ap (λ (t : B). Some (z.0, t)) same';
        }
