-- Any number of parts.
use Rattle.std.proofs.Common.{◌≡◌, ◌++◌, Bool, true, false, ◌&&◌, not, List, [], ◌∷◌, Option, Some, None, flat_map, refl, ap, sym, ◌∙◌, subst, true≢false, append-nil, append_assoc}
use Rattle.std.proofs.lemmas.Bool.{and_parts, and_from, not-true}
use Rattle.std.proofs.lemmas.Option.{none-some, same_Some}
use Rattle.std.specs.List.{list_all}
use Rattle.text_model.specs.Words.{Text}
use Rattle.line_giver.specs.Giving.{Giving, HasPassed, known_after, lines_of_giving}
use Rattle.line_parts.specs.Parts.{Comes, IsRead, lines_of}
use Rattle.line_parts.specs.Shapes.{Shape, are_apart, has_start, is_next, many_shape}
use Rattle.line_parts.proofs.Starts.{none_follows, none_next, some_follows, start_of_many}
use Rattle.line_giver.proofs.Passing.{passed_both, passed_nothing}
use Rattle.line_parts.proofs.Lefts.{left_after, lines_append, passed_words, some_none}

-- all of them, before one more
list_all_more : {I : Type 0} (form : I → Bool) (xs : List I) (x : I) → list_all form xs ≡ true → form x ≡ true → list_all form (xs ++ x ∷ []) ≡ true
list_all_more form [] x all is = rw is refl
list_all_more form (y ∷ ys) x all is =
    let both = and_parts (form y) (list_all form ys) all in
    and_from (form y) (list_all form (ys ++ x ∷ [])) both.0 (list_all_more form ys x both.1 is)

-- the lines of items, before those of one more
words_more : {I : Type 0} (words : I → List (List Text)) (xs : List I) (x : I) → flat_map words (xs ++ x ∷ []) ≡ flat_map words xs ++ words x
words_more words [] x = append-nil (words x)
words_more words (y ∷ ys) x = ap (λ (t : List (List Text)). words y ++ t) (words_more words ys x) ∙ sym (append_assoc (words y) (flat_map words ys) (words x))

module _ {I : Type 0} (a : Shape) (has_form : I → Bool) (words : I → List (List Text)) where
  -- of items that come, those behind the ones that were read
  pub record Rest (all read : List I) (lines : Option (List (Option Text))) (more : List (Option Text)) : Type 0 where
    pub items : List I
    pub whole : all ≡ read ++ items
    pub form : list_all has_form items ≡ true
    pub left : lines ≡ Some (lines_of (flat_map words items) ++ more)

  -- items were read, and if others come, they are the first of those
  pub record IsReadSoFar {Stream : Type 0} (before after : Stream → List (Option Text) → Type 0) (old new : Giving) (read : List I) : Type 0 where
    pub form : list_all has_form read ≡ true
    pub passed : HasPassed before after old new (lines_of (flat_map words read))
    pub all : (xs : List I) (more : List (Option Text)) → Comes (many_shape a) (list_all has_form) (flat_map words) (lines_of_giving old) xs more → Rest xs read (lines_of_giving new) more

  -- what fits if any number of parts does
  record FitsMany : Type 0 where
    pub part : a.fits ≡ true
    pub firm : a.is_firm ≡ true
    pub must : a.is_optional ≡ false
    pub apart : are_apart a.stops a.starts ≡ true

  fit_many : (many_shape a).fits ≡ true → FitsMany
  fit_many e =
      let p = and_parts (a.fits && a.is_firm && not a.is_optional) (are_apart a.stops a.starts) e in
      let q = and_parts (a.fits && a.is_firm) (not a.is_optional) p.0 in
      let r = and_parts a.fits a.is_firm q.0 in
      record { part = r.0; firm = r.1; must = not-true a.is_optional q.1; apart = p.1 }

  module _ (starts : (x : I) → has_form x ≡ true → has_start a (lines_of (words x)) ≡ true) where
    -- the lines of items begin as those of one
    pub start_of_items : (xs : List I) → list_all has_form xs ≡ true → has_start (many_shape a) (lines_of (flat_map words xs)) ≡ true
    start_of_items [] all = refl
    start_of_items (x ∷ xs) all =
        let both = and_parts (has_form x) (list_all has_form xs) all in
        subst (λ t. has_start (many_shape a) t ≡ true) (sym (lines_append (words x) (flat_map words xs)))
        (start_of_many a (lines_of (words x)) (lines_of (flat_map words xs)) (starts x both.0) (start_of_items xs both.1))

    -- the first of them comes
    item_comes : FitsMany → {left : Option (List (Option Text))} (x : I) (xs : List I) (more : List (Option Text)) → list_all has_form (x ∷ xs) ≡ true → is_next (a.starts ++ a.stops) more ≡ false
        → left ≡ Some (lines_of (flat_map words (x ∷ xs)) ++ more) → Comes a has_form words left x (lines_of (flat_map words xs) ++ more)
    item_comes fit x xs more all apart left =
        let both = and_parts (has_form x) (list_all has_form xs) all in
        record {
          form = both.0;
          apart = none_follows (many_shape a) a.stops (lines_of (flat_map words xs)) more (start_of_items xs both.1) fit.apart (λ may. (none_next a.starts a.stops more apart).1);
          left =
              left
              ∙ ap (λ (t : List (Option Text)). Some (t ++ more)) (lines_append (words x) (flat_map words xs))
              ∙ ap Some (append_assoc (lines_of (words x)) (lines_of (flat_map words xs)) more);
        }

    -- none of them comes before other lines
    not_here : FitsMany → (x : I) (more : List (Option Text)) (after : Option (List (Option Text))) → has_form x ≡ true → is_next (a.starts ++ a.stops) more ≡ false → Some more ≡ known_after (lines_of (words x)) after → ⊥
    not_here fit x more None has apart was = none-some more (sym was)
    not_here fit x more (Some rest) has apart was =
        let same : more ≡ lines_of (words x) ++ rest = same_Some more (lines_of (words x) ++ rest) was in
        let here : is_next a.starts (lines_of (words x) ++ rest) ≡ true = some_follows a (lines_of (words x)) rest (starts x has) fit.must in
        true≢false (sym here ∙ sym (ap (is_next a.starts) same) ∙ (none_next a.starts a.stops more apart).0)

    -- no line was passed yet
    pub so_far_none : {Stream : Type 0} {p : Stream → List (Option Text) → Type 0} {old : Giving} → IsReadSoFar p p old old []
    so_far_none {Stream} {p} {old} = record {
      form = refl;
      passed = passed_nothing;
      all = λ xs more comes. record { items = xs; whole = refl; form = comes.form; left = comes.left };
    }

    module _ {Stream : Type 0} {q r : Stream → List (Option Text) → Type 0} {mid new : Giving} (read : List I) (fits : (many_shape a).fits ≡ true) where
      -- one more was read: it is the next of those that come
      rest_after : (x : I) → IsRead a has_form words q r mid new (Some x) → (all items : List I) (more : List (Option Text)) → all ≡ read ++ items → list_all has_form items ≡ true → is_next (a.starts ++ a.stops) more ≡ false
          → lines_of_giving mid ≡ Some (lines_of (flat_map words items) ++ more) → Rest all (read ++ x ∷ []) (lines_of_giving new) more
      rest_after x reads all [] more whole has apart left =
          let fit = fit_many fits in
          let was : lines_of_giving mid ≡ known_after (lines_of (words x)) (lines_of_giving new) = (reads.passed x refl).left in
          absurd (not_here fit x more (lines_of_giving new) (reads.form x refl) apart (sym left ∙ was))
      rest_after x reads all (y ∷ ys) more whole has apart left =
          let fit = fit_many fits in
          let comes = item_comes fit y ys more has apart left in
          let same : x ≡ y = same_Some x y (reads.all y (lines_of (flat_map words ys) ++ more) comes) in
          record {
            items = ys;
            whole = whole ∙ sym (append_assoc read (y ∷ []) ys) ∙ ap (λ (t : I). (read ++ t ∷ []) ++ ys) (sym same);
            form = (and_parts (has_form y) (list_all has_form ys) has).1;
            left = left_after (lines_of_giving mid) (lines_of_giving new) (lines_of (words y)) (lines_of (flat_map words ys) ++ more) (reads.passed y (ap Some same)).left comes.left;
          }

      -- no more was read: none is left of those that come
      all_read : IsRead a has_form words q r mid new None → (all items : List I) (more : List (Option Text)) → all ≡ read ++ items → list_all has_form items ≡ true → is_next (a.starts ++ a.stops) more ≡ false
          → lines_of_giving mid ≡ Some (lines_of (flat_map words items) ++ more) → read ≡ all
      all_read reads all [] more whole has apart left = sym (whole ∙ append-nil read)
      all_read reads all (y ∷ ys) more whole has apart left =
          let fit = fit_many fits in
          absurd (none-some y (reads.all y (lines_of (flat_map words ys) ++ more) (item_comes fit y ys more has apart left)))

    module _ {Stream : Type 0} {p q r : Stream → List (Option Text) → Type 0} {old mid new : Giving} (read : List I) (fits : (many_shape a).fits ≡ true) where
      -- one more was read
      pub so_far_more : (x : I) → IsReadSoFar p q old mid read → (a.fits ≡ true → IsRead a has_form words q r mid new (Some x)) → IsReadSoFar p r old new (read ++ x ∷ [])
      so_far_more x so reads =
          let fit = fit_many fits in
          let part = reads fit.part in
          record {
            form = list_all_more has_form read x so.form (part.form x refl);
            passed = subst (λ t. HasPassed p r old new (lines_of t)) (sym (words_more words read x)) (passed_words (flat_map words read) (words x) so.passed (part.passed x refl));
            all = λ xs more comes.
                let rest = so.all xs more comes in
                rest_after read fits x part xs rest.items more rest.whole rest.form comes.apart rest.left;
          }

      -- all were read
      pub so_far_end : IsReadSoFar p q old mid read → (a.fits ≡ true → IsRead a has_form words q r mid new None) → IsRead (many_shape a) (list_all has_form) (flat_map words) p r old new (Some read)
      so_far_end so reads =
          let fit = fit_many fits in
          let part = reads fit.part in
          let end : HasPassed p r old new (lines_of (flat_map words read)) = subst (λ t. HasPassed p r old new t) (append-nil (lines_of (flat_map words read))) (passed_both (lines_of (flat_map words read)) [] so.passed (part.none refl fit.firm)) in
          record {
            form = λ xs e. subst (λ (t : List I). list_all has_form t ≡ true) (same_Some read xs e) so.form;
            passed = λ xs e. subst (λ (t : List I). HasPassed p r old new (lines_of (flat_map words t))) (same_Some read xs e) end;
            none = λ e firm. absurd (some_none read e);
            some = λ may e. some_none read e;
            all = λ xs more comes.
                let rest = so.all xs more comes in
                ap Some (all_read read fits part xs rest.items more rest.whole rest.form comes.apart rest.left);
          }
