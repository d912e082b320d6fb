-- Parts that are told by what they begin with, one after another.
use Rattle.std.proofs.Common.{◌≡◌, ◌++◌, ◌==◌, eqb, Bool, true, false, ◌&&◌, ◌||◌, List, [], ◌∷◌, Option, Some, None, flat_map, refl, ap, sym, ◌∙◌, subst, true≢false, append-nil, append_assoc}
use Rattle.std.proofs.lemmas.Bool.{false≢true, and_from, and_parts}
use Rattle.std.proofs.lemmas.Option.{none-some, same_Some}
use Rattle.std.specs.List.{list_all, starts_with}
use Rattle.byte_lines.specs.declared.lines.Line.TheVariants.{Whole}
use Rattle.text_model.specs.Words.{Text}
use Rattle.line_giver.specs.Giving.{Giving, HasPassed, PassesSome, Sees, known_after, lines_of_giving}
use Rattle.line_giver.proofs.Passing.{known_none, passed_both, passed_nothing, passes_both, passes_of}
use Rattle.line_parts.specs.Parts.{Comes, IsRead, lines_of}
use Rattle.line_parts.specs.Shapes.{Shape, begins_with, has_start, is_next}
use Rattle.line_parts.proofs.Lefts.{left_after, lines_append, passed_words, some_none}
use Rattle.certificate_lists.specs.Shapes.{begun_shape, each_shape}

-- ---- what a line begins with

-- the first bytes of a line are these
begins_is : (name line : Text) → starts_with eqb line name ≡ begins_with name line
begins_is [] line = refl
begins_is (c ∷ cs) [] = refl
begins_is (c ∷ cs) (b ∷ bs) = ap (λ t. (c == b) && t) (begins_is cs bs)

or_false : (b : Bool) → b ≡ (b || false)
or_false true = refl
or_false false = refl

-- what comes next is seen from the first line
pub next_first : (ps : List Text) (line : Option Text) (lines : List (Option Text)) → is_next ps (line ∷ lines) ≡ is_next ps (line ∷ [])
next_first ps None lines = refl
next_first ps (Some line) lines = refl

-- no line begins with one of none
pub none_of_none : (more : List (Option Text)) → is_next [] more ≡ false
none_of_none [] = refl
none_of_none (None ∷ more) = refl
none_of_none (Some line ∷ more) = refl

-- a line was seen: it is the first of those that are left
seen_first : (ps : List Text) (seen : List (Option Text)) (after : Option (List (Option Text))) (line : Option Text) (lines : List (Option Text)) → seen ≡ line ∷ [] → known_after seen after ≡ Some lines → is_next ps (line ∷ []) ≡ is_next ps lines
seen_first ps seen None line lines was left = absurd (none-some lines left)
seen_first ps seen (Some rest) line lines was left =
    sym (next_first ps line rest) ∙ ap (is_next ps) (ap (λ (t : List (Option Text)). t ++ rest) (sym was) ∙ same_Some (seen ++ rest) lines left)

pub whole_begins : {g : Giving} (text name : Text) (b : Bool) → text ≡ g.text → b ≡ starts_with eqb text name → Sees g Whole → (lines : List (Option Text)) → lines_of_giving g ≡ Some lines → b ≡ is_next (name ∷ []) lines
whole_begins {g} text name b same is sees lines left =
    is
    ∙ begins_is name text
    ∙ ap (begins_with name) same
    ∙ or_false (begins_with name g.text)
    ∙ seen_first (name ∷ []) g.seen g.after (Some g.text) lines sees.seen left

-- ---- any number of parts

-- some lines were passed, the next one was looked at, and some were passed
pub passes_on : {Stream : Type 0} {p q r t : Stream → List (Option Text) → Type 0} {old seen mid new : Giving} → PassesSome p q old seen → HasPassed q r seen mid [] → PassesSome r t mid new → PassesSome p t old new
passes_on was look is = passes_both (passes_both was (passes_of [] look)) is

-- all of them, before one more
list_all_more : {I : Type 0} (form : I → Bool) (xs : List I) (x : I) → list_all form xs ≡ true → form x ≡ true → list_all form (xs ++ x ∷ []) ≡ true
list_all_more form [] x all is = rw is refl
list_all_more form (y ∷ ys) x all is =
    let both = and_parts (form y) (list_all form ys) all in
    and_from (form y) (list_all form (ys ++ x ∷ [])) both.0 (list_all_more form ys x both.1 is)

-- the lines of items, before those of one more
words_more : {I : Type 0} (words : I → List (List Text)) (xs : List I) (x : I) → flat_map words (xs ++ x ∷ []) ≡ flat_map words xs ++ words x
words_more words [] x = append-nil (words x)
words_more words (y ∷ ys) x = ap (λ (t : List (List Text)). words y ++ t) (words_more words ys x) ∙ sym (append_assoc (words y) (flat_map words ys) (words x))

-- a part that must have lines begins with its name
start_is : (name : Text) (lines more : List (Option Text)) → has_start (begun_shape name) lines ≡ true → is_next (name ∷ []) (lines ++ more) ≡ true
start_is name [] more has = absurd (false≢true has)
start_is name (line ∷ lines) more has = next_first (name ∷ []) line (lines ++ more) ∙ sym (next_first (name ∷ []) line lines) ∙ has

module _ {I : Type 0} (s : Shape) (name : Text) (has_form : I → Bool) (words : I → List (List Text)) where
  -- of items that come, those behind the ones that were read
  pub record Rest (all read : List I) (lines : Option (List (Option Text))) (more : List (Option Text)) : Type 0 where
    pub items : List I
    pub whole : all ≡ read ++ items
    pub form : list_all has_form items ≡ true
    pub left : lines ≡ Some (lines_of (flat_map words items) ++ more)

  -- items were read, and if others come, they are the first of those
  pub record AreRead {Stream : Type 0} (before after : Stream → List (Option Text) → Type 0) (old new : Giving) (read : List I) : Type 0 where
    pub form : list_all has_form read ≡ true
    pub passed : HasPassed before after old new (lines_of (flat_map words read))
    pub all : (xs : List I) (more : List (Option Text)) → Comes (each_shape name) (list_all has_form) (flat_map words) (lines_of_giving old) xs more → Rest xs read (lines_of_giving new) more

  -- no line was passed yet
  pub none_read : {Stream : Type 0} {p : Stream → List (Option Text) → Type 0} {old : Giving} → AreRead p p old old []
  none_read {Stream} {p} {old} = record {
    form = refl;
    passed = passed_nothing;
    all = λ xs more comes. record { items = xs; whole = refl; form = comes.form; left = comes.left };
  }

  module _ {Stream : Type 0} {p q r : Stream → List (Option Text) → Type 0} {old mid new : Giving} (read : List I) where
    -- the next line was looked at
    pub next_seen : AreRead p q old mid read → HasPassed q r mid new [] → AreRead p r old new read
    next_seen so seen = record {
      form = so.form;
      passed = subst (λ t. HasPassed p r old new t) (append-nil (lines_of (flat_map words read))) (passed_both (lines_of (flat_map words read)) [] so.passed seen);
      all = λ xs more comes.
          let rest = so.all xs more comes in
          record { items = rest.items; whole = rest.whole; form = rest.form; left = sym (known_none (lines_of_giving new)) ∙ sym seen.left ∙ rest.left };
    }

  -- the next line begins with the name, or not
  abbrev pub Begins : Giving → Bool → Type 0
  Begins g b = (lines : List (Option Text)) → lines_of_giving g ≡ Some lines → b ≡ is_next (name ∷ []) lines

  module _ (is : s ≡ begun_shape name) (starts : (x : I) → has_form x ≡ true → has_start s (lines_of (words x)) ≡ true) where
    -- the first of some items comes
    item_comes : {left : Option (List (Option Text))} (x : I) (xs : List I) (more : List (Option Text)) → list_all has_form (x ∷ xs) ≡ true → left ≡ Some (lines_of (flat_map words (x ∷ xs)) ++ more)
        → Comes (begun_shape name) has_form words left x (lines_of (flat_map words xs) ++ more)
    item_comes x xs more all left = record {
      form = (and_parts (has_form x) (list_all has_form xs) all).0;
      apart = none_of_none (lines_of (flat_map words xs) ++ more);
      left =
          left
          ∙ ap (λ (t : List (Option Text)). Some (t ++ more)) (lines_append (words x) (flat_map words xs))
          ∙ ap Some (append_assoc (lines_of (words x)) (lines_of (flat_map words xs)) more);
    }

    -- the first line of an item that comes begins with the name
    item_begins : (g : Giving) (x : I) (more : List (Option Text)) → Comes (begun_shape name) has_form words (lines_of_giving g) x more → (b : Bool) → Begins g b → b ≡ true
    item_begins g x more comes b begins =
        begins (lines_of (words x) ++ more) comes.left
        ∙ start_is name (lines_of (words x)) more (subst (λ (t : Shape). has_start t (lines_of (words x)) ≡ true) is (starts x comes.form))

    -- the part, by its name
    as_begun : {Stream : Type 0} {p q : Stream → List (Option Text) → Type 0} {old new : Giving} {g : Option I} → (s.fits ≡ true → IsRead s has_form words p q old new g) → IsRead (begun_shape name) has_form words p q old new g
    as_begun {Stream} {p} {q} {old} {new} {g} reads = subst (λ (t : Shape). t.fits ≡ true → IsRead t has_form words p q old new g) is reads refl

    -- the next line does not begin with the name: no item is left of those that come
    no_more : (read : List I) (g : Giving) → Begins g false → (all items : List I) (more : List (Option Text)) → all ≡ read ++ items → list_all has_form items ≡ true → lines_of_giving g ≡ Some (lines_of (flat_map words items) ++ more) → read ≡ all
    no_more read g begins all [] more whole has left = sym (whole ∙ append-nil read)
    no_more read g begins all (y ∷ ys) more whole has left = absurd (false≢true (item_begins g y (lines_of (flat_map words ys) ++ more) (item_comes y ys more has left) false begins))

    module _ {Stream : Type 0} {q r : Stream → List (Option Text) → Type 0} {mid new : Giving} (read : List I) where
      -- it does, so an item is left; it is the one that was read
      more_is : Begins mid true → (x : I) → IsRead (begun_shape name) has_form words q r mid new (Some x) → (all items : List I) (more : List (Option Text)) → all ≡ read ++ items → list_all has_form items ≡ true → is_next (name ∷ []) more ≡ false
          → lines_of_giving mid ≡ Some (lines_of (flat_map words items) ++ more) → Rest all (read ++ x ∷ []) (lines_of_giving new) more
      more_is begins x reads all [] more whole has apart left = absurd (true≢false (begins more left ∙ apart))
      more_is begins x reads all (y ∷ ys) more whole has apart left =
          let comes = item_comes y ys more has left in
          let same : x ≡ y = same_Some x y (reads.all y (lines_of (flat_map words ys) ++ more) comes) in
          record {
            items = ys;
            whole = whole ∙ sym (append_assoc read (y ∷ []) ys) ∙ ap (λ (t : I). (read ++ t ∷ []) ++ ys) (sym same);
            form = (and_parts (has_form y) (list_all has_form ys) has).1;
            left = left_after (lines_of_giving mid) (lines_of_giving new) (lines_of (words y)) (lines_of (flat_map words ys) ++ more) (reads.passed y (ap Some same)).left comes.left;
          }

      -- nor can it be that none was read
      some_read : Begins mid true → IsRead (begun_shape name) has_form words q r mid new None → (items : List I) (more : List (Option Text)) → list_all has_form items ≡ true → is_next (name ∷ []) more ≡ false
          → lines_of_giving mid ≡ Some (lines_of (flat_map words items) ++ more) → ⊥
      some_read begins reads [] more has apart left = true≢false (begins more left ∙ apart)
      some_read begins reads (y ∷ ys) more has apart left = none-some y (reads.all y (lines_of (flat_map words ys) ++ more) (item_comes y ys more has left))

    module _ {Stream : Type 0} {p q r : Stream → List (Option Text) → Type 0} {old mid new : Giving} (read : List I) where
      -- one more was read
      pub one_more : Begins mid true → (x : I) → AreRead p q old mid read → (s.fits ≡ true → IsRead s has_form words q r mid new (Some x)) → AreRead p r old new (read ++ x ∷ [])
      one_more begins x so reads =
          let part = as_begun reads in
          record {
            form = list_all_more has_form read x so.form (part.form x refl);
            passed = subst (λ t. HasPassed p r old new (lines_of t)) (sym (words_more words read x)) (passed_words (flat_map words read) (words x) so.passed (part.passed x refl));
            all = λ xs more comes.
                let rest = so.all xs more comes in
                more_is read begins x part xs rest.items more rest.whole rest.form comes.apart rest.left;
          }

      -- a part does not come
      pub broken : Begins mid true → AreRead p q old mid read → (s.fits ≡ true → IsRead s has_form words q r mid new None) → IsRead (each_shape name) (list_all has_form) (flat_map words) p r old new None
      broken begins so reads =
          let part = as_begun reads in
          record {
            form = λ xs e. absurd (none-some xs e);
            passed = λ xs e. absurd (none-some xs e);
            none = λ e firm. absurd (false≢true firm);
            some = λ may e. false≢true may;
            all = λ xs more comes.
                let rest = so.all xs more comes in
                absurd (some_read read begins part rest.items more rest.form comes.apart rest.left);
          }

    module _ {Stream : Type 0} {p q : Stream → List (Option Text) → Type 0} {old new : Giving} (read : List I) where
      -- all were read
      pub all_read : Begins new false → AreRead p q old new read → IsRead (each_shape name) (list_all has_form) (flat_map words) p q old new (Some read)
      all_read begins so = record {
        form = λ xs e. subst (λ (t : List I). list_all has_form t ≡ true) (same_Some read xs e) so.form;
        passed = λ xs e. subst (λ (t : List I). HasPassed p q old new (lines_of (flat_map words t))) (same_Some read xs e) so.passed;
        none = λ e firm. absurd (some_none read e);
        some = λ may e. some_none read e;
        all = λ xs more comes.
            let rest = so.all xs more comes in
            ap Some (no_more read new begins xs rest.items more rest.whole rest.form rest.left);
      }
