-- What there is to say of a value, by what a look at it found.
use Rattle.std.proofs.Common.{◌≡◌, Bool, true, ℕ, List, [], Option, Some, None, Ok, ap, bytes_eq, find, is_some, length, map, option_map, refl, sym, ◌∙◌, if◌then◌else◌}
use Rattle.std.specs.Borrow.{Bor}
use Rattle.std.specs.List.{list_any}
use Rattle.json_fields.specs.Kinds.{field_in, text_in}
use Rattle.json_tree.specs.View.{items_view}
use Rattle.json_tree.specs.declared.value.Value.{Value}
use Rattle.serde_json.specs.Data.{Data, Members}
use Rattle.serde_json.specs.Find.{as_array, as_object}
use Rattle.record_shapes.specs.Seen.{kind_seen}
use Rattle.record_shapes.specs.declared.shape.Kind.{Kind}
use Rattle.record_shapes.specs.declared.shape.Shape.{Shape}
use Rattle.record_notes.specs.Notes.{Said, array_said, by_member_said, fits, kind_said, one_said, parts_said, word_kind_said, word_said, wrong}
use Rattle.record_notes.specs.Paths.{member_path}
use Rattle.record_notes.specs.declared.note.What.TheVariants.{OutOfRange, UnknownForm}
use Rattle.record_notes.proofs.Mapped.{any-map, find-map}
use Rattle.record_notes.proofs.Parts.{count_of-view}

module _ (all : Bool) (path : List ℕ) (d : Data) where
  -- a text
  pub word_looked : (words : List (Bor (List ℕ))) (word : List ℕ) (b : Bool) → Ok word ≡ text_in d → b ≡ list_any (λ (w : Bor (List ℕ)). bytes_eq word w.now) words
      → word_said all path (map (λ (w : Bor (List ℕ)). w.now) words) d (text_in d) ≡ (if b then [] else wrong all path UnknownForm)
  word_looked words word b is h =
      ap (word_said all path (map (λ (w : Bor (List ℕ)). w.now) words) d) (sym is)
      ∙ ap (λ (found : Bool). if found then [] else wrong all path UnknownForm) (any-map (λ (w : Bor (List ℕ)). w.now) (bytes_eq word) words ∙ sym h)

  module _ (inside : List ℕ → Shape → Data → List Said) where
    -- an array
    pub array_looked : (shapes : List Shape) (last_may_lack : Bool) (vs : List Value) (b : Bool) → Some (items_view vs) ≡ as_array d → b ≡ fits shapes last_may_lack (length vs)
        → array_said all inside path shapes last_may_lack (as_array d) ≡ (if b then parts_said all inside path shapes 0 (items_view vs) else wrong all path OutOfRange)
    array_looked shapes last_may_lack vs b is h =
        ap (array_said all inside path shapes last_may_lack) (sym is)
        ∙ ap (λ (n : ℕ). if fits shapes last_may_lack n then parts_said all inside path shapes 0 (items_view vs) else wrong all path OutOfRange) (count_of-view vs)
        ∙ ap (λ (c : Bool). if c then parts_said all inside path shapes 0 (items_view vs) else wrong all path OutOfRange) (sym h)

    -- by what was found of the kinds
    abbrev by_shape : List ℕ → Option Shape → List Said
    by_shape by None = wrong all (member_path path by) UnknownForm
    by_shape by (Some shape) = inside path shape d

    kind_found : (by : List ℕ) (o : Option Kind) → kind_said all inside path by d (option_map kind_seen o) ≡ by_shape by (option_map (λ (k : Kind). k.shape) o)
    kind_found by None = refl
    kind_found by (Some k) = refl

    an_object : (by : List ℕ) (kinds : List Kind) (o : Option Members) → true ≡ is_some o
        → one_said all inside path by (map kind_seen kinds) d o ≡ by_member_said all inside path by (map kind_seen kinds) d (field_in by d)
    an_object by kinds None e = absurd (cc)
    an_object by kinds (Some ms) e = refl

    -- an object of a kind
    pub one_looked : (by : List ℕ) (kinds : List Kind) (w : Data) (word : List ℕ) (o : Option Shape) → true ≡ is_some (as_object d) → Ok w ≡ field_in by d → Ok word ≡ text_in w
        → o ≡ option_map (λ (k : Kind). k.shape) (find (λ (k : Kind). bytes_eq k.word.now word) kinds)
        → one_said all inside path by (map kind_seen kinds) d (as_object d) ≡ by_shape by o
    one_looked by kinds w word o object there text found =
        an_object by kinds (as_object d) object
        ∙ ap (by_member_said all inside path by (map kind_seen kinds) d) (sym there)
        ∙ ap (word_kind_said all inside path by (map kind_seen kinds) d) (sym text)
        ∙ ap (kind_said all inside path by d) (find-map kind_seen _ kinds)
        ∙ kind_found by (find (λ (k : Kind). bytes_eq k.word.now word) kinds)
        ∙ ap (by_shape by) (sym found)
