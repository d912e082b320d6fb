-- Of values without members, and not asked what is wrong, there is nothing to say.
use Rattle.std.proofs.Common.{◌≡◌, true, false, not, ◌&&◌, Bool, ℕ, zero, suc, List, [], ◌∷◌, ◌++◌, Option, Some, None, Result, Ok, Err, ap₂, bytes_eq, refl, ◌||◌, if◌then◌else◌}
use Rattle.std.specs.List.{list_all, list_any}
use Rattle.serde_json.specs.Data.{Data, Items, no_items, item}
use Rattle.serde_json.specs.Find.{as_array}
use Rattle.json_fields.specs.Kinds.{text_in}
use Rattle.json_fields.specs.declared.fault.FieldFault.{FieldFault}
use Rattle.record_shapes.specs.Forms.{form_fault}
use Rattle.record_shapes.specs.Layouts.{Array, Layout, ListOf, Member, Object, OneOf, Plain, Whole, Word, layout_of}
use Rattle.record_shapes.specs.declared.shape.Shape.{Shape}
use Rattle.record_notes.specs.Notes.{Said, array_said, count_of, entries_said, fault_said, fits, lack_said, layout_said, list_said, member_said, parts_said, said_in, word_said, wrong}
use Rattle.record_notes.specs.Paths.{entry_path, member_path}
use Rattle.record_notes.specs.declared.note.What.TheVariants.{UnknownForm}
use Rattle.record_notes.specs.Seen.{has_no_members, is_nameless_in, is_quiet}

no_fault : (path : List ℕ) (d : Data) (o : Option FieldFault) → fault_said false path d o ≡ []
no_fault path d None = refl
no_fault path d (Some fault) = refl

no_word : (path : List ℕ) (words : List (List ℕ)) (d : Data) (r : Result (List ℕ) FieldFault) → word_said false path words d r ≡ []
no_word path words d (Err fault) = refl
no_word path words d (Ok word) = by (list_any (bytes_eq word) words) where
  by : (b : Bool) → (if b then [] else wrong false path UnknownForm) ≡ []
  by true = refl
  by false = refl

no_lack : (b : Bool) (path : List ℕ) → lack_said false b path ≡ []
no_lack true path = refl
no_lack false path = refl

both : (a b : Bool) → (a && b) ≡ true → (a ≡ true) × (b ≡ true)
both true true e = (refl, refl)
both true false e = absurd (cc)
both false b e = absurd (cc)

module _ (quiet : Shape → Bool) (inside : List ℕ → Shape → Data → List Said) (none : (path : List ℕ) (shape : Shape) (d : Data) → quiet shape ≡ true → inside path shape d ≡ []) where
  no_entries : (path : List ℕ) (shape : Shape) (i : ℕ) (ds : Items) → quiet shape ≡ true → entries_said false inside path shape i ds ≡ []
  no_entries path shape i no_items e = refl
  no_entries path shape i (item d ds) e = ap₂ (λ (a b : List Said). a ++ b) (none (entry_path path i) shape d e) (no_entries path shape (suc i) ds e)

  no_list : (path : List ℕ) (shape : Shape) (o : Option Items) → quiet shape ≡ true → list_said false inside path shape o ≡ []
  no_list path shape None e = refl
  no_list path shape (Some ds) e = no_entries path shape 0 ds e

  no_parts : (path : List ℕ) (shapes : List Shape) (i : ℕ) (ds : Items) → list_all quiet shapes ≡ true → parts_said false inside path shapes i ds ≡ []
  no_parts path [] i ds e = refl
  no_parts path (shape ∷ shapes) i no_items e = refl
  no_parts path (shape ∷ shapes) i (item d ds) e =
      let parts = both (quiet shape) (list_all quiet shapes) e in
      ap₂ (λ (a b : List Said). a ++ b) (none (entry_path path i) shape d parts.0) (no_parts path shapes (suc i) ds parts.1)

  no_array : (path : List ℕ) (shapes : List Shape) (last_may_lack : Bool) (o : Option Items) → list_all quiet shapes ≡ true → array_said false inside path shapes last_may_lack o ≡ []
  no_array path shapes last_may_lack None e = refl
  no_array path shapes last_may_lack (Some ds) e = by (fits shapes last_may_lack (count_of ds)) (no_parts path shapes 0 ds e) where
    by : (b : Bool) → parts_said false inside path shapes 0 ds ≡ [] → (if b then parts_said false inside path shapes 0 ds else []) ≡ []
    by true none = none
    by false none = refl

  no_layout : (path : List ℕ) (d : Data) (l : Layout) → has_no_members quiet l ≡ true → layout_said false inside path d l ≡ []
  no_layout path d (Plain form) e = no_fault path d (form_fault form d)
  no_layout path d (Word words) e = no_word path words d (text_in d)
  no_layout path d (ListOf shape) e = no_list path shape (as_array d) e
  no_layout path d (Array entries last_may_lack) e = no_array path entries last_may_lack (as_array d) e
  no_layout path d (Object members) e = absurd (cc)
  no_layout path d (Whole members) e = absurd (cc)
  no_layout path d (OneOf by kinds) e = absurd (cc)

nameless : (m n : ℕ) (path : List ℕ) (shape : Shape) (d : Data) → is_nameless_in m shape ≡ true → said_in n false path shape d ≡ []
nameless m zero path shape d e = refl
nameless zero (suc n) path shape d e = absurd (cc)
nameless (suc m) (suc n) path shape d e = no_layout (is_nameless_in m) (said_in n false) (nameless m n) path d (layout_of shape) e

-- of a value
pub of_a_value : (n : ℕ) (all : Bool) (path : List ℕ) (shape : Shape) (d : Data) → is_quiet all shape ≡ true → said_in n all path shape d ≡ []
of_a_value n true path shape d e = absurd (cc)
of_a_value n false path shape d e = nameless 5 n path shape d e

-- of a member
pub of_a_member : (n : ℕ) (all : Bool) (path : List ℕ) (is_whole : Bool) (m : Member) (r : Result Data FieldFault) → is_quiet all m.shape ≡ true → member_said all (said_in n all) path is_whole m r ≡ []
of_a_member n all path is_whole m (Ok d) e = of_a_value n all (member_path path m.name) m.shape d e
of_a_member n false path is_whole m (Err fault) e = no_lack (is_whole || m.is_needed) (member_path path m.name)
of_a_member n true path is_whole m (Err fault) e = absurd (cc)

-- of a list
pub of_a_list : (n : ℕ) (all : Bool) (path : List ℕ) (shape : Shape) (o : Option Items) → is_quiet all shape ≡ true → list_said all (said_in n all) path shape o ≡ []
of_a_list n true path shape o e = absurd (cc)
of_a_list n false path shape o e = no_list (λ (s : Shape). is_quiet false s) (said_in n false) (of_a_value n false) path shape o e
